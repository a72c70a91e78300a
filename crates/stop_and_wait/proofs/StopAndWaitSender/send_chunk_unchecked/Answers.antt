use mathlib.Core.Path.{ap, ◌∙◌}
use Rattle.window.specs.Slots.{sender}
use Rattle.window.specs.Sending.{send_chunk_unchecked}
use Rattle.window.specs.declared.SendWindow.{SendWindow}
use Rattle.stop_and_wait.proofs.Senders.{sent_is}
use Rattle.stop_and_wait.proofs.StopAndWaitSender.send_chunk_unchecked.Goals as goal

pub send_chunk_unchecked-window-requires : goal.send_chunk_unchecked-window-requires
send_chunk_unchecked-window-requires c = rw c.window_unchecked-window.ensures (record { can_send_chunk = c.requires.can_send_chunk; clean = c.requires.clean })

pub returns : goal.returns
returns c = sent_is c.args.self _ _ _ _ c.after_send.ensures (c.send_chunk_unchecked-window.ensures ∙ ap (λ (w : SendWindow). send_chunk_unchecked (sender w c.args.store.now) c.args.payload.now c.args.out.now) c.window_unchecked-window.ensures)
