use mathlib.Core.Path.{sym, ap, ◌∙◌}
use mathlib.Core.Bool.{false}
use Rattle.window.specs.Slots.{sender}
use Rattle.window.specs.Sending.{send_chunk}
use Rattle.window.specs.declared.SendWindow.{SendWindow}
use Rattle.window.proofs.Laws.{numbers_state, send_state}
use Rattle.stop_and_wait.specs.Sender.{window_of, end_of, window_end, sent}
use Rattle.stop_and_wait.proofs.Senders.{sent_is}
use Rattle.stop_and_wait.proofs.StopAndWaitSender.send_chunk.Goals as goal

pub returns-then-numbers_broken : goal.returns-then-numbers_broken
returns-then-numbers_broken c = ap (sent c.args.self) (send_state false (window_end (end_of c.args.self c.args.store.now)) c.args.payload.now c.args.out.now (numbers_state false (window_of c.args.self) c.args.store.now (sym c.numbers_broken.ensures ∙ c.if-numbers_broken.true)))

pub window_unchecked-window-requires : goal.window_unchecked-window-requires
window_unchecked-window-requires c = sym c.numbers_broken.ensures ∙ c.if-numbers_broken.false

pub returns : goal.returns
returns c = sent_is c.args.self _ _ _ _ c.after_send.ensures (c.send_chunk-result.ensures ∙ ap (λ (w : SendWindow). send_chunk false (sender w c.args.store.now) c.args.payload.now c.args.out.now) c.window_unchecked-window.ensures)
