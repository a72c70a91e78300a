use Prim.Native.Nat.{◌+◌}
use mathlib.Core.Path.{ap, ◌∙◌}
use native.Mathlib.Omega.{arith}
use Rattle.window.specs.Slots.{sender, release}
use Rattle.window.specs.declared.SendWindow.{SendWindow}
use Rattle.stop_and_wait.specs.Sender.{end_of}
use Rattle.stop_and_wait.proofs.Senders.{acknowledged_is}
use Rattle.stop_and_wait.proofs.StopAndWaitSender.acknowledge_unchecked.Goals as goal

pub release_unchecked-requires : goal.release_unchecked-requires
release_unchecked-requires c = rw c.window_unchecked-window.ensures (record {
  window_size_nonzero = (omega arith, omega arith);
  send_base_bound = omega arith;
  clean = c.requires.clean;
})

pub returns : goal.returns
returns c = acknowledged_is (end_of c.args.self c.args.store.now) c.args.seq_num _ _ (c.release_unchecked.ensures ∙ ap (λ (w : SendWindow). release (sender w c.args.store.now) (c.args.seq_num + 1)) c.window_unchecked-window.ensures)
