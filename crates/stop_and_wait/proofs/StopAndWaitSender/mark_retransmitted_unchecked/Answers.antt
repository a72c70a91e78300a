use Prim.Native.Nat.{◌+◌}
use mathlib.Core.Path.{ap, ◌∙◌}
use native.Mathlib.Omega.{arith}
use Rattle.window.specs.Slots.{Sender, sender, mark_retransmitted}
use Rattle.window.specs.declared.SendWindow.{SendWindow}
use Rattle.stop_and_wait.specs.Sender.{end_of, counted}
use Rattle.stop_and_wait.proofs.StopAndWaitSender.mark_retransmitted_unchecked.Goals as goal

pub mark_retransmitted_unchecked-window-requires : goal.mark_retransmitted_unchecked-window-requires
mark_retransmitted_unchecked-window-requires c = record { window_size_nonzero = rw c.window_unchecked-window.ensures ((omega arith, omega arith)); total_sent_bound = rw c.window_unchecked-window.ensures ((omega arith, omega arith)) }

pub returns : goal.returns
returns c = ap (λ (u : Sender). end_of (counted c.args.self c.args.self.in_flight (c.args.self.current_retries + 1) u.window) u.store) (c.mark_retransmitted_unchecked-window.ensures ∙ ap (λ (w : SendWindow). mark_retransmitted (sender w c.args.store.now) c.args.self.current_seq) c.window_unchecked-window.ensures)
