use Prim.Native.Nat.{◌+◌, ◌-◌}
use mathlib.Core.Path.{◌≡◌}
use lib.ListN.{length}
use Rattle.window.specs.Slots.{sender}
use Rattle.window.specs.Resending.{mark_from}
use Rattle.window.proofs.SendWindow.mark_retransmitted_from_unchecked.Given as goal

abbrev pub invariant-loop-n : goal.invariant-loop-n
invariant-loop-n l = (l.self.window_size ≡ l.initial.self.window_size) × (length l.store ≡ length l.initial.store) × (l.self.total_sent ≡ l.initial.self.total_sent + (l.n - l.first)) × (l.self.retransmissions ≡ l.initial.self.retransmissions + (l.n - l.first)) × (mark_from (sender l.self l.store) l.n (l.first + l.count - l.n) ≡ mark_from (sender l.initial.self l.initial.store) l.first l.count)
