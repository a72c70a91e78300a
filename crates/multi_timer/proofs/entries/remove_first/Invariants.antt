use Rattle.std.proofs.Common.{◌≡◌, ◌-◌, ◌≤◌, length}
use Rattle.multi_timer.proofs.Lists.{moved_down}
use Rattle.multi_timer.proofs.entries.remove_first.Given as goal

abbrev pub invariant-loop-i : goal.invariant-loop-i
invariant-loop-i l = (1 ≤ l.i) × ((l.i ≤ l.n) × ((length l.keys ≡ length l.initial.keys) × ((length l.deadlines ≡ length l.initial.deadlines) × ((moved_down (l.n - l.i) (l.i - 1) l.keys ≡ moved_down (l.n - 1) (1 - 1) l.initial.keys) × (moved_down (l.n - l.i) (l.i - 1) l.deadlines ≡ moved_down (l.n - 1) (1 - 1) l.initial.deadlines)))))
