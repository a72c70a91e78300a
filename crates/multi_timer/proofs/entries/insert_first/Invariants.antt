use Rattle.std.proofs.Common.{◌≡◌, ◌≤◌, length}
use Rattle.multi_timer.proofs.Lists.{moved_up}
use Rattle.multi_timer.proofs.entries.insert_first.Given as goal

abbrev pub invariant-loop-i : goal.invariant-loop-i
invariant-loop-i l = (l.i ≤ l.n) × ((length l.keys ≡ length l.initial.keys) × ((length l.deadlines ≡ length l.initial.deadlines) × ((moved_up l.key l.i l.keys ≡ moved_up l.key l.n l.initial.keys) × (moved_up l.deadline l.i l.deadlines ≡ moved_up l.deadline l.n l.initial.deadlines))))
