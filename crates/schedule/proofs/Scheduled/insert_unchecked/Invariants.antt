use Rattle.std.proofs.Common.{◌≡◌, ◌≤◌}
use Rattle.schedule.proofs.Structs.{sifted}
use Rattle.schedule.proofs.Scheduled.insert_unchecked.Given as goal

abbrev pub invariant-loop-i : goal.invariant-loop-i
invariant-loop-i l = (l.i ≤ l.count) × (sifted l.r l.i l.s ≡ sifted l.r l.count l.fn.s)

abbrev pub decreases-loop-i : goal.decreases-loop-i
decreases-loop-i l = l.i
