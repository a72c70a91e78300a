use Rattle.std.proofs.Common.{◌≡◌}
use Rattle.schedule.proofs.Structs.{empty, pushed, earliest}
use Rattle.schedule.proofs.Scheduled.take_earliest_unchecked.Given as goal

abbrev pub invariant-loop-i : goal.invariant-loop-i
invariant-loop-i l = (earliest l.c l.i l.s ≡ earliest empty l.count l.fn.s) × (pushed l.c l.i l.s ≡ pushed empty l.count l.fn.s)
