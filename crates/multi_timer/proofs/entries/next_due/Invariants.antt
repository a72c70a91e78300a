use Rattle.std.proofs.Common.{◌≡◌}
use Rattle.multi_timer.specs.Internal.{next_due}
use Rattle.multi_timer.proofs.entries.next_due.Given as goal

abbrev pub invariant-loop-i : goal.invariant-loop-i
invariant-loop-i l = next_due l.count l.i l.time l.keys l.deadlines ≡ next_due l.count l.from l.time l.keys l.deadlines
