use Rattle.std.proofs.Common.{◌≤◌}
use Rattle.multi_timer.specs.Internal.{Partitioned}
use Rattle.multi_timer.proofs.entries.partition.Given as goal

abbrev pub invariant-loop-i : goal.invariant-loop-i
invariant-loop-i l = (l.i ≤ l.count) × Partitioned l.i l.time l.fn.keys l.fn.deadlines l.fn.out l.left l.keys l.deadlines l.out
