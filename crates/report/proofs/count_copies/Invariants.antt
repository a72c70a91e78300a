use Prim.Native.Nat.{◌+◌, ◌*◌, ◌≤◌}
use mathlib.Core.Path.{◌≡◌}
use Rattle.report.proofs.Counts.{copies_from}
use Rattle.report.proofs.count_copies.Given as goal

abbrev pub invariant-loop-row : goal.invariant-loop-row
invariant-loop-row l = (l.sum + copies_from l.rows l.row-index ≡ copies_from l.rows 0) × (l.sum ≤ 2 * l.row-index)
