use Prim.Native.Nat.{◌+◌}
use mathlib.Core.Path.{◌≡◌}
use lib.ListN.{length}
use Rattle.trace.proofs.Lines.{lines_from}
use Rattle.trace.proofs.lines_fit.Given as goal

abbrev pub invariant-loop-row : goal.invariant-loop-row
invariant-loop-row l = l.left + length (lines_from l.rows 0) ≡ l.room + length (lines_from l.rows l.row-index)
