use mathlib.Core.Path.{◌≡◌}
use lib.ListN.{length}
use Rattle.notes.specs.Notes.{marked_below}
use Rattle.notes.proofs.mark_rows.Given as goal

abbrev pub invariant-loop-i : goal.invariant-loop-i
invariant-loop-i l = (l.rows ≡ marked_below l.i l.initial.rows) × (length l.rows ≡ length l.initial.rows)
