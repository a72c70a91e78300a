use native.Mathlib.Omega.{arith}
use Prim.Native.Nat.{ℕ}
use mathlib.Core.Path.{refl, sym, ap, ◌∙◌}
use Rattle.notes.specs.Notes.{marked_below}
use Rattle.notes.proofs.Marks.{mark_next, mark_same}
use Rattle.notes.proofs.mark_rows.Goals as goal

pub loop-i-init : goal.loop-i-init
loop-i-init c = let a = c.args in (sym (mark_same a.from a.from a.rows.now c.requires.2 (omega arith)), refl)

pub loop-i-preserved : goal.loop-i-preserved
loop-i-preserved c = (c.mark.ensures ∙ rw c.loop-i.invariant.0 (mark_next c.loop-i.i c.args.rows.now (omega arith)), omega arith)

pub returns : goal.returns
returns c = c.loop-i.invariant.0 ∙ ap (λ (n : ℕ). marked_below n c.args.rows.now) (omega arith)
