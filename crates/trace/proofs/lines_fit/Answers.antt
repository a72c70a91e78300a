use mathlib.Core.Path.{refl}
use native.Mathlib.Omega.{arith}
use Rattle.trace.proofs.Lines.{fits_end, fits_not, fits_next}
use Rattle.trace.proofs.lines_fit.Goals as goal

pub loop-row-init : goal.loop-row-init
loop-row-init c = refl

pub returns-then-left-k : goal.returns-then-left-k
returns-then-left-k c = let l = c.loop-row in
    let a = c.args in
    fits_not a.rows.now a.room l.left l.row-index l.invariant (omega arith) c.line_length-k.ensures (omega arith)

pub loop-row-preserved : goal.loop-row-preserved
loop-row-preserved c = let l = c.loop-row in
    let a = c.args in
    fits_next a.rows.now a.room l.left l.row-index l.invariant (omega arith) c.line_length-k.ensures (omega arith)

pub returns : goal.returns
returns c = let l = c.loop-row in
    let a = c.args in
    fits_end a.rows.now a.room l.left l.row-index l.invariant (omega arith)
