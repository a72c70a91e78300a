use native.Mathlib.Omega.{arith}
use Rattle.text.proofs.Laws.{rest_first}
use Rattle.report.proofs.Lines.{line_room, line_next, line_end}
use Rattle.report.proofs.write_lines.Goals as goal

pub loop-row-init : goal.loop-row-init
loop-row-init c = rest_first c.requires

pub write_line-next-requires : goal.write_line-next-requires
write_line-next-requires c = let l = c.loop-row in line_room c.args.rows.now l.row-index l.invariant (omega arith)

pub loop-row-preserved : goal.loop-row-preserved
loop-row-preserved c = let l = c.loop-row in
    let rows = c.args.rows.now in
    let e = c.write_line-next.ensures in line_next rows l.row-index l.invariant (omega arith) e.0 e.1

pub shape_of-out : goal.shape_of-out
shape_of-out c = c.loop-row.invariant.size

pub returns : goal.returns
returns c = let l = c.loop-row in line_end c.args.rows.now l.row-index l.invariant (omega arith)
