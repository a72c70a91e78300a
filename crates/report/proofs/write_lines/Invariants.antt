use Rattle.text.proofs.Laws.{Rest}
use Rattle.report.proofs.Lines.{lines_from}
use Rattle.report.proofs.write_lines.Given as goal

abbrev pub invariant-loop-row : goal.invariant-loop-row
invariant-loop-row l = Rest l.initial.out l.at (lines_from l.rows 0) l.out l.next (lines_from l.rows l.row-index)
