use Rattle.lent_events.proofs.Rows.{Passed}
use Rattle.lent_events.proofs.check_rows.Given as goal

abbrev pub invariant-loop-row : goal.invariant-loop-row
invariant-loop-row l = Passed l.rows l.row-index l.late
