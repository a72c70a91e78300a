use Rattle.host_report.proofs.Laws.{on_reported}
use Rattle.host_report.proofs.report.Goals as goal

pub returns : goal.returns
returns c = on_reported c.count_answer.ensures c.write_report.ensures
