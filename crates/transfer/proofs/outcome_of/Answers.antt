use Rattle.step.specs.State.{run_of}
use Rattle.step.specs.Settle.{step_exit}
use Rattle.transfer.proofs.Calls.{outcome_is}
use Rattle.transfer.proofs.outcome_of.Goals as goal

pub returns : goal.returns
returns c = λ l. outcome_is (step_exit (run_of c.args.last.state l) c.args.last.course) c.end_of-end.ensures c.finished_at-at.ensures (c.driver_counts-driver.ensures l)
