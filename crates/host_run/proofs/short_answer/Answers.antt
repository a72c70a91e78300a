use Rattle.refusal.specs.Order.{decide}
use Rattle.host_run.proofs.short_answer.Goals as goal

pub returns-in-Err : goal.returns-in-Err
unfolding decide
returns-in-Err c = rw c.in-Err.is c.refusal_answer.ensures

pub returns-in-Ok : goal.returns-in-Ok
unfolding decide
returns-in-Ok c = rw c.in-Ok.is c.refusal_answer-in-Ok.ensures
