use Rattle.host_estimator.specs.Estimator.{rto_code}
use Rattle.host_estimator.proofs.rto_code.Goals as goal

pub returns-in-Ok : goal.returns-in-Ok
unfolding rto_code
returns-in-Ok c = rw c.in-Ok.is c.pack_unchecked.ensures

pub returns-in-Err : goal.returns-in-Err
unfolding rto_code
returns-in-Err c = rw c.in-Err.is c.refusal_answer.ensures
