use borrow.Author.Tests.{lt-ltb, le-ltb}
use Rattle.host_estimator.specs.Estimator.{mean_to}
use Rattle.host_estimator.proofs.mean_to.Goals as goal

pub returns-then-out-lt1 : goal.returns-then-out-lt1
unfolding mean_to
returns-then-out-lt1 c = rw (c.in-Ok.is, lt-ltb _ _ c.if-out-lt1.true, c.refusal_answer.ensures)

pub returns-else-out-lt1 : goal.returns-else-out-lt1
unfolding mean_to
returns-else-out-lt1 c = rw (c.in-Ok.is, le-ltb _ _ c.if-out-lt1.false, c.pack_unchecked.ensures)

pub returns-in-Err : goal.returns-in-Err
unfolding mean_to
returns-in-Err c = rw (c.in-Err.is, c.refusal_answer-in-Err.ensures)
