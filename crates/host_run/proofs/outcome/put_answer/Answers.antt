use Rattle.host_run.specs.Run.{results}
use Rattle.host_run.proofs.Ends.{enough, from_is, on_outcome, on_run_refused}
use Rattle.host_run.proofs.outcome.put_answer.Goals as goal

pub put_outcome-requires : goal.put_outcome-requires
put_outcome-requires c = (enough (results c.args.words.now c.args.estimator.now c.args.doubles.now) c.requires).outcome

pub put_estimator_unchecked-requires : goal.put_estimator_unchecked-requires
put_estimator_unchecked-requires c = (enough (results c.args.words.now c.args.estimator.now c.args.doubles.now) c.requires).room

pub returns-in-Ok : goal.returns-in-Ok
returns-in-Ok c = on_outcome (results c.args.words.now c.args.estimator.now c.args.doubles.now) c.in-Ok.is c.put_outcome.ensures c.put_estimator_unchecked.ensures.state_after c.put_estimator_unchecked.ensures.doubles_after (rw (c.pack_unchecked.ensures, from_is c.in-Ok.o.completed c.from.ensures))

pub returns-in-Err : goal.returns-in-Err
returns-in-Err c = on_run_refused (results c.args.words.now c.args.estimator.now c.args.doubles.now) c.in-Err.is c.refusal_answer.ensures
