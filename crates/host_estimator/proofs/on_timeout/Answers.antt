use mathlib.Core.Path.{sym, ◌∙◌}
use Rattle.rto.specs.Rto.{on_timeout}
use Rattle.host_estimator.specs.Estimator.{on_held, rto_code}
use Rattle.host_estimator.proofs.Held.{held_room}
use Rattle.host_estimator.proofs.Calls.{on_changed}
use Rattle.host_estimator.proofs.on_timeout.Goals as goal

pub put_estimator-requires : goal.put_estimator-requires
put_estimator-requires c = held_room c.args.state.now c.args.doubles.now (sym c.held_estimator.ensures ∙ c.in-Some.is)

pub returns-in-Some : goal.returns-in-Some
returns-in-Some c = on_changed c.args.state.now c.args.doubles.now on_timeout (λ x. rto_code x.answer) (λ x. x.estimator) (sym c.held_estimator.ensures ∙ c.in-Some.is) c.on_timeout-result.ensures c.put_estimator.ensures.state_after c.put_estimator.ensures.doubles_after c.rto_code.ensures

pub returns-in-None : goal.returns-in-None
unfolding on_held
returns-in-None c = rw ((sym c.held_estimator.ensures ∙ c.in-None.is), c.refusal_answer.ensures)
