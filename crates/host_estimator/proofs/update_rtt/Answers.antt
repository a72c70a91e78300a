use mathlib.Core.Path.{sym, ◌∙◌}
use Rattle.rto.specs.Rto.{update_rtt}
use Rattle.host_estimator.specs.Estimator.{on_held, update_code}
use Rattle.host_estimator.proofs.Held.{held_room}
use Rattle.host_estimator.proofs.Calls.{on_changed}
use Rattle.host_estimator.proofs.update_rtt.Goals as goal

pub put_estimator-requires : goal.put_estimator-requires
put_estimator-requires c = held_room c.args.state.now c.args.doubles.now (sym c.held_estimator.ensures ∙ c.in-Some.is)

pub returns-in-Some : goal.returns-in-Some
returns-in-Some c = on_changed c.args.state.now c.args.doubles.now (λ e. update_rtt e c.args.sample c.args.retransmitted) (λ x. update_code x.answer) (λ x. x.estimator) (sym c.held_estimator.ensures ∙ c.in-Some.is) c.update_rtt-result.ensures c.put_estimator.ensures.state_after c.put_estimator.ensures.doubles_after c.test_answer.ensures

pub returns-in-None : goal.returns-in-None
unfolding on_held
returns-in-None c = rw ((sym c.held_estimator.ensures ∙ c.in-None.is), c.refusal_answer.ensures)
