use mathlib.Core.Path.{sym, ◌∙◌}
use Rattle.host_estimator.specs.Estimator.{on_held}
use Rattle.host_estimator.proofs.has_exceeded_retry_limit.Goals as goal

pub returns-in-Some : goal.returns-in-Some
unfolding on_held
returns-in-Some c = rw ((sym c.held_estimator.ensures ∙ c.in-Some.is), c.test_answer.ensures, c.exceeded.ensures)

pub returns-in-None : goal.returns-in-None
unfolding on_held
returns-in-None c = rw ((sym c.held_estimator.ensures ∙ c.in-None.is), c.refusal_answer.ensures)
