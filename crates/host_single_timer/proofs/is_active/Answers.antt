use mathlib.Core.Path.{sym, ◌∙◌}
use Rattle.host_single_timer.specs.SingleTimer.{on_held}
use Rattle.host_single_timer.proofs.is_active.Goals as goal

pub returns-in-Some : goal.returns-in-Some
unfolding on_held
returns-in-Some c = rw ((sym c.held_timer.ensures ∙ c.in-Some.is), c.test_answer.ensures, c.is_active.ensures)

pub returns-in-None : goal.returns-in-None
unfolding on_held
returns-in-None c = rw ((sym c.held_timer.ensures ∙ c.in-None.is), c.refusal_answer.ensures)
