use mathlib.Core.Path.{sym, ◌∙◌}
use Rattle.host_single_timer.specs.SingleTimer.{on_held}
use Rattle.host_single_timer.proofs.remaining.Goals as goal

pub returns-in-Some : goal.returns-in-Some
unfolding on_held
returns-in-Some c = rw ((sym c.held_timer.ensures ∙ c.in-Some.is), c.optional_answer.ensures, c.remaining_at.ensures)

pub returns-in-None : goal.returns-in-None
unfolding on_held
returns-in-None c = rw ((sym c.held_timer.ensures ∙ c.in-None.is), c.refusal_answer.ensures)
