use mathlib.Core.Path.{sym, ◌∙◌}
use Rattle.host_timers.specs.Timers.{earliest_held}
use Rattle.host_timers.proofs.earliest.Goals as goal

pub returns-in-Some : goal.returns-in-Some
unfolding earliest_held
returns-in-Some c = rw ((sym c.held_timers.ensures ∙ c.in-Some.is), c.optional_answer.ensures, c.earliest_deadline-answer.ensures)

pub returns-in-None : goal.returns-in-None
unfolding earliest_held
returns-in-None c = rw ((sym c.held_timers.ensures ∙ c.in-None.is), c.refusal_answer.ensures)
