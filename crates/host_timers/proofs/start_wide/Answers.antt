use mathlib.Core.Path.{sym, ◌∙◌}
use Rattle.host_timers.specs.Timers.{start_wide}
use Rattle.host_timers.proofs.start_wide.Goals as goal

pub returns-in-Some : goal.returns-in-Some
returns-in-Some c = rw (sym c.held_timers.ensures ∙ c.in-Some.is) c.refuse_start.ensures

pub returns-in-None : goal.returns-in-None
unfolding start_wide
returns-in-None c = rw (sym c.held_timers.ensures ∙ c.in-None.is, c.refusal_answer.ensures)
