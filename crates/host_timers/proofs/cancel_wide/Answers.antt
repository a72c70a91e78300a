use mathlib.Core.Path.{sym, ap, ◌∙◌}
use Rattle.host_answer.proofs.Laws.{done_dropped}
use Rattle.host_timers.specs.Internal.{none_ran}
use Rattle.host_timers.specs.Timers.{cancel_wide}
use Rattle.host_timers.proofs.Calls.{none_ran_lem}
use Rattle.host_timers.proofs.cancel_wide.Goals as goal

pub returns-in-Some : goal.returns-in-Some
returns-in-Some c = rw (sym c.held_timers.ensures ∙ c.in-Some.is) (c.done_answer.ensures ∙ done_dropped _ _ _ c.map.ensures.cases ∙ ap none_ran c.earliest_deadline.ensures ∙ none_ran_lem _ _ _)

pub returns-in-None : goal.returns-in-None
unfolding cancel_wide
returns-in-None c = rw (sym c.held_timers.ensures ∙ c.in-None.is, c.refusal_answer.ensures)
