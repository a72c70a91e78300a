use mathlib.Core.Path.{sym, ◌∙◌}
use Rattle.host_timers.proofs.Calls.{timers_long, on_cleared}
use Rattle.host_timers.specs.Timers.{clear_held}
use Rattle.host_timers.proofs.clear.Goals as goal

pub put_timers-requires : goal.put_timers-requires
put_timers-requires c = timers_long c.args.state.now (sym c.held_timers.ensures ∙ c.in-Some.is)

pub returns-in-Some : goal.returns-in-Some
returns-in-Some c = on_cleared c.args.state.now c.args.keys.now c.args.deadlines.now (sym c.held_timers.ensures ∙ c.in-Some.is) c.clear-result.ensures c.put_timers.ensures c.done_answer.ensures

pub returns-in-None : goal.returns-in-None
unfolding clear_held
returns-in-None c = rw ((sym c.held_timers.ensures ∙ c.in-None.is), c.refusal_answer.ensures)
