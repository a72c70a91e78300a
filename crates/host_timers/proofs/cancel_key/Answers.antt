use mathlib.Core.Path.{sym, ◌∙◌}
use Rattle.host_timers.proofs.Calls.{timers_long, on_cancelled}
use Rattle.host_timers.specs.Timers.{cancel_held}
use Rattle.host_timers.proofs.cancel_key.Goals as goal

pub put_timers-requires : goal.put_timers-requires
put_timers-requires c = timers_long c.args.state.now (sym c.held_timers.ensures ∙ c.in-Some.is)

pub returns-in-Some : goal.returns-in-Some
returns-in-Some c = on_cancelled c.args.state.now c.args.keys.now c.args.deadlines.now c.args.key (sym c.held_timers.ensures ∙ c.in-Some.is) c.cancel_timer-result.ensures c.put_timers.ensures c.test_answer.ensures

pub returns-in-None : goal.returns-in-None
unfolding cancel_held
returns-in-None c = rw ((sym c.held_timers.ensures ∙ c.in-None.is), c.refusal_answer.ensures)
