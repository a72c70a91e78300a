use mathlib.Core.Path.{sym, ◌∙◌}
use Rattle.host_timers.proofs.Calls.{timers_long, on_started}
use Rattle.host_answer.proofs.Laws.{done_dropped}
use Rattle.host_timers.specs.Timers.{start_held}
use Rattle.host_timers.proofs.start_key.Goals as goal

pub put_timers-requires : goal.put_timers-requires
put_timers-requires c = timers_long c.args.state.now (sym c.held_timers.ensures ∙ c.in-Some.is)

pub returns-in-Some : goal.returns-in-Some
returns-in-Some c = on_started c.args.state.now c.args.keys.now c.args.deadlines.now c.args.key c.args.now c.args.duration (sym c.held_timers.ensures ∙ c.in-Some.is) c.start_timer_at-result.ensures c.put_timers.ensures (c.done_answer.ensures ∙ done_dropped _ _ _ c.map.ensures.cases)

pub returns-in-None : goal.returns-in-None
unfolding start_held
returns-in-None c = rw ((sym c.held_timers.ensures ∙ c.in-None.is), c.refusal_answer.ensures)
