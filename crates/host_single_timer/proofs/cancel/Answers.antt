use mathlib.Core.Path.{sym, ◌∙◌}
use Rattle.timer.specs.Timer.{cancelled}
use Rattle.host_answer.proofs.Laws.{done_dropped}
use Rattle.host_single_timer.specs.SingleTimer.{on_held}
use Rattle.host_single_timer.proofs.Words.{timer_long, on_changed}
use Rattle.host_single_timer.proofs.cancel.Goals as goal

pub put_timer-requires : goal.put_timer-requires
put_timer-requires c = timer_long c.args.state.now (sym c.held_timer.ensures ∙ c.in-Some.is)

pub returns-in-Some : goal.returns-in-Some
returns-in-Some c = on_changed c.args.state.now cancelled (sym c.held_timer.ensures ∙ c.in-Some.is) c.cancelled-result.ensures c.put_timer.ensures (c.done_answer.ensures ∙ done_dropped _ _ _ c.map.ensures.cases)

pub returns-in-None : goal.returns-in-None
unfolding on_held
returns-in-None c = rw ((sym c.held_timer.ensures ∙ c.in-None.is), c.refusal_answer.ensures)
