use mathlib.Core.Path.{sym, ◌∙◌}
use Rattle.schedule.specs.State.{schedule}
use Rattle.schedule.specs.Schedule.{pop_ready_at}
use Rattle.schedule.proofs.Calls.{answered_refused, answered, can_pop_accepted}
use Rattle.schedule.proofs.ChannelScheduler.pop_ready_at.Goals as goal

pub pop_ready_at_unchecked-requires : goal.pop_ready_at_unchecked-requires
pop_ready_at_unchecked-requires c = can_pop_accepted (schedule c.args.records.now c.args.places.now c.args.self) c.args.now c.args.out.now (sym c.pop_verdict.ensures ∙ c.in-Ok.is)

pub returns-in-Err : goal.returns-in-Err
unfolding pop_ready_at
returns-in-Err c = answered_refused _ _ c.pop_verdict.ensures c.in-Err.is

pub returns-in-Ok : goal.returns-in-Ok
unfolding pop_ready_at
returns-in-Ok c = answered _ _ c.pop_verdict.ensures c.in-Ok.is c.pop_ready_at_unchecked.ensures
