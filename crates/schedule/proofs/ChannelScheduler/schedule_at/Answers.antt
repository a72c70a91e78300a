use mathlib.Core.Path.{sym, ◌∙◌, ap}
use mathlib.Core.Bool.{false≢true}
use Rattle.schedule.specs.State.{Schedule, schedule}
use Rattle.schedule.specs.Schedule.{schedule_at, on_schedule}
use Rattle.schedule.proofs.Calls.{answered_refused, answered, can_schedule}
use Rattle.schedule.proofs.ChannelScheduler.schedule_at.Goals as goal
use Rattle.refusal.specs.Order.{passed}

pub schedule_at_unchecked-next-requires : goal.schedule_at_unchecked-next-requires
schedule_at_unchecked-next-requires c = record { can_schedule = can_schedule (schedule c.args.records.now c.args.places.now c.args.self) c.args.now c.args.packet.now c.args.deliveries (sym c.schedule_verdict.ensures ∙ c.in-Ok.is); cleared = λ e. absurd (false≢true e) }

pub returns-in-Err : goal.returns-in-Err
unfolding schedule_at
returns-in-Err c = answered_refused _ _ c.schedule_verdict.ensures c.in-Err.is

pub returns-in-Ok : goal.returns-in-Ok
unfolding schedule_at
returns-in-Ok c = answered _ _ c.schedule_verdict.ensures c.in-Ok.is (ap (λ (x : Schedule). on_schedule x passed) c.schedule_at_unchecked-next.ensures)
