use mathlib.Core.Path.{sym, ◌∙◌, ap}
use lib.ListN.{length}
use Rattle.schedule.specs.State.{Schedule}
use Rattle.schedule.specs.Schedule.{schedule_at, on_schedule}
use Rattle.schedule.specs.Structs.{owned_schedule}
use Rattle.schedule.proofs.Calls.{answered_refused, answered, can_schedule}
use Rattle.schedule.proofs.OwnedRecords.{schedule_verdict_owned}
use Rattle.schedule.proofs.OwnedSchedule.schedule_at.Goals as goal
use Rattle.refusal.specs.Order.{passed}

pub schedule_at_unchecked-next-requires : goal.schedule_at_unchecked-next-requires
schedule_at_unchecked-next-requires c = let v = schedule_verdict_owned c.args.self c.args.places.now c.args.now (length c.args.packet.now) c.args.deliveries c.schedule_verdict.ensures c.packed_all-rows.ensures in
    can_schedule (owned_schedule c.args.self c.args.places.now) c.args.now c.args.packet.now c.args.deliveries (sym v ∙ c.in-Ok.is)

pub returns-in-Err : goal.returns-in-Err
unfolding schedule_at
returns-in-Err c = let v = schedule_verdict_owned c.args.self c.args.places.now c.args.now (length c.args.packet.now) c.args.deliveries c.schedule_verdict.ensures c.packed_all-rows.ensures in
    answered_refused _ _ v c.in-Err.is

pub returns-in-Ok : goal.returns-in-Ok
unfolding schedule_at
returns-in-Ok c = let v = schedule_verdict_owned c.args.self c.args.places.now c.args.now (length c.args.packet.now) c.args.deliveries c.schedule_verdict.ensures c.packed_all-rows.ensures in
    answered _ _ v c.in-Ok.is (ap (λ (x : Schedule). on_schedule x passed) c.schedule_at_unchecked-next.ensures)
