use mathlib.Core.Path.{sym, ◌∙◌}
use lib.ListN.{length}
use Rattle.schedule.specs.Schedule.{pop_ready_at}
use Rattle.schedule.specs.Structs.{owned_schedule}
use Rattle.schedule.proofs.Calls.{answered_refused, answered, can_pop_accepted}
use Rattle.schedule.proofs.OwnedRecords.{pop_verdict_owned}
use Rattle.schedule.proofs.OwnedSchedule.pop_ready_at.Goals as goal

pub pop_ready_at_unchecked-requires : goal.pop_ready_at_unchecked-requires
pop_ready_at_unchecked-requires c = let v = pop_verdict_owned c.args.self c.args.places.now c.args.now (length c.args.out.now) c.pop_verdict.ensures c.packed_all-rows.ensures in
    can_pop_accepted (owned_schedule c.args.self c.args.places.now) c.args.now c.args.out.now (sym v ∙ c.in-Ok.is)

pub returns-in-Err : goal.returns-in-Err
unfolding pop_ready_at
returns-in-Err c = let v = pop_verdict_owned c.args.self c.args.places.now c.args.now (length c.args.out.now) c.pop_verdict.ensures c.packed_all-rows.ensures in
    answered_refused _ _ v c.in-Err.is

pub returns-in-Ok : goal.returns-in-Ok
unfolding pop_ready_at
returns-in-Ok c = let v = pop_verdict_owned c.args.self c.args.places.now c.args.now (length c.args.out.now) c.pop_verdict.ensures c.packed_all-rows.ensures in
    answered _ _ v c.in-Ok.is c.pop_ready_at_unchecked.ensures
