use native.Mathlib.Omega.{arith}
use mathlib.Core.Path.{◌≡◌, ◌∙◌}
use Rattle.schedule.specs.Structs.{owned_schedule}
use Rattle.schedule.proofs.Calls.{put_none, put_more, put_all, next_fits, can_next}
use Rattle.schedule.proofs.OwnedSchedule.schedule_at_unchecked.Goals as goal

pub loop-k-init : goal.loop-k-init
loop-k-init c = put_none _ _ _ _

pub overflow_mul-delay : goal.overflow_mul-delay
overflow_mul-delay c = let f = next_fits (owned_schedule c.args.self c.args.places.now) c.args.now c.args.packet.now c.args.deliveries c.loop-k.k c.requires c.copies_of-copies.ensures c.loop-k-test.true c.delay_of-delay.ensures in
    omega arith

pub overflow_add-now : goal.overflow_add-now
overflow_add-now c = let f = next_fits (owned_schedule c.args.self c.args.places.now) c.args.now c.args.packet.now c.args.deliveries c.loop-k.k c.requires c.copies_of-copies.ensures c.loop-k-test.true c.delay_of-delay.ensures in
    omega arith

pub put-schedule-requires : goal.put-schedule-requires
put-schedule-requires c = can_next (owned_schedule c.args.self c.args.places.now) c.args.now c.args.packet.now c.args.deliveries c.loop-k.k c.requires c.copies_of-copies.ensures c.loop-k-test.true c.loop-k.invariant

pub loop-k-preserved : goal.loop-k-preserved
loop-k-preserved c = put_more (owned_schedule c.args.self c.args.places.now) c.args.now c.args.packet.now c.args.deliveries c.loop-k.k c.loop-k.invariant c.delay_of-delay.ensures c.put-schedule.ensures

pub returns : goal.returns
returns c = let last : c.loop-k.k ≡ c.copies_of-copies.result = omega arith in
    put_all (owned_schedule c.args.self c.args.places.now) c.args.now c.args.packet.now c.args.deliveries c.loop-k.invariant (last ∙ c.copies_of-copies.ensures)
