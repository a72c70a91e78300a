use mathlib.Core.Path.{◌∙◌}
use native.Mathlib.Omega.{arith}
use Rattle.path.specs.Direction.{direction}
use Rattle.notes.specs.Notes.{seg_metas}
use Rattle.multi_timer.specs.MultiTimer.{timers_exit}
use Rattle.submission.specs.Submission.{outgoing}
use Rattle.submission.proofs.Calls.{noted_timely, can_arm, by_carriage, had_entry, by_carried}
use Rattle.submission.proofs.submit_unchecked.Goals as goal

pub note_after-requires : goal.note_after-requires
note_after-requires c = (noted_timely c.args.timing c.args.rolls.now (record { time = c.args.now; seq = c.args.seq; rto = c.args.rto; retransmission = c.args.retransmission; oldest = c.args.oldest }) c.args.wire.now (outgoing (direction c.args.records.now c.args.places.now c.args.outbound.forward) (seg_metas c.args.outbound.notes c.args.rows.now) c.args.outbound.events c.args.events.now (timers_exit c.args.outbound.clock c.args.keys.now c.args.deadlines.now)) c.note_before-notes.ensures c.requires).fits

pub put_unchecked-requires : goal.put_unchecked-requires
put_unchecked-requires c = had_entry c.args.timing c.args.rolls.now (record { time = c.args.now; seq = c.args.seq; rto = c.args.rto; retransmission = c.args.retransmission; oldest = c.args.oldest }) c.args.wire.now (outgoing (direction c.args.records.now c.args.places.now c.args.outbound.forward) (seg_metas c.args.outbound.notes c.args.rows.now) c.args.outbound.events c.args.events.now (timers_exit c.args.outbound.clock c.args.keys.now c.args.deadlines.now)) c.note_before-notes.ensures c.carry_unchecked-carried.ensures.result_after c.in-Ok.is

pub arm_after_submit_unchecked-clock-requires : goal.arm_after_submit_unchecked-clock-requires
arm_after_submit_unchecked-clock-requires c = can_arm c.args.timing c.args.rolls.now (record { time = c.args.now; seq = c.args.seq; rto = c.args.rto; retransmission = c.args.retransmission; oldest = c.args.oldest }) c.args.wire.now (outgoing (direction c.args.records.now c.args.places.now c.args.outbound.forward) (seg_metas c.args.outbound.notes c.args.rows.now) c.args.outbound.events c.args.events.now (timers_exit c.args.outbound.clock c.args.keys.now c.args.deadlines.now)) c.note_before-notes.ensures _ c.requires c.note_after.ensures

pub overflow_add-result : goal.overflow_add-result
overflow_add-result c = let h = had_entry c.args.timing c.args.rolls.now (record { time = c.args.now; seq = c.args.seq; rto = c.args.rto; retransmission = c.args.retransmission; oldest = c.args.oldest }) c.args.wire.now (outgoing (direction c.args.records.now c.args.places.now c.args.outbound.forward) (seg_metas c.args.outbound.notes c.args.rows.now) c.args.outbound.events c.args.events.now (timers_exit c.args.outbound.clock c.args.keys.now c.args.deadlines.now)) c.note_before-notes.ensures c.carry_unchecked-carried.ensures.result_after c.in-Ok.is in record { fits = omega (arith, c.well_formed.1.1.1.1.1.1.1.1.1.1.0.0) }

pub returns-in-Err : goal.returns-in-Err
returns-in-Err c = record { stop_after = by_carriage c.args.timing c.args.rolls.now (record { time = c.args.now; seq = c.args.seq; rto = c.args.rto; retransmission = c.args.retransmission; oldest = c.args.oldest }) c.args.wire.now (outgoing (direction c.args.records.now c.args.places.now c.args.outbound.forward) (seg_metas c.args.outbound.notes c.args.rows.now) c.args.outbound.events c.args.events.now (timers_exit c.args.outbound.clock c.args.keys.now c.args.deadlines.now)) c.note_before-notes.ensures c.carry_unchecked-carried.ensures.result_after c.in-Err.is; wire_after = c.carry_unchecked-carried.ensures.wire_after }

pub shape_of-wire-in-Ok : goal.shape_of-wire-in-Ok
shape_of-wire-in-Ok c = c.carry_unchecked-carried.auto.wire

pub shape_of-rows-in-Ok : goal.shape_of-rows-in-Ok
shape_of-rows-in-Ok c = c.note_after.auto.rows ∙ c.note_before-notes.auto.rows

pub shape_of-records-in-Ok : goal.shape_of-records-in-Ok
shape_of-records-in-Ok c = c.carry_unchecked-carried.auto.records

pub shape_of-places-in-Ok : goal.shape_of-places-in-Ok
shape_of-places-in-Ok c = c.carry_unchecked-carried.auto.places

pub returns-in-Ok : goal.returns-in-Ok
returns-in-Ok c = record { stop_after = by_carried c.args.timing c.args.rolls.now (record { time = c.args.now; seq = c.args.seq; rto = c.args.rto; retransmission = c.args.retransmission; oldest = c.args.oldest }) c.args.wire.now (outgoing (direction c.args.records.now c.args.places.now c.args.outbound.forward) (seg_metas c.args.outbound.notes c.args.rows.now) c.args.outbound.events c.args.events.now (timers_exit c.args.outbound.clock c.args.keys.now c.args.deadlines.now)) c.note_before-notes.ensures c.carry_unchecked-carried.ensures.result_after c.in-Ok.is c.note_after.ensures c.event_row.ensures c.put_unchecked.ensures c.arm_after_submit_unchecked-clock.ensures; wire_after = c.carry_unchecked-carried.ensures.wire_after }
