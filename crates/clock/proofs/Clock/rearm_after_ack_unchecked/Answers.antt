use Rattle.multi_timer.specs.MultiTimer.{timers_exit}
use Rattle.notes.specs.Notes.{seg_metas}
use Rattle.clock.proofs.Calls.{ack_oldest, ack_number, ack_edition}
use Rattle.clock.proofs.Clock.rearm_after_ack_unchecked.Goals as goal

pub returns-in-Single : goal.returns-in-Single
returns-in-Single c = ack_oldest (timers_exit c.args.self c.args.keys.now c.args.deadlines.now) (seg_metas c.args.notes c.args.rows.now) (record { time = c.args.now; seq = c.args.seq; rto = c.args.rto; oldest = c.args.oldest }) c.in-Single.is c.arm_oldest.ensures

pub returns-in-PerNumber : goal.returns-in-PerNumber
returns-in-PerNumber c = ack_number (timers_exit c.args.self c.args.keys.now c.args.deadlines.now) (seg_metas c.args.notes c.args.rows.now) (record { time = c.args.now; seq = c.args.seq; rto = c.args.rto; oldest = c.args.oldest }) c.in-PerNumber.is c.cancel_number_unchecked.ensures

pub returns-in-Edition : goal.returns-in-Edition
returns-in-Edition c = ack_edition (timers_exit c.args.self c.args.keys.now c.args.deadlines.now) (seg_metas c.args.notes c.args.rows.now) (record { time = c.args.now; seq = c.args.seq; rto = c.args.rto; oldest = c.args.oldest }) c.in-Edition.is c.started.ensures
