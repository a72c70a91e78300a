use native.Mathlib.Omega.{arith}
use Rattle.multi_timer.specs.MultiTimer.{timers_exit}
use Rattle.notes.specs.Notes.{seg_metas}
use Rattle.notes.proofs.Laws.{rto_within}
use Rattle.clock.proofs.Calls.{submit_oldest, submit_later, submit_number, submit_edition}
use Rattle.clock.proofs.Clock.arm_after_submit_unchecked.Goals as goal

pub returns-then-retransmission : goal.returns-then-retransmission
returns-then-retransmission c = submit_oldest (timers_exit c.args.self c.args.keys.now c.args.deadlines.now) (seg_metas c.args.notes c.args.rows.now) (record { time = c.args.now; seq = c.args.seq; rto = c.args.rto; retransmission = c.args.retransmission; oldest = c.args.oldest }) c.in-Single.is (rw c.if-retransmission.true) c.arm_oldest.ensures

pub returns-then-is_oldest : goal.returns-then-is_oldest
returns-then-is_oldest c = submit_oldest (timers_exit c.args.self c.args.keys.now c.args.deadlines.now) (seg_metas c.args.notes c.args.rows.now) (record { time = c.args.now; seq = c.args.seq; rto = c.args.rto; retransmission = c.args.retransmission; oldest = c.args.oldest }) c.in-Single.is (rw (c.if-retransmission.false, ← c.is_oldest.ensures, c.if-is_oldest.true)) c.arm_oldest-then-is_oldest.ensures

pub overflow_add-now : goal.overflow_add-now
overflow_add-now c = let w = c.requires.rearm.notes.within in let h = rto_within (seg_metas c.args.notes c.args.rows.now) c.args.seq c.args.now c.args.rto c.requires.rearm.notes c.requires.rearm.short in let e = c.rto_at_send_unchecked-at_send.ensures in omega arith

pub start_timer_at_unchecked-t-requires : goal.start_timer_at_unchecked-t-requires
start_timer_at_unchecked-t-requires c = (c.requires.rearm.held.state, c.requires.room c.in-PerNumber.is)

pub returns-else-is_oldest : goal.returns-else-is_oldest
returns-else-is_oldest c = submit_later (timers_exit c.args.self c.args.keys.now c.args.deadlines.now) (seg_metas c.args.notes c.args.rows.now) (record { time = c.args.now; seq = c.args.seq; rto = c.args.rto; retransmission = c.args.retransmission; oldest = c.args.oldest }) c.in-Single.is (rw (c.if-retransmission.false, ← c.is_oldest.ensures, c.if-is_oldest.false))

pub returns-in-PerNumber : goal.returns-in-PerNumber
returns-in-PerNumber c = submit_number (timers_exit c.args.self c.args.keys.now c.args.deadlines.now) (seg_metas c.args.notes c.args.rows.now) (record { time = c.args.now; seq = c.args.seq; rto = c.args.rto; retransmission = c.args.retransmission; oldest = c.args.oldest }) c.in-PerNumber.is c.rto_at_send_unchecked-at_send.ensures c.start_timer_at_unchecked-t.ensures c.with_timers.ensures

pub returns-in-Edition : goal.returns-in-Edition
returns-in-Edition c = submit_edition (timers_exit c.args.self c.args.keys.now c.args.deadlines.now) (seg_metas c.args.notes c.args.rows.now) (record { time = c.args.now; seq = c.args.seq; rto = c.args.rto; retransmission = c.args.retransmission; oldest = c.args.oldest }) c.in-Edition.is c.on_send.ensures
