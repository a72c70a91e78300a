use native.Mathlib.Omega.{arith}
use Rattle.notes.specs.Notes.{seg_metas}
use Rattle.multi_timer.specs.MultiTimer.{timers_exit}
use Rattle.session.specs.Sending.{sender_end}
use Rattle.acks.specs.Acks.{ack_state}
use Rattle.acks.proofs.Calls.{dropped_law, can_accept, accepted_law, duplicate_law}
use Rattle.acks.proofs.on_ack_unchecked.Goals as goal

pub overflow_add-side : goal.overflow_add-side
overflow_add-side c = omega (arith, c.requires.few)

pub on_accepted-requires : goal.on_accepted-requires
on_accepted-requires c = can_accept c.args.timing c.args.now c.args.raw.now (ack_state (sender_end c.args.side.sender c.args.store.now) c.args.side.estimator (timers_exit c.args.side.clock c.args.keys.now c.args.deadlines.now) (seg_metas c.args.notes c.args.rows.now) c.args.side.ack_received c.args.side.duplicate_acks) c.handle_ack_unchecked-answer.result.accepted c.requires c.ack_number.ensures c.in-Some.is c.handle_ack_unchecked-answer.ensures _

pub returns-then-answer : goal.returns-then-answer
returns-then-answer c = accepted_law c.args.timing c.args.now c.args.raw.now (ack_state (sender_end c.args.side.sender c.args.store.now) c.args.side.estimator (timers_exit c.args.side.clock c.args.keys.now c.args.deadlines.now) (seg_metas c.args.notes c.args.rows.now) c.args.side.ack_received c.args.side.duplicate_acks) c.handle_ack_unchecked-answer.result.accepted c.requires c.ack_number.ensures c.in-Some.is c.handle_ack_unchecked-answer.ensures c.sample_seq-seq.ensures c.if-answer.true (c.on_accepted.ensures _)

pub overflow_add-side-in-Some : goal.overflow_add-side-in-Some
overflow_add-side-in-Some c = omega (arith, c.requires.few, c.requires.good.duplicates)

pub returns-in-None : goal.returns-in-None
returns-in-None c = dropped_law c.args.timing c.args.now c.args.raw.now (ack_state (sender_end c.args.side.sender c.args.store.now) c.args.side.estimator (timers_exit c.args.side.clock c.args.keys.now c.args.deadlines.now) (seg_metas c.args.notes c.args.rows.now) c.args.side.ack_received c.args.side.duplicate_acks) c.ack_number.ensures c.in-None.is

pub returns-else-answer : goal.returns-else-answer
returns-else-answer c = duplicate_law c.args.timing c.args.now c.args.raw.now (ack_state (sender_end c.args.side.sender c.args.store.now) c.args.side.estimator (timers_exit c.args.side.clock c.args.keys.now c.args.deadlines.now) (seg_metas c.args.notes c.args.rows.now) c.args.side.ack_received c.args.side.duplicate_acks) c.handle_ack_unchecked-answer.result.accepted c.requires c.ack_number.ensures c.in-Some.is c.handle_ack_unchecked-answer.ensures c.if-answer.false
