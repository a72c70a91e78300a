use mathlib.Core.List.{[]}
use Rattle.notes.specs.Notes.{seg_metas}
use Rattle.multi_timer.specs.MultiTimer.{timers_exit}
use Rattle.session.specs.Sending.{sender_end}
use Rattle.acks.specs.Acks.{ack_state}
use Rattle.acks.proofs.Calls.{can_rearm, accepted_is}
use Rattle.acks.proofs.on_accepted.Goals as goal

pub rearm_after_ack_unchecked-clock-requires : goal.rearm_after_ack_unchecked-clock-requires
rearm_after_ack_unchecked-clock-requires c = can_rearm c.args.timing c.args.now c.args.n c.args.seq (ack_state (sender_end c.args.side.sender []) c.args.side.estimator (timers_exit c.args.side.clock c.args.keys.now c.args.deadlines.now) (seg_metas c.args.notes c.args.rows.now) c.args.side.ack_received c.args.side.duplicate_acks) c.sample_rtt_unchecked-estimator.ensures c.requires

pub returns : goal.returns
returns c = λ store. accepted_is c.args.timing c.args.now c.args.n c.args.seq (ack_state (sender_end c.args.side.sender store) c.args.side.estimator (timers_exit c.args.side.clock c.args.keys.now c.args.deadlines.now) (seg_metas c.args.notes c.args.rows.now) c.args.side.ack_received c.args.side.duplicate_acks) c.sample_rtt_unchecked-estimator.ensures c.oldest_outstanding_unchecked-oldest.ensures c.rearm_after_ack_unchecked-clock.ensures
