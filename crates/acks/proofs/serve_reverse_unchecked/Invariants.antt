use Rattle.multi_timer.specs.MultiTimer.{timers_exit}
use Rattle.notes.specs.Notes.{seg_metas}
use Rattle.path.specs.Direction.{direction}
use Rattle.session.specs.Sending.{sender_end}
use Rattle.acks.specs.Acks.{ack_state}
use Rattle.acks.proofs.Serving.{Left}
use Rattle.acks.proofs.serve_reverse_unchecked.Given as goal

abbrev pub invariant-loop-place : goal.invariant-loop-place
invariant-loop-place l = Left l.timing l.now (direction l.initial.records l.initial.places l.initial.reverse) (direction l.records l.places l.reverse) (ack_state (sender_end l.initial.side.sender l.initial.store) l.initial.side.estimator (timers_exit l.initial.side.clock l.initial.keys l.initial.deadlines) (seg_metas l.notes l.initial.rows) l.initial.side.ack_received l.initial.side.duplicate_acks) (ack_state (sender_end l.side.sender l.store) l.side.estimator (timers_exit l.side.clock l.keys l.deadlines) (seg_metas l.notes l.rows) l.side.ack_received l.side.duplicate_acks) l.progress

abbrev pub decreases-loop-place : goal.decreases-loop-place
decreases-loop-place l = l.reverse.scheduler.count
