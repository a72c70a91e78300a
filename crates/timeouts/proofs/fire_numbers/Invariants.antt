use Prim.Native.Nat.{◌-◌}
use Rattle.bounds.specs.Bounds.{seq_num_limit}
use Rattle.path.specs.Direction.{direction}
use Rattle.notes.specs.Notes.{seg_metas}
use Rattle.multi_timer.specs.MultiTimer.{timers_exit}
use Rattle.session.specs.Sending.{sender_end}
use Rattle.submission.specs.Submission.{outgoing}
use Rattle.timeouts.specs.Timeouts.{fire_state}
use Rattle.timeouts.proofs.NumbersTurns.{Left}
use Rattle.timeouts.proofs.fire_numbers.Given as goal

abbrev pub invariant-loop-n : goal.invariant-loop-n
invariant-loop-n l = Left l.max_retransmissions l.rolls l.now (fire_state (sender_end l.initial.sender l.initial.store) l.initial.estimator l.initial.resends (outgoing (direction l.initial.records l.initial.places l.initial.outbound.forward) (seg_metas l.initial.outbound.notes l.initial.rows) l.initial.outbound.events l.initial.events (timers_exit l.initial.outbound.clock l.initial.keys l.initial.deadlines))) (fire_state (sender_end l.sender l.store) l.estimator l.resends (outgoing (direction l.records l.places l.outbound.forward) (seg_metas l.outbound.notes l.rows) l.outbound.events l.events (timers_exit l.outbound.clock l.keys l.deadlines))) l.from

abbrev pub decreases-loop-n : goal.decreases-loop-n
decreases-loop-n l = seq_num_limit - l.from
