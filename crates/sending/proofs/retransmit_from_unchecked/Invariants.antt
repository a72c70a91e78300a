use Prim.Native.Nat.{◌+◌, ◌-◌}
use Rattle.path.specs.Direction.{direction}
use Rattle.notes.specs.Notes.{seg_metas}
use Rattle.multi_timer.specs.MultiTimer.{timers_exit}
use Rattle.session.specs.Sending.{sender_end}
use Rattle.submission.specs.Submission.{outgoing}
use Rattle.sending.proofs.Resending.{Left}
use Rattle.sending.proofs.retransmit_from_unchecked.Given as goal

abbrev pub invariant-loop-seq : goal.invariant-loop-seq
invariant-loop-seq l = Left l.max_retransmissions l.timing l.rolls l.rto l.now (sender_end l.sender l.store) l.first l.count l.initial.resends (outgoing (direction l.initial.records l.initial.places l.initial.outbound.forward) (seg_metas l.initial.outbound.notes l.initial.rows) l.initial.outbound.events l.initial.events (timers_exit l.initial.outbound.clock l.initial.keys l.initial.deadlines)) l.seq (l.first + l.count - l.seq) l.resends (outgoing (direction l.records l.places l.outbound.forward) (seg_metas l.outbound.notes l.rows) l.outbound.events l.events (timers_exit l.outbound.clock l.keys l.deadlines))
