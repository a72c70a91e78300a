use Prim.Native.Nat.{◌-◌}
use mathlib.Core.Path.{◌≡◌}
use lib.ListN.{length}
use Rattle.bounds.specs.Bounds.{max_datagram}
use Rattle.path.specs.Direction.{direction}
use Rattle.notes.specs.Notes.{seg_metas}
use Rattle.multi_timer.specs.MultiTimer.{timers_exit}
use Rattle.session.specs.Sending.{sender_end, window_of}
use Rattle.submission.specs.Submission.{outgoing}
use Rattle.sending.specs.Sending.{pump_state}
use Rattle.sending.proofs.Pumps.{Left}
use Rattle.sending.proofs.pump_sends_unchecked.Given as goal

abbrev pub invariant-loop-timing : goal.invariant-loop-timing
invariant-loop-timing l = Left l.timing l.rolls l.chunk_size l.file l.total_chunks l.rto l.now (pump_state (sender_end l.initial.sender l.initial.store) (outgoing (direction l.initial.records l.initial.places l.initial.outbound.forward) (seg_metas l.initial.outbound.notes l.initial.rows) l.initial.outbound.events l.initial.events (timers_exit l.initial.outbound.clock l.initial.keys l.initial.deadlines))) (pump_state (sender_end l.sender l.store) (outgoing (direction l.records l.places l.outbound.forward) (seg_metas l.outbound.notes l.rows) l.outbound.events l.events (timers_exit l.outbound.clock l.keys l.deadlines))) l.progress × (length l.wire ≡ max_datagram)

abbrev pub decreases-loop-timing : goal.decreases-loop-timing
decreases-loop-timing l = l.total_chunks - (window_of l.sender).next_seq_num
