use Rattle.notes.specs.Notes.{seg_metas}
use Rattle.path.specs.Direction.{direction}
use Rattle.receiving.specs.Receiving.{inbound}
use Rattle.receiving.proofs.Serving.{Left}
use Rattle.receiving.proofs.serve_forward_unchecked.Given as goal

abbrev pub invariant-loop-place : goal.invariant-loop-place
invariant-loop-place l = Left l.rolls l.total_chunks l.now (direction l.initial.forward_records l.initial.forward_places l.initial.forward) (direction l.forward_records l.forward_places l.forward) (inbound l.initial.side l.initial.store l.initial.output (seg_metas l.initial.notes l.initial.rows) (direction l.initial.reverse_records l.initial.reverse_places l.initial.reverse)) (inbound l.side l.store l.output (seg_metas l.notes l.rows) (direction l.reverse_records l.reverse_places l.reverse)) l.progress

abbrev pub decreases-loop-place : goal.decreases-loop-place
decreases-loop-place l = l.forward.scheduler.count
