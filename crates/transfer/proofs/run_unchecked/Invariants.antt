use Prim.Native.Nat.{◌+◌, ◌*◌}
use Rattle.step.specs.State.{given, lent, run_of}
use Rattle.transfer.proofs.Runs.{Left}
use Rattle.transfer.proofs.run_unchecked.Given as goal

abbrev pub invariant-loop-plan : goal.invariant-loop-plan
invariant-loop-plan l = Left l.plan (given l.file l.forward_rolls l.reverse_rolls) (lent l.initial.sender_store l.initial.receiver_store l.initial.output l.initial.rows l.initial.events l.initial.forward_records l.initial.forward_places l.initial.reverse_records l.initial.reverse_places l.initial.keys l.initial.deadlines) (lent l.sender_store l.receiver_store l.output l.rows l.events l.forward_records l.forward_places l.reverse_records l.reverse_places l.keys l.deadlines) (run_of l.initial.state (lent l.initial.sender_store l.initial.receiver_store l.initial.output l.initial.rows l.initial.events l.initial.forward_records l.initial.forward_places l.initial.reverse_records l.initial.reverse_places l.initial.keys l.initial.deadlines)) (run_of l.state (lent l.sender_store l.receiver_store l.output l.rows l.events l.forward_records l.forward_places l.reverse_records l.reverse_places l.keys l.deadlines))

abbrev pub decreases-loop-plan : goal.decreases-loop-plan
decreases-loop-plan l = l.state.moves * (l.plan.rounds + 1) + l.state.rounds
