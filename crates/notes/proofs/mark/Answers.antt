use Rattle.notes.proofs.mark.Goals as goal

pub returns : goal.returns
returns c = rw c.with_ack_scheduled.ensures
