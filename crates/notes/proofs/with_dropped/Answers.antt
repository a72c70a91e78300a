use Rattle.notes.proofs.with_dropped.Goals as goal

pub returns : goal.returns
returns c = rw c.flag.ensures
