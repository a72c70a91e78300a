use Rattle.receiving.proofs.gbn_duplicate.Goals as goal

pub returns-then-valid : goal.returns-then-valid
returns-then-valid c = rw c.if-valid.true c.gbn_already_delivered.ensures
