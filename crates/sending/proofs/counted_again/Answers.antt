use Rattle.sending.proofs.counted_again.Goals as goal

pub returns : goal.returns
returns c = rw c.flag.ensures
