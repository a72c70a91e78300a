use Rattle.rto.proofs.rtt_too_long.Goals as goal

pub returns-in-Some : goal.returns-in-Some
returns-in-Some c = rw c.in-Some.is
