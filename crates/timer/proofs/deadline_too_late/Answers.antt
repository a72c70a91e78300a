use Rattle.timer.proofs.deadline_too_late.Goals as goal

pub returns-in-Some : goal.returns-in-Some
returns-in-Some c = rw c.in-Some.is
