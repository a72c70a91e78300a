use Rattle.timer.proofs.deadline_remaining.Goals as goal

pub returns-in-Some : goal.returns-in-Some
returns-in-Some c = rw (c.in-Some.is, c.saturating_sub.ensures)
