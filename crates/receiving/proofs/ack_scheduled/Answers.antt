use Rattle.receiving.proofs.ack_scheduled.Goals as goal

pub returns-then-scheduled : goal.returns-then-scheduled
returns-then-scheduled c = rw c.if-scheduled.true c.mark_ack_scheduled_unchecked.ensures

pub returns : goal.returns
returns c = rw c.if-scheduled.false
