use Rattle.step.proofs.Settling.{over_completed, over_open}
use Rattle.step.proofs.ends.over.Goals as goal

pub returns-then-receiving : goal.returns-then-receiving
returns-then-receiving c = over_completed c.args.state c.args.end c.args.now c.if-receiving.true

pub returns : goal.returns
returns c = over_open c.args.state c.args.end c.args.now c.if-receiving.false
