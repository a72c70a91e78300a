use Rattle.step.specs.State.{run_of}
use Rattle.step.proofs.Settling.{moved_last, moved_on}
use Rattle.step.proofs.ends.moved.Goals as goal

pub returns-then-state-eq0 : goal.returns-then-state-eq0
returns-then-state-eq0 c = λ l. moved_last c.args.plan (run_of c.args.state l) c.args.now c.if-state-eq0.true (c.over.ensures l)

pub returns : goal.returns
returns c = λ l. moved_on c.args.plan (run_of c.args.state l) c.args.now c.if-state-eq0.false (c.going.ensures l)
