use Rattle.step.specs.State.{run_of}
use Rattle.step.proofs.Settling.{move_none, move_past, move_beyond, move_within}
use Rattle.step.proofs.ends.move_to.Goals as goal

pub returns-then-time-now : goal.returns-then-time-now
returns-then-time-now c = λ l. move_past c.args.plan (run_of c.args.state l) c.in-Some.is c.if-time-now.true (c.exhausted.ensures l) (c.over-then-time-now.ensures l)

pub returns-then-limit-time : goal.returns-then-limit-time
returns-then-limit-time c = λ l. move_beyond c.args.plan (run_of c.args.state l) c.in-Some.is c.if-time-now.false c.if-limit-time.true (c.over-then-limit-time.ensures l)

pub returns-in-None : goal.returns-in-None
returns-in-None c = λ l. move_none c.args.plan (run_of c.args.state l) c.in-None.is (c.over.ensures l)

pub returns-else-limit-time : goal.returns-else-limit-time
returns-else-limit-time c = λ l. move_within c.args.plan (run_of c.args.state l) c.in-Some.is c.if-time-now.false c.if-limit-time.false (c.moved.ensures l)
