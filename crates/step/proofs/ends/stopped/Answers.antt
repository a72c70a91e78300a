use Rattle.step.specs.State.{run_of}
use Rattle.step.proofs.Settling.{stopped_never, stopped_by}
use Rattle.step.proofs.ends.stopped.Goals as goal

pub returns-in-None : goal.returns-in-None
returns-in-None c = λ l rest h. stopped_never c.in-None.is h

pub returns-in-Some : goal.returns-in-Some
returns-in-Some c = λ l rest h. stopped_by (run_of c.args.state l) rest c.in-Some.is (rw c.from.ensures at c.over.ensures l)
