use Rattle.step.proofs.Settling.{earlier_first, earlier_both}
use Rattle.step.proofs.ends.earlier.Goals as goal

pub returns-in-None-b : goal.returns-in-None-b
returns-in-None-b c = earlier_first c.in-Some.is c.in-None-b.is

pub returns-in-Some-b : goal.returns-in-Some-b
returns-in-Some-b c = earlier_both c.in-Some.is c.in-Some-b.is c.min.ensures
