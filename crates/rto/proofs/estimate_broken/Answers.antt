use Rattle.std.proofs.Common.{sym, ◌∙◌, ap₂}
use Rattle.rto.specs.Rto.{estimate_broken}
use Rattle.rto.proofs.estimate_broken.Goals as goal

pub returns-in-Some-rttvar-2 : goal.returns-in-Some-rttvar-2
returns-in-Some-rttvar-2 c = c.too_large.ensures ∙ sym (ap₂ estimate_broken c.in-Some.is c.in-Some-rttvar-2.is)
