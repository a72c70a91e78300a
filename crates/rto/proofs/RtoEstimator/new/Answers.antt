use Rattle.std.proofs.Common.{ap, ◌∙◌}
use Rattle.rto.specs.Rto.{fresh}
use Rattle.rto.proofs.RtoEstimator.new.Goals as goal

pub returns : goal.returns
returns c = c.with_config_unchecked.ensures ∙ ap fresh c.default.ensures
