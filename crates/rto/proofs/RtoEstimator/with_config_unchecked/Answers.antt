use Rattle.rto.specs.Rto.{fresh}
use Rattle.rto.proofs.RtoEstimator.with_config_unchecked.Goals as goal

pub returns : goal.returns
unfolding fresh
returns c = simp c.no_stats.ensures
