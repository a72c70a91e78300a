use Rattle.std.proofs.Common.{refl}
use Rattle.rto.specs.Rto.{reset_backoff_unchecked}
use Rattle.rto.proofs.RtoEstimator.reset_backoff_unchecked.Goals as goal

pub returns : goal.returns
unfolding reset_backoff_unchecked
returns c = refl
