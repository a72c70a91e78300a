use Rattle.std.proofs.Common.{refl}
use lib.Ieee.{of_bits}
use Rattle.rto.specs.Rto.{default_config}
use Rattle.rto.proofs.RtoConfig.default.Goals as goal

pub returns : goal.returns
unfolding default_config of_bits
returns c = refl
