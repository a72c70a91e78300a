use Rattle.std.proofs.Common.{refl}
use lib.Ieee.{of_bits}
use Rattle.rto.specs.Rto.{no_stats}
use Rattle.rto.proofs.no_stats.Goals as goal

pub returns : goal.returns
unfolding no_stats of_bits
returns c = refl
