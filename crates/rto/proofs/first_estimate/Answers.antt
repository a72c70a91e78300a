use Rattle.rto.proofs.Checks.{config_of}
use Rattle.rto.proofs.Checks.{config_of}
use Rattle.rto.proofs.first_estimate.Goals as goal

pub first_estimate_unchecked-requires : goal.first_estimate_unchecked-requires
first_estimate_unchecked-requires c = let g = config_of c.args.c c.requires.0 in (g.k, g.multiplier, g.granularity, c.requires.1)
