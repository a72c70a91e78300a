use Rattle.rto.proofs.Checks.{config_of}
use Rattle.rto.proofs.Checks.{config_of}
use Rattle.rto.proofs.next_estimate.Goals as goal

pub next_estimate_unchecked-requires : goal.next_estimate_unchecked-requires
next_estimate_unchecked-requires c = let g = config_of c.args.c c.requires.0 in (g.alpha, g.beta, g.k, g.multiplier, g.granularity, c.requires.1, c.requires.2, c.requires.3)
