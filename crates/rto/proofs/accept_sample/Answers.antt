use Rattle.rto.specs.Rto.{accept_sample}
use Rattle.rto.proofs.Checks.{broken_config, broken_estimate}
use Rattle.rto.proofs.accept_sample.Goals as goal

pub estimate_for-x-requires : goal.estimate_for-x-requires
estimate_for-x-requires c = (broken_config c.args.e c.requires.0, broken_estimate c.args.e c.requires.0, c.requires.2)

pub returns : goal.returns
unfolding accept_sample
returns c = simp (c.limit-rto.ensures, c.stats_with_sample.ensures, c.estimate_for-x.ensures)
