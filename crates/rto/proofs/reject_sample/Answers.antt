use Rattle.std.proofs.Common.{refl, arith}
use Rattle.rto.specs.Rto.{reject_sample}
use Rattle.rto.proofs.Checks.{count_below}
use Rattle.rto.proofs.reject_sample.Goals as goal

pub overflow_add-stats : goal.overflow_add-stats
overflow_add-stats c = omega (arith, (count_below c.args.e.stats c.requires).karn)

pub returns : goal.returns
unfolding reject_sample
returns c = refl
