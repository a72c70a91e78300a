use Rattle.std.proofs.Common.{arith}
use Rattle.rto.specs.Rto.{sampled}
use Rattle.rto.proofs.Checks.{count_below}
use Rattle.rto.proofs.stats_with_sample.Goals as goal

pub overflow_add-result : goal.overflow_add-result
overflow_add-result c = omega (arith, (count_below c.args.s c.requires).sample)

pub returns : goal.returns
unfolding sampled
returns c = simp (c.to_ms.ensures, c.max_rtt.ensures, c.min_rtt.ensures)
