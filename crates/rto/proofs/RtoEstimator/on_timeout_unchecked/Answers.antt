use Rattle.std.proofs.Common.{arith}
use Rattle.rto.specs.Rto.{timed_out, on_timeout_unchecked}
use Rattle.rto.proofs.Checks.{count_below}
use Rattle.rto.proofs.RtoEstimator.on_timeout_unchecked.Goals as goal

pub overflow_add-stats : goal.overflow_add-stats
overflow_add-stats c = omega (arith, (count_below c.args.self.stats c.requires.0).timeout)

pub overflow_add-stats-2 : goal.overflow_add-stats-2
overflow_add-stats-2 c = omega (arith, (count_below c.args.self.stats c.requires.0).backoff)

pub returns : goal.returns
unfolding on_timeout_unchecked timed_out
returns c = simp (c.limit.ensures, c.max.ensures, c.saturating_add-n.ensures)
