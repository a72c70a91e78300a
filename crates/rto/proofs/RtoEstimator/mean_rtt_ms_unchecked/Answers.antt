use Rattle.std.proofs.Common.{eq-eqb, ne_eqb}
use lib.Ieee.{of_bits}
use Rattle.rto.specs.Rto.{mean_rtt_ms_unchecked}
use Rattle.rto.proofs.RtoEstimator.mean_rtt_ms_unchecked.Goals as goal

pub returns-then-stats-eq0 : goal.returns-then-stats-eq0
unfolding mean_rtt_ms_unchecked of_bits
returns-then-stats-eq0 c = simp (eq-eqb _ _ c.if-stats-eq0.true)

pub returns : goal.returns
unfolding mean_rtt_ms_unchecked
returns c = simp (ne_eqb _ _ c.if-stats-eq0.false, c.nearest_u64_to_f64.ensures)
