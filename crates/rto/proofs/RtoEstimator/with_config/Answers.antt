use Rattle.std.proofs.Common.{sym}
use Rattle.rto.specs.Rto.{with_config}
use Rattle.rto.proofs.Checks.{setup_only}
use Rattle.rto.proofs.RtoEstimator.with_config.Goals as goal

pub returns-then-not-config_in_bounds : goal.returns-then-not-config_in_bounds
unfolding with_config
returns-then-not-config_in_bounds c = simp (setup_only, sym c.config_in_bounds.ensures, c.if-not-config_in_bounds.true)

pub returns : goal.returns
unfolding with_config
returns c = simp (setup_only, sym c.config_in_bounds.ensures, c.if-not-config_in_bounds.false, c.with_config_unchecked.ensures)
