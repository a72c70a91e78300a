-- A run's RTO estimator: what its samples and timeouts keep (document 01, "Turned away", 8, 9 and 10).
use Rattle.std.specs.Prelude.{ℕ, ◌+◌, ◌≤◌, ◌<◌, ◌≡◌, false, T}
use Rattle.std.specs.Float.{binary64}
use Rattle.std.specs.Float.Ieee.{fits}
use Rattle.bounds.specs.Bounds.{count_limit}
use Rattle.rto.specs.Rto.{state_broken, held_too_long}
use Rattle.rto.specs.declared.RtoConfig.{RtoConfig}
use Rattle.rto.specs.declared.RtoEstimator.{RtoEstimator}

-- what the factors of a setup are by their type
pub record Factors (c : RtoConfig) : Type 0 where
  pub alpha : T (fits binary64 c.alpha)
  pub beta : T (fits binary64 c.beta)
  pub k : T (fits binary64 c.k)
  pub multiplier : T (fits binary64 c.rto_multiplier)

-- an estimator that got at most so many samples, those that Karn's rule rejects among them
pub record GoodEstimator (e : RtoEstimator) (samples : ℕ) : Type 0 where
  pub factors : Factors e.config
  pub state : state_broken e ≡ false
  pub times : held_too_long e ≡ false
  pub sampled : e.stats.sample_count + e.stats.karn_rejected_count ≤ samples
  pub timeouts : e.stats.timeout_count < count_limit
  pub backoffs : e.stats.backoff_count < count_limit
