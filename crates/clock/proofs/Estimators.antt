-- A run's estimator: as made, and with the notes after a sample.
use Prim.Native.Nat.{ℕ, ◌+◌, ◌≤◌, ◌<◌}
use native.Mathlib.Omega.{arith}
use mathlib.Core.Path.{◌≡◌, refl}
use mathlib.Core.Bool.{true, false}
use borrow.Author.Tests.{lt-leb}
use lib.Dec.{lit<}
use lib.ListN.{length}
use Rattle.bounds.specs.Bounds.{count_limit, max_duration}
use Rattle.rto.specs.Rto.{counts_full, config_in_bounds, fresh, no_stats, timed_out, on_timeout_unchecked}
use Rattle.rto.specs.declared.RtoConfig.{RtoConfig}
use Rattle.rto.specs.declared.RtoEstimator.{RtoEstimator}
use Rattle.rto.specs.declared.RtoStats.{RtoStats}
use Rattle.rto.proofs.Checks.{rto_in_time}
use Rattle.rto.proofs.Laws.{fresh_good, backoff_good}
use Rattle.notes.specs.Notes.{SegMetas, Timely, ScheduledBelow}
use Rattle.notes.proofs.Laws.{timely_sample, scheduled_sample, sample_length}
use Rattle.clock.specs.Clock.{sample_rtt, CanSample}
use Rattle.clock.proofs.Sampling.{sample_rtt_metas, sample_rtt_good, sample_rtt_counts}
use Rattle.clock.specs.Estimator.{Factors, GoodEstimator}

-- each timeout is counted
pub back_off_counts : (e : RtoEstimator) → ((on_timeout_unchecked e).stats.timeout_count ≡ e.stats.timeout_count + 1) × ((on_timeout_unchecked e).stats.backoff_count ≡ e.stats.backoff_count + 1)
unfolding on_timeout_unchecked timed_out
back_off_counts e = (refl, refl)

pub estimator_rto : (e : RtoEstimator) (k : ℕ) → GoodEstimator e k → e.current_rto ≤ max_duration
estimator_rto e k g = rto_in_time e g.times

pub fresh_estimator : (c : RtoConfig) → config_in_bounds c ≡ true → Factors c → GoodEstimator (fresh c) 0
unfolding fresh no_stats
fresh_estimator c b f =
    let g = fresh_good c b in
    record {
      factors = f;
      state = g.state;
      times = g.times;
      sampled = omega arith;
      timeouts = lit< tt;
      backoffs = lit< tt;
    }

not_full : (s : RtoStats) → s.sample_count < count_limit → s.karn_rejected_count < count_limit → s.timeout_count < count_limit → s.backoff_count < count_limit → counts_full s ≡ false
unfolding counts_full
not_full s a b d f = rw (lt-leb count_limit s.sample_count a, lt-leb count_limit s.karn_rejected_count b, lt-leb count_limit s.timeout_count d, lt-leb count_limit s.backoff_count f)

low : (a b k l : ℕ) → a + b ≤ k → k < l → (a < l) × (b < l)
low a b k l h f = (omega arith, omega arith)

module _ (e : RtoEstimator) (k : ℕ) (g : GoodEstimator e k) where
  pub estimator_more : (n : ℕ) → k ≤ n → GoodEstimator e n
  estimator_more n h = let a = g.sampled in record { factors = g.factors; state = g.state; times = g.times; sampled = omega arith; timeouts = g.timeouts; backoffs = g.backoffs }

  -- ---- a timeout
  pub can_back_off : k < count_limit → (counts_full e.stats ≡ false) × (e.current_rto ≤ max_duration)
  can_back_off few =
      let n = low e.stats.sample_count e.stats.karn_rejected_count k count_limit g.sampled few in
      (not_full e.stats n.0 n.1 g.timeouts g.backoffs, rto_in_time e g.times)

  pub backed_off : (on_timeout_unchecked e).stats.timeout_count < count_limit → (on_timeout_unchecked e).stats.backoff_count < count_limit → GoodEstimator (on_timeout_unchecked e) k
  unfolding on_timeout_unchecked timed_out
  backed_off a b = let r = backoff_good e (record { state = g.state; times = g.times }) in record { factors = g.factors; state = r.state; times = r.times; sampled = g.sampled; timeouts = a; backoffs = b }

  module _ (m : SegMetas) (now : ℕ) (t : Timely m now) where
    pub can_sample : k < count_limit → CanSample e m now
    can_sample few =
        let n = low e.stats.sample_count e.stats.karn_rejected_count k count_limit g.sampled few in
        record { state = g.state; counts = not_full e.stats n.0 n.1 g.timeouts g.backoffs; fits = t.fits; time = t.within }

    -- at most one sample more
    pub sampled_good : (seq : ℕ) → GoodEstimator (sample_rtt e m seq now).estimator (k + 1)
    sampled_good seq =
        let f = g.factors in
        let n = sample_rtt_counts e m seq now in
        let r = sample_rtt_good e m seq now (record { alpha = f.alpha; beta = f.beta; k = f.k; multiplier = f.multiplier }) (record { state = g.state; times = g.times }) t.within in
        let a = n.samples in
        let b = g.sampled in
        record { factors = rw n.config f; state = r.state; times = r.times; sampled = omega arith; timeouts = rw n.timeouts g.timeouts; backoffs = rw n.backoffs g.backoffs }

    pub rto_within : (seq : ℕ) → (sample_rtt e m seq now).estimator.current_rto ≤ max_duration
    rto_within seq = rto_in_time (sample_rtt e m seq now).estimator (sampled_good seq).times

module _ (e : RtoEstimator) (m : SegMetas) (seq now : ℕ) where
  pub sampled_timely : Timely m now → Timely (sample_rtt e m seq now).metas now
  sampled_timely t = rw (sample_rtt_metas e m seq now) (timely_sample m seq now t)

  pub sampled_scheduled : ScheduledBelow m → ScheduledBelow (sample_rtt e m seq now).metas
  sampled_scheduled s = rw (sample_rtt_metas e m seq now) (scheduled_sample m seq now s)

  pub sampled_length : length (sample_rtt e m seq now).metas.rows ≡ length m.rows
  sampled_length = rw (sample_rtt_metas e m seq now) (sample_length m seq now)
