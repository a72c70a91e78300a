-- RFC 6298 and document 01, `timing/rto.rs`, "Bounds of a setup" and "Turned away", checks 9, 8, 10 and 4: the
-- reference's RtoEstimator.
use Rattle.std.specs.Prelude.{ℕ, ◌+◌, ◌*◌, min, max, Bool, true, false, cond, not, ◌&&◌, ◌||◌, [], ◌∷◌, pos, ◌==◌}
use Rattle.std.specs.Prelude.{nat_le, nat_lt, Float, Err, None, Ok, Option, Result, Some}
use Rattle.std.specs.Float.{binary64}
use Rattle.std.specs.Float.Ieee.{add, div, of_int}
use Rattle.bounds.specs.Bounds.{max_duration, max_estimate, max_granularity}
use Rattle.float.specs.Roll.{chance_in_bounds}
use Rattle.rtt.specs.Rtt.{zero64, one64, eighth64, quarter64, four64, factor_in_bounds, to_ms, first_estimate}
use Rattle.rtt.specs.Rtt.{next_estimate}
use Rattle.rtt.specs.declared.Estimate.{Estimate}
use Rattle.refusal.specs.Counts.{count_full}
use Rattle.refusal.specs.Order.{check, verdict, decide}
use Rattle.refusal.specs.declared.Refusal.TheVariants.{State, Counts, Time, Setup}
use Rattle.rto.specs.declared.RtoConfig.{RtoConfig}
use Rattle.rto.specs.declared.RtoStats.{RtoStats}
use Rattle.rto.specs.declared.RtoEstimator.{RtoEstimator}
use Rattle.rto.specs.declared.UpdateResult.{UpdateResult}
use Rattle.rto.specs.declared.TimeoutResult.{TimeoutResult}
use Rattle.rto.specs.declared.ResetResult.{ResetResult}
use Rattle.refusal.specs.declared.Refusal.{Refusal}
use Rattle.refusal.specs.Order.{passed}

-- ---- a setup's bounds
abbrev pub durations_in_bounds : RtoConfig → Bool
durations_in_bounds c =
    nat_le c.initial_rto max_duration && (nat_le c.min_rto max_duration && (nat_le c.max_rto max_duration
    && (nat_le c.granularity max_granularity && nat_le c.min_rto c.max_rto)))

abbrev pub factors_in_bounds : RtoConfig → Bool
factors_in_bounds c =
    chance_in_bounds c.alpha && (chance_in_bounds c.beta
    && (factor_in_bounds c.k && factor_in_bounds c.rto_multiplier))

unfoldable pub config_in_bounds : RtoConfig → Bool
config_in_bounds c = durations_in_bounds c && factors_in_bounds c

-- ---- check 9: the setup, and SRTT and RTTVAR, which are set together
abbrev pub estimate_broken : Option ℕ → Option ℕ → Bool
estimate_broken None None = false
estimate_broken None (Some v) = true
estimate_broken (Some s) None = true
estimate_broken (Some s) (Some v) = nat_lt max_estimate s || nat_lt max_estimate v

unfoldable pub state_broken : RtoEstimator → Bool
state_broken e = not (config_in_bounds e.config) || estimate_broken e.srtt e.rttvar

-- ---- check 8
unfoldable pub counts_full : RtoStats → Bool
counts_full s =
    count_full s.sample_count || (count_full s.karn_rejected_count
    || (count_full s.timeout_count || count_full s.backoff_count))

-- ---- check 10
abbrev pub rtt_too_long : Option ℕ → Bool
rtt_too_long None = false
rtt_too_long (Some d) = nat_lt max_duration d

unfoldable pub held_too_long : RtoEstimator → Bool
held_too_long e =
    nat_lt max_duration e.current_rto || (nat_lt max_duration e.base_rto || (rtt_too_long e.stats.min_rtt
    || (rtt_too_long e.stats.max_rtt || rtt_too_long e.stats.latest_rtt)))

abbrev pub sample_too_long : RtoEstimator → ℕ → Bool
sample_too_long e sample = held_too_long e || nat_lt max_duration sample

-- ---- the checks of a call on an estimator; `late`: check 10
abbrev pub call_verdict : RtoEstimator → Bool → Result Unit Refusal
call_verdict e late =
    verdict (check (state_broken e) State ∷ check (counts_full e.stats) Counts ∷ check late Time ∷ [])

-- ---- making
-- 1 s, 200 ms, 60 s, 1 ms, 1/8, 1/4, 4 and 1
unfoldable pub default_config : RtoConfig
default_config =
    record {
      initial_rto = 1000000000;
      min_rto = 200000000;
      max_rto = 60000000000;
      granularity = 1000000;
      alpha = eighth64;
      beta = quarter64;
      k = four64;
      rto_multiplier = one64;
    }

unfoldable pub no_stats : RtoStats
no_stats =
    record {
      sample_count = 0;
      karn_rejected_count = 0;
      timeout_count = 0;
      backoff_count = 0;
      min_rtt = None;
      max_rtt = None;
      sum_rtt_millis = zero64;
      latest_rtt = None;
      max_consecutive_timeouts = 0;
    }

-- (2.1): the initial RTO, which the limits don't touch
unfoldable pub fresh : RtoConfig → RtoEstimator
fresh c =
    record {
      config = c;
      srtt = None;
      rttvar = None;
      current_rto = c.initial_rto;
      base_rto = c.initial_rto;
      in_backoff = false;
      consecutive_timeouts = 0;
      stats = no_stats;
    }

-- ---- a sample
-- within the limits, (2.4) and (2.5)
abbrev pub limited : RtoConfig → ℕ → ℕ
limited c rto = min (max rto c.min_rto) c.max_rto

-- (2.2) and (2.3) with a setup's numbers
abbrev pub first_of : RtoConfig → ℕ → Estimate
first_of c sample = first_estimate c.k c.rto_multiplier c.granularity sample

abbrev pub next_of : RtoConfig → ℕ → ℕ → ℕ → Estimate
next_of c srtt rttvar sample =
    next_estimate c.alpha c.beta c.k c.rto_multiplier c.granularity srtt rttvar sample

unfoldable pub estimate_for : RtoConfig → Option ℕ → Option ℕ → ℕ → Estimate
estimate_for c None v sample = first_of c sample
estimate_for c (Some s) None sample = first_of c sample
estimate_for c (Some s) (Some v) sample = next_of c s v sample

abbrev pub min_rtt : Option ℕ → ℕ → Option ℕ
min_rtt None d = Some d
min_rtt (Some m) d = Some (min m d)

abbrev pub max_rtt : Option ℕ → ℕ → Option ℕ
max_rtt None d = Some d
max_rtt (Some m) d = Some (max m d)

unfoldable pub sampled : RtoStats → ℕ → RtoStats
sampled s d =
    record {
      sample_count = s.sample_count + 1;
      karn_rejected_count = s.karn_rejected_count;
      timeout_count = s.timeout_count;
      backoff_count = s.backoff_count;
      min_rtt = min_rtt s.min_rtt d;
      max_rtt = max_rtt s.max_rtt d;
      sum_rtt_millis = add binary64 s.sum_rtt_millis (to_ms d);
      latest_rtt = Some d;
      max_consecutive_timeouts = s.max_consecutive_timeouts;
    }

unfoldable pub accept_sample : RtoEstimator → ℕ → RtoEstimator
accept_sample e d =
    let x = estimate_for e.config e.srtt e.rttvar d in
    record {
      config = e.config;
      srtt = Some x.srtt;
      rttvar = Some x.rttvar;
      current_rto = limited e.config x.rto;
      base_rto = limited e.config x.rto;
      in_backoff = false;
      consecutive_timeouts = 0;
      stats = sampled e.stats d;
    }

-- Karn's algorithm, section 3: a retransmitted sample changes one counter only
abbrev pub with_rejections : RtoStats → ℕ → RtoStats
with_rejections s n =
    record {
      sample_count = s.sample_count;
      karn_rejected_count = n;
      timeout_count = s.timeout_count;
      backoff_count = s.backoff_count;
      min_rtt = s.min_rtt;
      max_rtt = s.max_rtt;
      sum_rtt_millis = s.sum_rtt_millis;
      latest_rtt = s.latest_rtt;
      max_consecutive_timeouts = s.max_consecutive_timeouts;
    }

abbrev pub with_stats : RtoEstimator → RtoStats → RtoEstimator
with_stats e s =
    record {
      config = e.config;
      srtt = e.srtt;
      rttvar = e.rttvar;
      current_rto = e.current_rto;
      base_rto = e.base_rto;
      in_backoff = e.in_backoff;
      consecutive_timeouts = e.consecutive_timeouts;
      stats = s;
    }

unfoldable pub reject_sample : RtoEstimator → RtoEstimator
reject_sample e = with_stats e (with_rejections e.stats (e.stats.karn_rejected_count + 1))

abbrev pub update_rtt_unchecked : RtoEstimator → ℕ → Bool → RtoEstimator
update_rtt_unchecked e d again = cond again (reject_sample e) (accept_sample e d)

-- ---- a timeout: (5.5) doubles, then the limits
-- `consecutive_timeouts` is a u32 that stops at its largest value
abbrev pub max_consecutive : ℕ
max_consecutive = 4294967295

abbrev pub next_consecutive : ℕ → ℕ
next_consecutive n = min (n + 1) max_consecutive

unfoldable pub timed_out : RtoStats → ℕ → RtoStats
timed_out s consecutive =
    record {
      sample_count = s.sample_count;
      karn_rejected_count = s.karn_rejected_count;
      timeout_count = s.timeout_count + 1;
      backoff_count = s.backoff_count + 1;
      min_rtt = s.min_rtt;
      max_rtt = s.max_rtt;
      sum_rtt_millis = s.sum_rtt_millis;
      latest_rtt = s.latest_rtt;
      max_consecutive_timeouts = max s.max_consecutive_timeouts consecutive;
    }

unfoldable pub on_timeout_unchecked : RtoEstimator → RtoEstimator
on_timeout_unchecked e =
    let n = next_consecutive e.consecutive_timeouts in
    record {
      config = e.config;
      srtt = e.srtt;
      rttvar = e.rttvar;
      current_rto = limited e.config (e.current_rto * 2);
      base_rto = e.base_rto;
      in_backoff = true;
      consecutive_timeouts = n;
      stats = timed_out e.stats n;
    }

-- ---- the RTO from before the timeouts, which is the initial one before any sample
unfoldable pub reset_backoff_unchecked : RtoEstimator → RtoEstimator
reset_backoff_unchecked e =
    record {
      config = e.config;
      srtt = e.srtt;
      rttvar = e.rttvar;
      current_rto = e.base_rto;
      base_rto = e.base_rto;
      in_backoff = false;
      consecutive_timeouts = 0;
      stats = e.stats;
    }

abbrev pub mean : ℕ → Float → Float
mean count sum = cond (count == 0) zero64 (div binary64 sum (of_int binary64 (pos count)))

unfoldable pub mean_rtt_ms_unchecked : RtoStats → Float
mean_rtt_ms_unchecked s = mean s.sample_count s.sum_rtt_millis

-- ---- the entry points
unfoldable pub with_config : RtoConfig → Result RtoEstimator Refusal
with_config c =
    decide (verdict (check (not (config_in_bounds c)) Setup ∷ [])) (λ r. Err r)
    (Ok (fresh c))

abbrev pub update_result : RtoEstimator → Result Bool Refusal → UpdateResult
update_result e a = record { estimator = e; answer = a }

unfoldable pub update_rtt : RtoEstimator → ℕ → Bool → UpdateResult
update_rtt e sample again =
    decide (call_verdict e (sample_too_long e sample)) (λ r. update_result e (Err r))
    (update_result (update_rtt_unchecked e sample again) (Ok (not again)))

abbrev pub timeout_result : RtoEstimator → Result ℕ Refusal → TimeoutResult
timeout_result e a = record { estimator = e; answer = a }

unfoldable pub on_timeout : RtoEstimator → TimeoutResult
on_timeout e =
    let x = on_timeout_unchecked e in
    decide (call_verdict e (held_too_long e)) (λ r. timeout_result e (Err r))
    (timeout_result x (Ok x.current_rto))

abbrev pub reset_result : RtoEstimator → Result Unit Refusal → ResetResult
reset_result e a = record { estimator = e; answer = a }

unfoldable pub reset_backoff : RtoEstimator → ResetResult
reset_backoff e =
    decide (call_verdict e (held_too_long e)) (λ r. reset_result e (Err r))
    (reset_result (reset_backoff_unchecked e) passed)

unfoldable pub has_exceeded_retry_limit : RtoEstimator → ℕ → Result Bool Refusal
has_exceeded_retry_limit e n =
    decide (call_verdict e (held_too_long e)) (λ r. Err r)
    (Ok (nat_le n e.consecutive_timeouts))

unfoldable pub mean_rtt_ms : RtoEstimator → Result Float Refusal
mean_rtt_ms e =
    decide (call_verdict e (held_too_long e)) (λ r. Err r)
    (Ok (mean_rtt_ms_unchecked e.stats))
