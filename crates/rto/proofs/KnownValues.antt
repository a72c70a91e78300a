-- Document 01's proof sheet, R1 and R2, and the bounds' edges, by computation.
use Rattle.std.specs.Prelude.{Err, None, Ok, Option, Some}
use Rattle.std.proofs.Common.{◌≡◌, ℕ, ◌+◌, true, false, [], ◌∷◌, refl, lit≤}
use lib.Ieee.{fits, add, sub, mul, div, of_int, le, lt}
use Rattle.bounds.specs.Bounds.{count_limit, max_duration, max_estimate}
use Rattle.rtt.specs.Rtt.{zero64, one64, eighth64, quarter64, four64, from_ms, first_rttvar_ms, first_estimate, next_estimate}
use Rattle.rtt.specs.Rfc6298 as Rfc
use Rattle.rtt.specs.Rfc6298.{whole}
use Rattle.rtt.proofs.Section2.{first_distances, next_distances}
use Rattle.rto.specs.Rto.{no_stats, fresh, estimate_for, accept_sample, sampled, timed_out, on_timeout_unchecked, reset_backoff_unchecked, config_in_bounds, default_config, update_rtt, on_timeout, reset_backoff, state_broken, counts_full, held_too_long, with_rejections, with_stats, update_result}
use Rattle.rto.specs.History.{timeout, reset, step, after_calls}
use Rattle.refusal.specs.Order.{verdict, decide, first_of, numbered, or_else, order}
use Rattle.refusal.specs.declared.Refusal.TheVariants.{State, Counts, Time}
use Rattle.rto.specs.declared.RtoEstimator.{RtoEstimator}
use Rattle.rto.specs.declared.RtoConfig.{RtoConfig}
use Rattle.rto.proofs.Keeps.{Doubles, Good, fresh_good}
use Rattle.rto.proofs.Rfc6298.{default_factors, Holds, first_sample, next_sample, karn}
use Rattle.refusal.specs.Order.{passed}

-- k 4, granularity 1 ms, multiplier 1, alpha 1/8, beta 1/4, and this initial RTO and these limits
abbrev setup : ℕ → ℕ → ℕ → RtoConfig
setup initial lo hi = record { initial_rto = initial; min_rto = lo; max_rto = hi; granularity = 1000000; alpha = eighth64; beta = quarter64; k = four64; rto_multiplier = one64 }

abbrev pub limits : ℕ → ℕ → RtoConfig
limits lo hi = setup 1000000000 lo hi

-- this setup, SRTT, RTTVAR and RTO, and as many samples
abbrev pub holding : RtoConfig → Option ℕ → Option ℕ → ℕ → ℕ → RtoEstimator
holding c s v rto n =
    record {
      config = c;
      srtt = s;
      rttvar = v;
      current_rto = rto;
      base_rto = rto;
      in_backoff = false;
      consecutive_timeouts = 0;
      stats =
          record {
            sample_count = n;
            karn_rejected_count = 0;
            timeout_count = 0;
            backoff_count = 0;
            min_rtt = None;
            max_rtt = None;
            sum_rtt_millis = zero64;
            latest_rtt = None;
            max_consecutive_timeouts = 0;
          };
    }

-- R1: first sample 100 ms, limits 1 ms and 60 s: 300 ms
pub r1 : (accept_sample (fresh (limits 1000000 60000000000)) 100000000).current_rto ≡ 300000000
unfolding accept_sample fresh no_stats sampled estimate_for first_estimate add mul div of_int lt
r1 = refl

-- R1: minimum 1 s: 1,000 ms
pub r1_minimum : (accept_sample (fresh (limits 1000000000 60000000000)) 100000000).current_rto ≡ 1000000000
unfolding accept_sample fresh no_stats sampled estimate_for first_estimate add mul div of_int lt
r1_minimum = refl

-- R2: timeout at 300 ms, limits 1 ms and 500 ms: 500 ms
pub r2 : (on_timeout_unchecked (holding (limits 1000000 500000000) None None 300000000 0)).current_rto ≡ 500000000
unfolding on_timeout_unchecked
r2 = refl

-- R1 and R2 as the calls answer them
pub r1_call : (update_rtt (fresh (limits 1000000 60000000000)) 100000000 false).estimator.current_rto ≡ 300000000
unfolding update_rtt decide verdict first_of numbered or_else order state_broken config_in_bounds counts_full held_too_long accept_sample fresh no_stats sampled estimate_for first_estimate add mul div of_int le lt
r1_call = refl

pub r1_answer : (update_rtt (fresh (limits 1000000 60000000000)) 100000000 false).answer ≡ Ok true
unfolding update_rtt decide verdict first_of numbered or_else order state_broken config_in_bounds counts_full held_too_long accept_sample fresh no_stats sampled estimate_for first_estimate add mul div of_int le lt
r1_answer = refl

pub r2_call : (on_timeout (holding (limits 1000000 500000000) None None 300000000 0)).answer ≡ Ok 500000000
unfolding on_timeout decide verdict first_of numbered or_else order state_broken config_in_bounds counts_full held_too_long on_timeout_unchecked le
r2_call = refl

-- initial RTO 10 ms, minimum 200 ms: a timeout gives 200 ms, and a reset after it 10 ms
pub reset_to_initial : ((after_calls (setup 10000000 200000000 60000000000) (timeout ∷ [])).current_rto ≡ 200000000) × ((after_calls (setup 10000000 200000000 60000000000) (timeout ∷ reset ∷ [])).current_rto ≡ 10000000)
unfolding after_calls step on_timeout reset_backoff decide verdict first_of numbered or_else order state_broken config_in_bounds counts_full held_too_long on_timeout_unchecked timed_out reset_backoff_unchecked fresh no_stats le
reset_to_initial = (refl, refl)

-- ---- the default setup is within its bounds, and its doubles are doubles
pub default_in_bounds : config_in_bounds default_config ≡ true
unfolding config_in_bounds default_config le
default_in_bounds = refl

pub default_doubles : Doubles default_config
unfolding default_config fits
default_doubles = record { alpha = tt; beta = tt; k = tt; multiplier = tt }

-- (3): a retransmitted sample, given to a fresh estimator
pub default_karn : update_rtt (fresh default_config) 100000000 true ≡ update_result (with_stats (fresh default_config) (with_rejections no_stats 1)) (Ok false)
unfolding fresh no_stats counts_full
default_karn = karn (fresh default_config) 100000000 (fresh_good default_config default_in_bounds) refl (lit≤ tt)

-- section 2 over exact numbers: the first sample, and a second one where SRTT is 100 ms and RTTVAR 50 ms
pub default_first : Holds first_distances (Rfc.first (whole 1000000) (whole 100000000)) (update_rtt (fresh default_config) 100000000 false).estimator
unfolding fresh no_stats counts_full default_config
default_first = first_sample (fresh default_config) 100000000 default_factors (fresh_good default_config default_in_bounds) refl (lit≤ tt) refl refl

abbrev second : RtoEstimator
second = holding default_config (Some 100000000) (Some 50000000) 300000000 1

second_good : Good second
unfolding state_broken config_in_bounds held_too_long default_config le
second_good = record { state = refl; times = refl }

pub default_next : Holds next_distances (Rfc.next (whole 1000000) (whole 100000000) (whole 50000000) (whole 200000000)) (update_rtt second 200000000 false).estimator
unfolding counts_full default_config
default_next = next_sample second 200000000 default_factors second_good refl (lit≤ tt) 100000000 50000000 refl refl

-- (2.3): alpha 1/8, beta 1/4, SRTT 100 ms, RTTVAR 50 ms, sample 200 ms
pub second_sample : (next_estimate eighth64 quarter64 four64 one64 1000000 100000000 50000000 200000000).rttvar ≡ 62500000
unfolding next_estimate add sub mul div of_int
second_sample = refl

-- (2.2): half of an odd first sample goes up or down, and not always to the even nanosecond: of 1, 3 and 9 ns
pub odd_halves : (from_ms (first_rttvar_ms 1) ≡ 1) × (from_ms (first_rttvar_ms 3) ≡ 1) × (from_ms (first_rttvar_ms 9) ≡ 4)
unfolding mul div add of_int
odd_halves = (refl, refl, refl)

-- ---- the bounds' edges: SRTT, RTTVAR and sample_count held, and nothing else
abbrev held : Option ℕ → Option ℕ → ℕ → RtoEstimator
held s v n = holding (limits 1000000 60000000000) s v 1000000000 n

-- check 9: 86,401 s, a nanosecond more, only one set; check 8: 2 ^ 60 - 1 and 2 ^ 60
pub held_edges : ((reset_backoff (held (Some max_estimate) (Some max_estimate) 0)).answer ≡ passed)
    × ((reset_backoff (held (Some (max_estimate + 1)) (Some 0) 0)).answer ≡ Err State)
    × ((reset_backoff (held (Some 0) (Some (max_estimate + 1)) 0)).answer ≡ Err State)
    × ((reset_backoff (held (Some 0) None 0)).answer ≡ Err State)
    × ((reset_backoff (held None (Some 0) 0)).answer ≡ Err State)
    × ((reset_backoff (held None None 1152921504606846975)).answer ≡ passed)
    × ((reset_backoff (held None None count_limit)).answer ≡ Err Counts)
unfolding reset_backoff decide verdict first_of numbered or_else order state_broken config_in_bounds counts_full held_too_long le
held_edges = (refl, refl, refl, refl, refl, refl, refl)

-- check 10: 86,400 s and a nanosecond more, of a retransmitted sample too
pub sample_edges : ((update_rtt (held None None 0) max_duration true).answer ≡ Ok false) × ((update_rtt (held None None 0) (max_duration + 1) true).answer ≡ Err Time)
unfolding update_rtt decide verdict first_of numbered or_else order state_broken config_in_bounds counts_full held_too_long le
sample_edges = (refl, refl)
