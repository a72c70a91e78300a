-- Document 01, "Links that would ruin a book": what any list of calls says of the estimator, each of its fields, from
-- the accepted calls alone. The oldest call stands first.
use Rattle.std.specs.Prelude.{ℕ, zero, suc, ◌*◌, ◌^◌, min, max, Bool, true, false, cond, ◌||◌, List, [], ◌∷◌, ◌++◌}
use Rattle.std.specs.Prelude.{length, nat_lt, Float, Err, None, Ok, Option, Result, Some}
use mathlib.Core.List.{foldr, foldl}
use Rattle.std.specs.Float.{binary64}
use Rattle.std.specs.Float.Ieee.{add}
use Rattle.bounds.specs.Bounds.{max_duration}
use Rattle.refusal.specs.Counts.{count_full}
use Rattle.rtt.specs.Rtt.{zero64, to_ms}
use Rattle.rtt.specs.declared.Estimate.{Estimate}
use Rattle.rto.specs.declared.RtoConfig.{RtoConfig}
use Rattle.rto.specs.declared.RtoEstimator.{RtoEstimator}
use Rattle.rto.specs.Rto.{max_consecutive, limited, first_of, next_of, fresh, update_rtt, on_timeout, reset_backoff}
use Rattle.refusal.specs.declared.Refusal.{Refusal}

-- `update_rtt` with the sample and whether it was retransmitted, `on_timeout`, `reset_backoff`
pub data Call : Type 0 where
  sample : ℕ → Bool → Call
  timeout : Call
  reset : Call

unfoldable pub step : RtoEstimator → Call → RtoEstimator
step e (sample d again) = (update_rtt e d again).estimator
step e timeout = (on_timeout e).estimator
step e reset = (reset_backoff e).estimator

unfoldable pub after_calls : RtoConfig → List Call → RtoEstimator
after_calls c xs = foldl step (fresh c) xs

-- whether an answer is a refusal
abbrev pub update_refused : Result Bool Refusal → Bool
update_refused (Ok b) = false
update_refused (Err r) = true

abbrev pub timeout_refused : Result ℕ Refusal → Bool
timeout_refused (Ok n) = false
timeout_refused (Err r) = true

abbrev pub reset_refused : Result Unit Refusal → Bool
reset_refused (Ok tt) = false
reset_refused (Err r) = true

unfoldable pub is_refused : RtoEstimator → Call → Bool
is_refused e (sample d again) = update_refused (update_rtt e d again).answer
is_refused e timeout = timeout_refused (on_timeout e).answer
is_refused e reset = reset_refused (reset_backoff e).answer

-- ---- what a list of accepted calls says; nothing from here on looks at an estimator
-- the samples but the retransmitted ones
unfoldable pub samples : List Call → List ℕ
samples [] = []
samples (sample d true ∷ xs) = samples xs
samples (sample d false ∷ xs) = d ∷ samples xs
samples (timeout ∷ xs) = samples xs
samples (reset ∷ xs) = samples xs

unfoldable pub count : (Call → Bool) → List Call → ℕ
count p [] = 0
count p (x ∷ xs) = cond (p x) (suc (count p xs)) (count p xs)

abbrev pub is_rejection : Call → Bool
is_rejection (sample d again) = again
is_rejection timeout = false
is_rejection reset = false

abbrev pub is_timeout : Call → Bool
is_timeout (sample d again) = false
is_timeout timeout = true
is_timeout reset = false

abbrev pub rejections : List Call → ℕ
rejections xs = count is_rejection xs

abbrev pub timeouts : List Call → ℕ
timeouts xs = count is_timeout xs

-- timeouts since the last reset or sample that was not retransmitted: n of them before a call
abbrev pub since : ℕ → Call → ℕ
since n (sample d true) = n
since n (sample d false) = 0
since n timeout = suc n
since n reset = 0

unfoldable pub timeouts_since : List Call → ℕ
timeouts_since xs = foldl since 0 xs

-- the most that there were at any moment
unfoldable pub most_since : ℕ → List Call → ℕ
most_since n [] = n
most_since n (x ∷ xs) = max n (most_since (since n x) xs)

-- ---- of the samples
unfoldable pub min_of : List ℕ → Option ℕ
min_of [] = None
min_of (d ∷ ds) = Some (foldr min d ds)

unfoldable pub max_of : List ℕ → Option ℕ
max_of [] = None
max_of (d ∷ ds) = Some (foldr max d ds)

unfoldable pub latest : List ℕ → Option ℕ
latest ds = foldl (λ (r : Option ℕ) (d : ℕ). Some d) None ds

-- the running sum in ms, from 0.0
unfoldable pub sum_ms : List ℕ → Float
sum_ms ds = foldl (λ (s : Float) (d : ℕ). add binary64 s (to_ms d)) zero64 ds

-- (2.2) for the first sample, (2.3) for each later one
abbrev pub estimate_after : RtoConfig → Option Estimate → ℕ → Estimate
estimate_after c None d = first_of c d
estimate_after c (Some x) d = next_of c x.srtt x.rttvar d

unfoldable pub last_estimate : RtoConfig → List ℕ → Option Estimate
last_estimate c ds = foldl (λ (x : Option Estimate) (d : ℕ). Some (estimate_after c x d)) None ds

abbrev pub srtt_of : Option Estimate → Option ℕ
srtt_of None = None
srtt_of (Some x) = Some x.srtt

abbrev pub rttvar_of : Option Estimate → Option ℕ
rttvar_of None = None
rttvar_of (Some x) = Some x.rttvar

-- ---- the RTO
-- before the first sample the initial one, which the limits don't touch; then the last sample's, within the limits
abbrev pub base_rto : RtoConfig → Option Estimate → ℕ
base_rto c None = c.initial_rto
base_rto c (Some x) = limited c x.rto

-- (5.5): after n timeouts, doubled n times, at least the minimum from the first timeout on, at most the maximum
abbrev pub backed_off : RtoConfig → ℕ → ℕ → ℕ
backed_off c base zero = base
backed_off c base (suc n) = min (max (base * 2) c.min_rto * 2 ^ n) c.max_rto

-- whether a sample was accepted, or a timeout since the last reset: then the RTO lies within its limits, else it is the
-- initial one
unfoldable pub is_limited : List Call → Bool
is_limited xs = nat_lt 0 (length (samples xs)) || nat_lt 0 (timeouts_since xs)

-- ---- the whole estimator
unfoldable pub estimator_of : RtoConfig → List Call → RtoEstimator
estimator_of c xs =
    let ds = samples xs in
    let x = last_estimate c ds in
    let n = timeouts_since xs in
    record {
      config = c;
      srtt = srtt_of x;
      rttvar = rttvar_of x;
      current_rto = backed_off c (base_rto c x) n;
      base_rto = base_rto c x;
      in_backoff = nat_lt 0 n;
      consecutive_timeouts = min n max_consecutive;
      stats =
          record {
            sample_count = length ds;
            karn_rejected_count = rejections xs;
            timeout_count = timeouts xs;
            backoff_count = timeouts xs;
            min_rtt = min_of ds;
            max_rtt = max_of ds;
            sum_rtt_millis = sum_ms ds;
            latest_rtt = latest ds;
            max_consecutive_timeouts = min (most_since 0 xs) max_consecutive;
          };
    }

-- ---- the accepted calls of a list: none after a counter has reached its bound (check 8), and none with a sample above
-- its bound (check 10)
unfoldable pub full : List Call → Bool
full xs = count_full (length (samples xs)) || (count_full (rejections xs) || count_full (timeouts xs))

abbrev pub too_long : Call → Bool
too_long (sample d again) = nat_lt max_duration d
too_long timeout = false
too_long reset = false

-- xs being the accepted calls before x
unfoldable pub accept : List Call → Call → List Call
accept xs x = cond (full xs || too_long x) xs (xs ++ (x ∷ []))

unfoldable pub accepted : List Call → List Call
accepted xs = foldl accept [] xs
