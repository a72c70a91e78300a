-- What words hold and what the calls leave fits the words; the RTO that a timeout answers survives the packing.
use Rattle.std.specs.Prelude.{Err, Ok, Some}
use Prim.Native.Nat.{ℕ, ◌+◌, ◌*◌, ◌≤◌, min, max}
use mathlib.Core.Path.{◌≡◌}
use mathlib.Core.Bool.{Bool, true, false, not}
use native.Mathlib.Nat.{le_trans}
use native.Mathlib.Omega.{arith}
use lib.Ieee.{Float}
use mathlib.Core.List.{List}
use Rattle.bounds.specs.Bounds.{max_duration}
use Rattle.refusal.proofs.Laws.{either_answer}
use Rattle.rto.specs.Rto.{max_consecutive, next_consecutive, no_stats, fresh, call_verdict, held_too_long, sample_too_long, sampled, accept_sample, reject_sample, update_rtt_unchecked, update_result, update_rtt, timed_out, on_timeout_unchecked, timeout_result, on_timeout, reset_backoff_unchecked, reset_result, reset_backoff}
use Rattle.rto.specs.declared.RtoConfig.{RtoConfig}
use Rattle.rto.specs.declared.RtoEstimator.{RtoEstimator}
use Rattle.rto.specs.declared.UpdateResult.{UpdateResult}
use Rattle.rto.specs.declared.TimeoutResult.{TimeoutResult}
use Rattle.rto.specs.declared.ResetResult.{ResetResult}
use Rattle.rto.proofs.Checks.{accepted_passes, config_of, broken_config}
use Rattle.rto.proofs.Laws.{limited_max}
use Rattle.host_answer.specs.Answer.{value_in}
use Rattle.host_answer.proofs.Laws.{value_back}
use Rattle.host_estimator.specs.Words.{held_estimator}
use Rattle.host_estimator.specs.Estimator.{rto_code}
use Rattle.host_estimator.proofs.Held.{holds, Fits}
use Rattle.refusal.specs.Order.{passed}

pub held_fits : (s : List ℕ) (d : List Float) {x : RtoEstimator} → held_estimator s d ≡ Some x → Fits x
held_fits s d e =
    let h = holds s d e in
    rw (← h.is) record { consecutive = h.numbers.readable.consecutive; max_consecutive = h.numbers.readable.max_consecutive }

pub fresh_fits : (c : RtoConfig) → Fits (fresh c)
unfolding fresh no_stats
fresh_fits c = record { consecutive = omega arith; max_consecutive = omega arith }

update_left : (e : RtoEstimator) (sample : ℕ) (again : Bool) → Fits e → Fits (update_rtt_unchecked e sample again)
unfolding reject_sample accept_sample sampled
update_left e sample true f = record { consecutive = f.consecutive; max_consecutive = f.max_consecutive }
update_left e sample false f = record { consecutive = omega arith; max_consecutive = f.max_consecutive }

pub update_fits : (e : RtoEstimator) (sample : ℕ) (again : Bool) → Fits e → Fits (update_rtt e sample again).estimator
unfolding update_rtt
update_fits e sample again f =
    either_answer (λ (x : UpdateResult). Fits x.estimator) (call_verdict e (sample_too_long e sample)) (λ r. update_result e (Err r))
    (update_result (update_rtt_unchecked e sample again) (Ok (not again))) (λ r. f) (λ v. update_left e sample again f)

next_low : (n m : ℕ) → min n m ≤ m
next_low n m = omega arith

max_low : (a b m : ℕ) → a ≤ m → b ≤ m → max a b ≤ m
max_low a b m h k = omega arith

timeout_left : (e : RtoEstimator) → Fits e → Fits (on_timeout_unchecked e)
unfolding on_timeout_unchecked timed_out
timeout_left e f =
    let n = next_consecutive e.consecutive_timeouts in
    let low : n ≤ max_consecutive = next_low (e.consecutive_timeouts + 1) max_consecutive in
    record { consecutive = low; max_consecutive = max_low e.stats.max_consecutive_timeouts n max_consecutive f.max_consecutive low }

pub timeout_fits : (e : RtoEstimator) → Fits e → Fits (on_timeout e).estimator
unfolding on_timeout
timeout_fits e f =
    either_answer (λ (x : TimeoutResult). Fits x.estimator) (call_verdict e (held_too_long e)) (λ r. timeout_result e (Err r))
    (timeout_result (on_timeout_unchecked e) (Ok (on_timeout_unchecked e).current_rto)) (λ r. f) (λ v. timeout_left e f)

reset_left : (e : RtoEstimator) → Fits e → Fits (reset_backoff_unchecked e)
unfolding reset_backoff_unchecked
reset_left e f = record { consecutive = omega arith; max_consecutive = f.max_consecutive }

pub reset_fits : (e : RtoEstimator) → Fits e → Fits (reset_backoff e).estimator
unfolding reset_backoff
reset_fits e f =
    either_answer (λ (x : ResetResult). Fits x.estimator) (call_verdict e (held_too_long e)) (λ r. reset_result e (Err r))
    (reset_result (reset_backoff_unchecked e) passed) (λ r. f) (λ v. reset_left e f)

-- the RTO is within the bound of durations
pub rto_within : (e : RtoEstimator) (n : ℕ) → (on_timeout e).answer ≡ Ok n → n ≤ max_duration
unfolding on_timeout on_timeout_unchecked
rto_within e n =
    either_answer (λ (x : TimeoutResult). x.answer ≡ Ok n → n ≤ max_duration) (call_verdict e (held_too_long e)) (λ r. timeout_result e (Err r))
    (timeout_result (on_timeout_unchecked e) (Ok (on_timeout_unchecked e).current_rto))
    (λ r p. let z : ◌≡◌ {A = ℕ} 0 1 = cc in absurd (omega arith))
    (λ v p.
    let same : (on_timeout_unchecked e).current_rto ≡ n = cc in
    rw (← same) (le_trans (limited_max e.config (e.current_rto * 2)) (config_of e.config (broken_config e (accepted_passes e (held_too_long e) v).state)).max))

pub rto_fits : (e : RtoEstimator) (n : ℕ) → (on_timeout e).answer ≡ Ok n → value_in (rto_code (on_timeout e).answer) ≡ n
unfolding rto_code
rto_fits e n p = let small = rto_within e n p in rw p (value_back 0 n (omega arith) (omega arith))
