-- What samples and timeouts make of the estimator, as section 2 sees it.
use Rattle.std.specs.Prelude.{None, Option, Some}
use Prim.Native.Nat.{ℕ, ◌+◌, ◌≤◌}
use native.Mathlib.Omega.{arith}
use mathlib.Core.Path.{◌≡◌, refl, sym, ◌∙◌, subst}
use mathlib.Core.Bool.{Bool, true, false}
use mathlib.Core.List.{List, [], ◌∷◌, ◌++◌}
use lib.ListN.{length, length-append}
use Rattle.rto.specs.Rto.{limited, estimate_for, accept_sample, reject_sample, on_timeout_unchecked, timed_out}
use Rattle.rto.specs.Rto as rto
use Rattle.rto.specs.declared.RtoConfig.{RtoConfig}
use Rattle.rto.specs.declared.RtoEstimator.{RtoEstimator}
use Rattle.notes.specs.Notes.{SegMetas, take_sample}
use Rattle.notes.proofs.Laws.{sample_within}
use Rattle.clock.specs.Clock.{by_sample, sample_rtt}
use Rattle.edition_clock.specs.AlongARun.{Estimates, same, estimated}

-- ---- from one estimator to another, by samples with these RTOs
pub record Estimated (now : ℕ) (from e : RtoEstimator) (rtos : List ℕ) : Type 0 where
  pub config : e.config ≡ from.config
  pub estimates : Estimates now from.config from.srtt from.rttvar e.srtt e.rttvar rtos
  pub counted : e.stats.sample_count ≡ from.stats.sample_count + length rtos

pub estimated_start : (now : ℕ) (e : RtoEstimator) → Estimated now e e []
estimated_start now e = record { config = refl; estimates = same; counted = omega arith }

-- no sample was accepted
pub record Unsampled (e f : RtoEstimator) : Type 0 where
  pub config : f.config ≡ e.config
  pub srtt : f.srtt ≡ e.srtt
  pub rttvar : f.rttvar ≡ e.rttvar
  pub count : f.stats.sample_count ≡ e.stats.sample_count

module _ {now : ℕ} {from e : RtoEstimator} {rtos : List ℕ} (q : Estimated now from e rtos) where
  pub estimated_same : {f : RtoEstimator} → Unsampled e f → Estimated now from f rtos
  estimated_same {f} u = record { config = u.config ∙ q.config; estimates = rw (u.srtt, u.rttvar) q.estimates; counted = u.count ∙ q.counted }

  one_more : (a b n m : ℕ) → a ≡ b + n → m ≡ n + 1 → a + 1 ≡ b + m
  one_more a b n m h k = omega arith

  pub estimated_more : (age : ℕ) → age ≤ now → Estimated now from (accept_sample e age) (rtos ++ (accept_sample e age).current_rto ∷ [])
  unfolding accept_sample rto.sampled
  estimated_more age l =
      record {
        config = q.config;
        estimates = subst (λ (c : RtoConfig). Estimates now from.config from.srtt from.rttvar (Some (estimate_for c e.srtt e.rttvar age).srtt) (Some (estimate_for c e.srtt e.rttvar age).rttvar) (rtos ++ limited c (estimate_for c e.srtt e.rttvar age).rto ∷ [])) (sym q.config)
            (estimated age l q.estimates);
        counted = one_more _ _ (length rtos) _ q.counted (length-append rtos (limited e.config (estimate_for e.config e.srtt e.rttvar age).rto ∷ []));
      }

-- ---- an accepted ACK: with the RTO as it was, or that of its sample
pub data Sampling (now : ℕ) (e : RtoEstimator) : RtoEstimator → Type 0 where
  without : {f : RtoEstimator} → Unsampled e f → f.current_rto ≡ e.current_rto → Sampling now e f
  with_sample : {f : RtoEstimator} (age : ℕ) → age ≤ now → f ≡ accept_sample e age → Sampling now e f

by_sample_lem : (now : ℕ) (e : RtoEstimator) (x : Option (ℕ × Bool)) → ((age : ℕ) (again : Bool) → x ≡ Some (age, again) → age ≤ now) → Sampling now e (by_sample e x)
unfolding reject_sample
by_sample_lem now e None h = without (record { config = refl; srtt = refl; rttvar = refl; count = refl }) refl
by_sample_lem now e (Some (age, true)) h = without (record { config = refl; srtt = refl; rttvar = refl; count = refl }) refl
by_sample_lem now e (Some (age, false)) h = with_sample age (h age false refl) refl

pub sampling : (e : RtoEstimator) (m : SegMetas) (seq now : ℕ) → Sampling now e (sample_rtt e m seq now).estimator
unfolding sample_rtt
sampling e m seq now = by_sample_lem now e (take_sample m seq now).sample (λ age again h. sample_within m seq now age again h)

-- ---- a timeout
pub backed_unsampled : (e : RtoEstimator) → Unsampled e (on_timeout_unchecked e)
unfolding on_timeout_unchecked timed_out
backed_unsampled e = record { config = refl; srtt = refl; rttvar = refl; count = refl }
