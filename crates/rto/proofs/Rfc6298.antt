-- RFC 6298, rule by rule, of the calls; where the reference departs from it is in docs/DIFFERENCES. Section 2 over exact numbers is
-- rtt/specs/Rfc6298.antt.
use Rattle.std.specs.Prelude.{None, Ok, Option, Some}
use Rattle.std.proofs.Common.{◌≡◌, ℕ, zero, suc, ◌+◌, ◌*◌, ◌^◌, ◌≤◌, min, max, true, false, ◌||◌, ltb, List, [], ◌∷◌, length, sym, refl, ap, ◌∙◌, ap₂, true≢false, le_trans, zero-lt-suc, le-mul_of_pos_right, arith, lit≤, pow_pos, lt-ltb}
use mathlib.Core.List.{foldl}
use Rattle.bounds.specs.Bounds.{max_duration, max_estimate}
use Rattle.rtt.specs.Rtt.{eighth64, quarter64, four64, one64, first_estimate, next_estimate}
use Rattle.rtt.specs.Rfc6298 as Rfc
use Rattle.rtt.specs.Rfc6298.{Estimates, Within, AllWithin, whole}
use Rattle.rtt.specs.declared.Estimate.{Estimate}
use Rattle.rtt.proofs.FirstSample.{same_sample, half_sample}
use Rattle.rtt.proofs.Section2.{first_distances, first_within, next_distances, next_within}
use Rattle.rto.specs.Rto.{config_in_bounds, estimate_broken, counts_full, limited, default_config, fresh, first_of, estimate_for, accept_sample, with_rejections, with_stats, reject_sample, update_result, update_rtt}
use Rattle.rto.specs.History.{Call, after_calls, samples, timeouts_since, estimate_after, last_estimate, base_rto, backed_off, is_limited, estimator_of, accepted}
use Rattle.rto.specs.declared.RtoConfig.{RtoConfig}
use Rattle.rto.specs.declared.RtoEstimator.{RtoEstimator}
use Rattle.rto.proofs.Checks.{config_of, broken_config, broken_estimate, estimates_fit}
use Rattle.rto.proofs.Keeps.{Doubles, Good, limited_max, limited_min}
use Rattle.rto.proofs.History.{update_accepted, after_calls_lem}

-- ---- section 2 over exact numbers
-- the RFC's numbers in a setup
pub record RfcFactors (c : RtoConfig) : Type 0 where
  pub alpha : c.alpha ≡ eighth64
  pub beta : c.beta ≡ quarter64
  pub k : c.k ≡ four64
  pub multiplier : c.rto_multiplier ≡ one64

pub default_factors : RfcFactors default_config
unfolding default_config
default_factors = record { alpha = refl; beta = refl; k = refl; multiplier = refl }

-- (2.1), of the default setup
pub default_initial : Within (whole 0) (fresh default_config).current_rto Rfc.initial_rto
unfolding fresh default_config
default_initial = record { notAbove = lit≤ tt; notBelow = lit≤ tt }

-- an estimator holds SRTT and RTTVAR, and its RTO is one within the limits, all at most d away from x
pub record Holds (d x : Estimates) (e : RtoEstimator) : Type 0 where
  pub estimate : Estimate
  pub srtt : e.srtt ≡ Some estimate.srtt
  pub rttvar : e.rttvar ≡ Some estimate.rttvar
  pub rto : e.current_rto ≡ limited e.config estimate.rto
  pub near : AllWithin d estimate x

-- of a call with a sample that is not retransmitted and that no check refuses
module _ (e : RtoEstimator) (r : ℕ) (t : RfcFactors e.config) (g : Good e) (n : counts_full e.stats ≡ false) (h : r ≤ max_duration) where
  abbrev G : ℕ
  G = e.config.granularity

  G-fits : G ≤ max_estimate
  G-fits = le_trans (config_of e.config (broken_config e g.state)).granularity (lit≤ tt)

  holds : (d x : Estimates) (y : Estimate) → estimate_for e.config e.srtt e.rttvar r ≡ y → AllWithin d y x → Holds d x (update_rtt e r false).estimator
  unfolding accept_sample
  holds d x y p a =
      rw (update_accepted e r false g n h)
      (record { estimate = y; srtt = ap (λ (z : Estimate). Some z.srtt) p; rttvar = ap (λ (z : Estimate). Some z.rttvar) p; rto = ap (λ (z : Estimate). limited e.config z.rto) p; near = a })

  -- (2.2): SRTT and the RTO before its limits are the exact ones, RTTVAR is at most half a nanosecond away
  pub first_sample : e.srtt ≡ None → e.rttvar ≡ None → Holds first_distances (Rfc.first (whole G) (whole r)) (update_rtt e r false).estimator
  unfolding estimate_for
  first_sample p q = holds first_distances (Rfc.first (whole G) (whole r)) (first_estimate four64 one64 G r) first_is (first_within r G (le_trans h (lit≤ tt)) G-fits)
    where
      first_is : estimate_for e.config e.srtt e.rttvar r ≡ first_estimate four64 one64 G r
      first_is = simp (p, q, t.k, t.multiplier)

  -- (2.3): SRTT and RTTVAR are at most half a nanosecond away from the exact ones, the RTO before its limits at most 9 / 8 of one
  pub next_sample : (s v : ℕ) → e.srtt ≡ Some s → e.rttvar ≡ Some v → Holds next_distances (Rfc.next (whole G) (whole s) (whole v) (whole r)) (update_rtt e r false).estimator
  unfolding estimate_for
  next_sample s v p q =
      let b = estimates_fit s v (sym (ap₂ estimate_broken p q) ∙ broken_estimate e g.state) in
      holds next_distances (Rfc.next (whole G) (whole s) (whole v) (whole r)) (next_estimate eighth64 quarter64 four64 one64 G s v r) next_is (next_within s v r G b.0 b.1 (le_trans h (lit≤ tt)) G-fits)
    where
      next_is : estimate_for e.config e.srtt e.rttvar r ≡ next_estimate eighth64 quarter64 four64 one64 G s v r
      next_is = simp (p, q, t.alpha, t.beta, t.k, t.multiplier)

-- (2.2) with any numbers: SRTT is the sample; RTTVAR its half, of an odd sample either nanosecond beside it
module _ (c : RtoConfig) (r : ℕ) (h : r ≤ max_duration) where
  pub first_srtt : (estimate_for c None None r).srtt ≡ r
  unfolding estimate_for first_estimate
  first_srtt = same_sample r (le_trans h (lit≤ tt))

  pub first_half : (r ≤ 2 * (estimate_for c None None r).rttvar + 1) × (2 * (estimate_for c None None r).rttvar ≤ r + 1)
  unfolding estimate_for first_estimate
  first_half = half_sample r (le_trans h (lit≤ tt))

-- ---- (2.4), (2.5): after any list of calls
pub record Limits (c : RtoConfig) (rto : ℕ) : Type 0 where
  pub min_rto : c.min_rto ≤ rto
  pub max_rto : rto ≤ c.max_rto

base_limits : (c : RtoConfig) (x : Estimate) (ds : List ℕ) → c.min_rto ≤ c.max_rto → Limits c (base_rto c (foldl (λ (x : Option Estimate) (d : ℕ). Some (estimate_after c x d)) (Some x) ds))
base_limits c x [] o = record { min_rto = limited_min c x.rto o; max_rto = limited_max c x.rto }
base_limits c x (d ∷ ds) o = base_limits c (estimate_after c (Some x) d) ds o

backed_limits : (c : RtoConfig) (base n : ℕ) → c.min_rto ≤ c.max_rto → Limits c (backed_off c base (suc n))
backed_limits c base n o =
    let x = max (base * 2) c.min_rto in
    record { min_rto = both x (x * 2 ^ n) c.min_rto c.max_rto o (second (base * 2) c.min_rto) (le-mul_of_pos_right x (pow_pos n)); max_rto = least (x * 2 ^ n) c.max_rto }
  where
    second : (a b : ℕ) → b ≤ max a b
    second a b = omega arith

    both : (x y lo hi : ℕ) → lo ≤ hi → lo ≤ x → x ≤ y → lo ≤ min y hi
    both x y lo hi o p q = omega arith

    least : (a b : ℕ) → min a b ≤ b
    least a b = omega arith

module _ (c : RtoConfig) (h : config_in_bounds c ≡ true) (f : Doubles c) (xs : List Call) where
  -- the RTO lies within its limits once a sample was accepted, or a timeout since the last reset
  pub rto_limits : is_limited (accepted xs) ≡ true → Limits c (after_calls c xs).current_rto
  unfolding is_limited estimator_of last_estimate
  rto_limits l = rw (after_calls_lem c h f xs) (go (samples (accepted xs)) (timeouts_since (accepted xs)) l)
    where
      go : (ds : List ℕ) (n : ℕ) → (ltb 0 (length ds) || ltb 0 n) ≡ true → Limits c (backed_off c (base_rto c (last_estimate c ds)) n)
      go ds (suc n) l = backed_limits c (base_rto c (last_estimate c ds)) n (config_of c h).ordered
      go (d ∷ ds) zero l = base_limits c (first_of c d) ds (config_of c h).ordered
      go [] zero l = absurd (true≢false (sym l))

  -- and is the initial one, which may lie outside them, before that: after a reset that follows timeouts alone, too
  pub rto_initial : is_limited (accepted xs) ≡ false → (after_calls c xs).current_rto ≡ c.initial_rto
  unfolding is_limited estimator_of last_estimate
  rto_initial l = rw (after_calls_lem c h f xs) (go (samples (accepted xs)) (timeouts_since (accepted xs)) l)
    where
      go : (ds : List ℕ) (n : ℕ) → (ltb 0 (length ds) || ltb 0 n) ≡ false → backed_off c (base_rto c (last_estimate c ds)) n ≡ c.initial_rto
      go [] zero l = refl
      go (d ∷ ds) n l = absurd (true≢false (rw (lt-ltb 0 (suc (length ds)) (zero-lt-suc (length ds))) at l))
      go [] (suc n) l = absurd (true≢false (rw (lt-ltb 0 (suc n) (zero-lt-suc n)) at l))

-- ---- (3), Karn: a call with a retransmitted sample that no check refuses leaves all but one counter, which is one higher
pub karn : (e : RtoEstimator) (d : ℕ) → Good e → counts_full e.stats ≡ false → d ≤ max_duration → update_rtt e d true ≡ update_result (with_stats e (with_rejections e.stats (e.stats.karn_rejected_count + 1))) (Ok false)
unfolding reject_sample
karn e d g n h = update_accepted e d true g n h
