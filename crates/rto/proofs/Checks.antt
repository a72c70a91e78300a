-- The checks of the entry points: their order, and what they let pass.
use Rattle.std.specs.Prelude.{Err, Result, Some}
use Rattle.std.proofs.Common.{◌≡◌, ℕ, ◌<◌, ◌≤◌, Bool, true, false, cond, not, ◌&&◌, ◌||◌, T, ltb, leb, [], ◌∷◌, refl, ◌∙◌, true≢false, ltb-false, leb-false, leb-true}
use mathlib.Core.Bool.{and-eq-true_iff}
use denote.Floats.{passes}
use Rattle.bounds.specs.Bounds.{count_limit, max_duration, max_estimate, max_granularity}
use Rattle.refusal.proofs.Laws.{or_false, accepted_none_true}
use Rattle.refusal.specs.Counts.{count_full}
use Rattle.refusal.specs.Order.{check, verdict, decide, first_of, numbered, or_else, order}
use Rattle.refusal.specs.declared.Refusal.{Refusal}
use Rattle.refusal.specs.declared.Refusal.TheVariants.{State, Counts, Time, Setup}
use Rattle.float.specs.Roll.{chance_in_bounds}
use Rattle.rtt.specs.Rtt.{factor_in_bounds}
use Rattle.rto.specs.Rto.{durations_in_bounds, factors_in_bounds, config_in_bounds, estimate_broken, state_broken, counts_full, rtt_too_long, held_too_long, sample_too_long, call_verdict}
use Rattle.rto.specs.declared.RtoConfig.{RtoConfig}
use Rattle.rto.specs.declared.RtoStats.{RtoStats}
use Rattle.rto.specs.declared.RtoEstimator.{RtoEstimator}
use Rattle.refusal.specs.Order.{passed}

-- ---- checks 9, 8 and 10 of a call
pub call_verdict_is : (s n t : Bool) → verdict (check s State ∷ check n Counts ∷ check t Time ∷ []) ≡ cond s (Err State) (cond n (Err Counts) (cond t (Err Time) passed))
unfolding verdict first_of numbered or_else order
call_verdict_is true n t = refl
call_verdict_is false true t = refl
call_verdict_is false false true = refl
call_verdict_is false false false = refl

-- no check of a call is true
pub record Passes (e : RtoEstimator) (late : Bool) : Type 0 where
  pub state : state_broken e ≡ false
  pub counts : counts_full e.stats ≡ false
  pub times : late ≡ false

pub accepted_passes : (e : RtoEstimator) (late : Bool) → call_verdict e late ≡ passed → Passes e late
accepted_passes e late h = let f = accepted_none_true (check (state_broken e) State ∷ check (counts_full e.stats) Counts ∷ check late Time ∷ []) h in record { state = f.0; counts = f.1.0; times = f.1.1.0 }

pub passes_accepted : (e : RtoEstimator) (late : Bool) → Passes e late → call_verdict e late ≡ passed
passes_accepted e late p = simp (call_verdict_is, p.state, p.counts, p.times)

-- the verdict on an estimator, from its checks' results
pub verdict_on : {v : Result Unit Refusal} (e : RtoEstimator) (late : Bool) {b n t : Bool} → v ≡ verdict (check b State ∷ check n Counts ∷ check t Time ∷ []) → b ≡ state_broken e → n ≡ counts_full e.stats → t ≡ late → v ≡ call_verdict e late
verdict_on e late h p q r = h ∙ rw (p, q, r)

pub sample_in_time : (e : RtoEstimator) (sample : ℕ) → sample_too_long e sample ≡ false → sample ≤ max_duration
sample_in_time e sample h = ltb-false _ _ (or_false (held_too_long e) (ltb max_duration sample) h).1

pub setup_only : {A : Type 0} (s : Bool) (f : Refusal → A) (a : A) → decide (verdict (check s Setup ∷ [])) f a ≡ cond s (f Setup) a
unfolding decide verdict first_of numbered or_else order
setup_only true f a = refl
setup_only false f a = refl

-- ---- Booleans
pub not_is : (a : Bool) → not a ≡ false → a ≡ true
not_is true e = refl
not_is false e = absurd (true≢false e)

-- ---- a setup in bounds
pub record Config (c : RtoConfig) : Type 0 where
  pub initial : c.initial_rto ≤ max_duration
  pub min : c.min_rto ≤ max_duration
  pub max : c.max_rto ≤ max_duration
  pub granularity : c.granularity ≤ max_granularity
  pub ordered : c.min_rto ≤ c.max_rto
  pub alpha : T (chance_in_bounds c.alpha)
  pub beta : T (chance_in_bounds c.beta)
  pub k : T (factor_in_bounds c.k)
  pub multiplier : T (factor_in_bounds c.rto_multiplier)

pub config_of : (c : RtoConfig) → config_in_bounds c ≡ true → Config c
unfolding config_in_bounds
config_of c e =
    let h = (and-eq-true_iff (durations_in_bounds c) (factors_in_bounds c)).0 e in
    let d1 = (and-eq-true_iff (leb c.initial_rto max_duration) _).0 h.0 in
    let d2 = (and-eq-true_iff (leb c.min_rto max_duration) _).0 d1.1 in
    let d3 = (and-eq-true_iff (leb c.max_rto max_duration) _).0 d2.1 in
    let d4 = (and-eq-true_iff (leb c.granularity max_granularity) _).0 d3.1 in
    let f1 = (and-eq-true_iff (chance_in_bounds c.alpha) (chance_in_bounds c.beta && (factor_in_bounds c.k && factor_in_bounds c.rto_multiplier))).0 h.1 in
    let f2 = (and-eq-true_iff (chance_in_bounds c.beta) (factor_in_bounds c.k && factor_in_bounds c.rto_multiplier)).0 f1.1 in
    let f3 = (and-eq-true_iff (factor_in_bounds c.k) (factor_in_bounds c.rto_multiplier)).0 f2.1 in
    record {
      initial = leb-true _ _ d1.0;
      min = leb-true _ _ d2.0;
      max = leb-true _ _ d3.0;
      granularity = leb-true _ _ d4.0;
      ordered = leb-true _ _ d4.1;
      alpha = passes _ f1.0;
      beta = passes _ f2.0;
      k = passes _ f3.0;
      multiplier = passes _ f3.1;
    }

-- ---- counters that check 8 lets pass
pub record Below (s : RtoStats) : Type 0 where
  pub sample : s.sample_count < count_limit
  pub karn : s.karn_rejected_count < count_limit
  pub timeout : s.timeout_count < count_limit
  pub backoff : s.backoff_count < count_limit

pub count_below : (s : RtoStats) → counts_full s ≡ false → Below s
unfolding counts_full
count_below s e =
    let a = or_false (count_full s.sample_count) _ e in
    let b = or_false (count_full s.karn_rejected_count) _ a.1 in
    let d = or_false (count_full s.timeout_count) _ b.1 in
    record { sample = leb-false _ _ a.0; karn = leb-false _ _ b.0; timeout = leb-false _ _ d.0; backoff = leb-false _ _ d.1 }

-- ---- held estimates
pub estimates_fit : (s v : ℕ) → estimate_broken (Some s) (Some v) ≡ false → (s ≤ max_estimate) × (v ≤ max_estimate)
estimates_fit s v e = let h = or_false (ltb max_estimate s) (ltb max_estimate v) e in (ltb-false _ _ h.0, ltb-false _ _ h.1)

-- ---- a good state's parts
pub broken_config : (e : RtoEstimator) → state_broken e ≡ false → config_in_bounds e.config ≡ true
unfolding state_broken
broken_config e h = not_is (config_in_bounds e.config) (or_false (not (config_in_bounds e.config)) (estimate_broken e.srtt e.rttvar) h).0

pub broken_estimate : (e : RtoEstimator) → state_broken e ≡ false → estimate_broken e.srtt e.rttvar ≡ false
unfolding state_broken
broken_estimate e h = (or_false (not (config_in_bounds e.config)) (estimate_broken e.srtt e.rttvar) h).1

pub rto_in_time : (e : RtoEstimator) → held_too_long e ≡ false → e.current_rto ≤ max_duration
unfolding held_too_long
rto_in_time e h = ltb-false _ _ (or_false (ltb max_duration e.current_rto) (ltb max_duration e.base_rto || (rtt_too_long e.stats.min_rtt || (rtt_too_long e.stats.max_rtt || rtt_too_long e.stats.latest_rtt))) h).0
