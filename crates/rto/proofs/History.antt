-- After any list of calls from a fresh estimator it is what its accepted calls say, in every field (`after_calls_lem`), and the calls that are refused are those
-- that the list says. The oldest call stands first.
use Rattle.std.specs.Prelude.{None, Ok, Option, Some}
use Rattle.std.proofs.Common.{◌≡◌, ℕ, zero, suc, ◌+◌, ◌*◌, ◌^◌, ◌<◌, ◌≤◌, min, max, Bool, true, false, cond, not, ◌||◌, ltb, leb, List, [], ◌∷◌, ◌++◌, length, sym, refl, ap, ◌∙◌, subst, ap₂, true≢false, append-nil, zero-le, le_trans, le_refl, zero-lt-suc, pow-suc, mul-one, le-mul_of_pos_right, arith, length-append, pow_pos, le-ltb, lt-ltb}
use mathlib.Core.List.{foldr, foldl, foldl-append}
use Rattle.bounds.specs.Bounds.{max_duration}
use Rattle.refusal.specs.Counts.{count_full}
use Rattle.refusal.specs.Order.{check, verdict, decide, first_of, numbered, or_else, order}
use Rattle.refusal.specs.declared.Refusal.{Refusal}
use Rattle.refusal.specs.declared.Refusal.TheVariants.{State, Counts, Time}
use Rattle.refusal.proofs.Laws.{on_accepted}
use Rattle.rtt.specs.declared.Estimate.{Estimate}
use Rattle.rto.specs.Rto.{config_in_bounds, state_broken, counts_full, held_too_long, sample_too_long, call_verdict, no_stats, fresh, limited, estimate_for, min_rtt, max_rtt, max_consecutive, sampled, accept_sample, reject_sample, update_rtt_unchecked, timed_out, on_timeout_unchecked, reset_backoff_unchecked, update_result, timeout_result, reset_result, update_rtt, on_timeout, reset_backoff, has_exceeded_retry_limit, mean, mean_rtt_ms_unchecked, mean_rtt_ms}
use Rattle.rto.specs.History.{Call, sample, timeout, reset, step, after_calls, update_refused, timeout_refused, reset_refused, is_refused, samples, count, is_rejection, is_timeout, rejections, timeouts, since, timeouts_since, most_since, min_of, max_of, latest, sum_ms, estimate_after, last_estimate, srtt_of, rttvar_of, base_rto, backed_off, estimator_of, full, too_long, accept, accepted}
use Rattle.rto.specs.declared.RtoConfig.{RtoConfig}
use Rattle.rto.specs.declared.RtoEstimator.{RtoEstimator}
use Rattle.rto.specs.declared.UpdateResult.{UpdateResult}
use Rattle.rto.specs.declared.TimeoutResult.{TimeoutResult}
use Rattle.rto.specs.declared.ResetResult.{ResetResult}
use Rattle.rto.proofs.Checks.{config_of, passes_accepted, sample_in_time}
use Rattle.rto.proofs.Keeps.{Doubles, Good, fresh_good, accept_good, reject_good, backoff_good, reset_good}
use Rattle.refusal.specs.Order.{passed}

-- ---- an accepted call
held_or : (a b : Bool) → a ≡ false → (a || b) ≡ b
held_or a b p = simp p

pub update_accepted : (e : RtoEstimator) (d : ℕ) (again : Bool) → Good e → counts_full e.stats ≡ false → d ≤ max_duration → update_rtt e d again ≡ update_result (update_rtt_unchecked e d again) (Ok (not again))
unfolding update_rtt
update_accepted e d again g n h = on_accepted _ _ (passes_accepted e (sample_too_long e d) (record { state = g.state; counts = n; times = held_or (held_too_long e) (ltb max_duration d) g.times ∙ le-ltb max_duration d h }))

module _ (e : RtoEstimator) (g : Good e) (n : counts_full e.stats ≡ false) where
  pub timeout_accepted : on_timeout e ≡ timeout_result (on_timeout_unchecked e) (Ok (on_timeout_unchecked e).current_rto)
  unfolding on_timeout
  timeout_accepted = on_accepted _ _ (passes_accepted e (held_too_long e) (record { state = g.state; counts = n; times = g.times }))

  pub reset_accepted : reset_backoff e ≡ reset_result (reset_backoff_unchecked e) passed
  unfolding reset_backoff
  reset_accepted = on_accepted _ _ (passes_accepted e (held_too_long e) (record { state = g.state; counts = n; times = g.times }))

-- ---- one sample more
fold_last : (f : ℕ → ℕ → ℕ) → ((x y : ℕ) → f x y ≡ f y x) → ((x y z : ℕ) → f x (f y z) ≡ f (f x y) z) → (a d : ℕ) (ds : List ℕ) → foldr f a (ds ++ (d ∷ [])) ≡ f (foldr f a ds) d
fold_last f comm assoc a d [] = comm d a
fold_last f comm assoc a d (b ∷ ds) = ap (f b) (fold_last f comm assoc a d ds) ∙ assoc b (foldr f a ds) d

min_more : (d : ℕ) (ds : List ℕ) → min_of (ds ++ (d ∷ [])) ≡ min_rtt (min_of ds) d
unfolding min_of
min_more d [] = refl
min_more d (a ∷ ds) = ap Some (fold_last min (λ x y. omega arith) (λ x y z. omega arith) a d ds)

max_more : (d : ℕ) (ds : List ℕ) → max_of (ds ++ (d ∷ [])) ≡ max_rtt (max_of ds) d
unfolding max_of
max_more d [] = refl
max_more d (a ∷ ds) = ap Some (fold_last max (λ x y. omega arith) (λ x y z. omega arith) a d ds)

estimate_more : (c : RtoConfig) (d : ℕ) (ds : List ℕ) → last_estimate c (ds ++ (d ∷ [])) ≡ Some (estimate_after c (last_estimate c ds) d)
unfolding last_estimate
estimate_more c d ds = foldl-append (λ (x : Option Estimate) (d : ℕ). Some (estimate_after c x d)) None ds (d ∷ [])

estimate_for_lem : (c : RtoConfig) (x : Option Estimate) (d : ℕ) → estimate_for c (srtt_of x) (rttvar_of x) d ≡ estimate_after c x d
unfolding estimate_for
estimate_for_lem c None d = refl
estimate_for_lem c (Some x) d = refl

-- ---- one timeout more
-- a count that stops at M
stopped : (n M : ℕ) → min (min n M + 1) M ≡ min (suc n) M
stopped n M = omega arith

most_stopped : (a b M : ℕ) → max (min a M) (min b M) ≡ min (max a b) M
most_stopped a b M = omega arith

-- doubled once more, and within the limits
back_off_more : (c : RtoConfig) (base n : ℕ) → c.min_rto ≤ c.max_rto → limited c (backed_off c base n * 2) ≡ backed_off c base (suc n)
back_off_more c base zero h = ap (λ (x : ℕ). min x c.max_rto) (sym (mul-one (max (base * 2) c.min_rto)))
back_off_more c base (suc n) h = rw (pow-suc 2 n) (once (max (base * 2) c.min_rto) (2 ^ n) c.min_rto c.max_rto h (second (base * 2) c.min_rto) (pow_pos n))
  where
    second : (a b : ℕ) → b ≤ max a b
    second a b = omega arith

    grown : (x p lo hi : ℕ) → lo ≤ hi → lo ≤ x → min (max (min x hi * 2) lo) hi ≡ min (x * 2) hi
    grown x p lo hi h l = omega arith

    once : (x p lo hi : ℕ) → lo ≤ hi → lo ≤ x → 0 < p → min (max (min (x * p) hi * 2) lo) hi ≡ min (x * (p * 2)) hi
    once x p lo hi h l q = grown (x * p) p lo hi h (le_trans l (le-mul_of_pos_right x q)) ∙ ap (λ (y : ℕ). min y hi) (line x p)
      where
        line : (x p : ℕ) → x * p * 2 ≡ x * (p * 2)
        line x p = omega arith

-- ---- the estimator of these tallies
abbrev made : RtoConfig → List ℕ → ℕ → ℕ → ℕ → ℕ → RtoEstimator
made c ds k n m most =
    record {
      config = c;
      srtt = srtt_of (last_estimate c ds);
      rttvar = rttvar_of (last_estimate c ds);
      current_rto = backed_off c (base_rto c (last_estimate c ds)) m;
      base_rto = base_rto c (last_estimate c ds);
      in_backoff = ltb 0 m;
      consecutive_timeouts = min m max_consecutive;
      stats =
          record {
            sample_count = length ds;
            karn_rejected_count = k;
            timeout_count = n;
            backoff_count = n;
            min_rtt = min_of ds;
            max_rtt = max_of ds;
            sum_rtt_millis = sum_ms ds;
            latest_rtt = latest ds;
            max_consecutive_timeouts = min most max_consecutive;
          };
    }

module _ (c : RtoConfig) (ds : List ℕ) (k n m most : ℕ) where
  accept_made : (d : ℕ) → accept_sample (made c ds k n m most) d ≡ made c (ds ++ (d ∷ [])) k n 0 most
  unfolding accept_sample sampled sum_ms latest
  accept_made d = simp (estimate_for_lem, estimate_more, length-append, min_more, max_more, foldl-append)

  timeout_made : c.min_rto ≤ c.max_rto → on_timeout_unchecked (made c ds k n m most) ≡ made c ds k (n + 1) (suc m) (max most (suc m))
  unfolding on_timeout_unchecked timed_out
  timeout_made h = simp (back_off_more c (base_rto c (last_estimate c ds)) m h, stopped, most_stopped, lt-ltb 0 (suc m) (zero-lt-suc m))

-- ---- one call more, of a list
samples_append : (xs ys : List Call) → samples (xs ++ ys) ≡ samples xs ++ samples ys
unfolding samples
samples_append [] ys = refl
samples_append (sample d true ∷ xs) ys = samples_append xs ys
samples_append (sample d false ∷ xs) ys = ap (λ (ds : List ℕ). d ∷ ds) (samples_append xs ys)
samples_append (timeout ∷ xs) ys = samples_append xs ys
samples_append (reset ∷ xs) ys = samples_append xs ys

same_samples : (xs : List Call) (x : Call) → samples (x ∷ []) ≡ [] → samples (xs ++ (x ∷ [])) ≡ samples xs
same_samples xs x h = samples_append xs (x ∷ []) ∙ ap (λ (ds : List ℕ). samples xs ++ ds) h ∙ append-nil (samples xs)

count_more : (p : Call → Bool) (xs : List Call) (x : Call) → count p (xs ++ (x ∷ [])) ≡ cond (p x) (count p xs + 1) (count p xs)
unfolding count
count_more p [] x = refl
count_more p (y ∷ xs) x = go (p y) (p x) (count p (xs ++ (x ∷ []))) (count p xs) (count_more p xs x)
  where
    go : (a b : Bool) (m k : ℕ) → m ≡ cond b (k + 1) k → cond a (suc m) m ≡ cond b (cond a (suc k) k + 1) (cond a (suc k) k)
    go true true m k h = omega arith
    go true false m k h = omega arith
    go false b m k h = h

since_more : (xs : List Call) (x : Call) → timeouts_since (xs ++ (x ∷ [])) ≡ since (timeouts_since xs) x
unfolding timeouts_since
since_more xs x = foldl-append since 0 xs (x ∷ [])

most_more : (n : ℕ) (xs : List Call) (x : Call) → most_since n (xs ++ (x ∷ [])) ≡ max (most_since n xs) (since (foldl since n xs) x)
unfolding most_since
most_more n [] x = refl
most_more n (y ∷ xs) x = ap (max n) (most_more (since n y) xs x) ∙ max_assoc n (most_since (since n y) xs) (since (foldl since (since n y) xs) x)
  where
    max_assoc : (a b d : ℕ) → max a (max b d) ≡ max (max a b) d
    max_assoc a b d = omega arith

reached : (n : ℕ) (xs : List Call) → foldl since n xs ≤ most_since n xs
unfolding most_since
reached n [] = le_refl n
reached n (x ∷ xs) = le_trans (reached (since n x) xs) (second n (most_since (since n x) xs))
  where
    second : (a b : ℕ) → b ≤ max a b
    second a b = omega arith

-- where the count doesn't rise, the most doesn't
same_most : (xs : List Call) (x : Call) → since (timeouts_since xs) x ≤ timeouts_since xs → most_since 0 (xs ++ (x ∷ [])) ≡ most_since 0 xs
unfolding timeouts_since
same_most xs x h = most_more 0 xs x ∙ no_more (most_since 0 xs) (since (foldl since 0 xs) x) (le_trans h (reached 0 xs))
  where
    no_more : (a b : ℕ) → b ≤ a → max a b ≡ a
    no_more a b h = omega arith

module _ (c : RtoConfig) (xs : List Call) where
  accept_more : (d : ℕ) → accept_sample (estimator_of c xs) d ≡ estimator_of c (xs ++ (sample d false ∷ []))
  unfolding estimator_of samples
  accept_more d =
      accept_made c (samples xs) (rejections xs) (timeouts xs) (timeouts_since xs) (most_since 0 xs) d
      ∙ rw (samples_append xs (sample d false ∷ []), count_more is_rejection xs (sample d false), count_more is_timeout xs (sample d false), since_more, same_most xs (sample d false) zero-le)

  reject_more : (d : ℕ) → reject_sample (estimator_of c xs) ≡ estimator_of c (xs ++ (sample d true ∷ []))
  unfolding estimator_of reject_sample samples
  reject_more d = rw (same_samples xs (sample d true) refl, count_more is_rejection xs (sample d true), count_more is_timeout xs (sample d true), since_more, same_most xs (sample d true) (le_refl (timeouts_since xs)))

  timeout_more : c.min_rto ≤ c.max_rto → on_timeout_unchecked (estimator_of c xs) ≡ estimator_of c (xs ++ (timeout ∷ []))
  unfolding estimator_of samples timeouts_since
  timeout_more h =
      timeout_made c (samples xs) (rejections xs) (timeouts xs) (timeouts_since xs) (most_since 0 xs) h
      ∙ rw (same_samples xs timeout refl, count_more is_rejection xs timeout, count_more is_timeout xs timeout, since_more, most_more 0 xs timeout)

  reset_more : reset_backoff_unchecked (estimator_of c xs) ≡ estimator_of c (xs ++ (reset ∷ []))
  unfolding estimator_of reset_backoff_unchecked samples
  reset_more = rw (same_samples xs reset refl, count_more is_rejection xs reset, count_more is_timeout xs reset, since_more, same_most xs reset zero-le)

  full_is : counts_full (estimator_of c xs).stats ≡ full xs
  unfolding counts_full full estimator_of
  full_is = ap₂ (λ (a b : Bool). a || b) {x = count_full (length (samples xs))} refl (ap₂ (λ (a b : Bool). a || b) {x = count_full (rejections xs)} refl (twice (count_full (timeouts xs))))
    where
      twice : (b : Bool) → (b || b) ≡ b
      twice true = refl
      twice false = refl

-- ---- which calls are refused
-- the tests of a call on a state that check 9 lets pass: refused, or the other answer
by_tests : {A : Type 0} (P : A → Bool → Type 0) (s n t : Bool) (f : Refusal → A) (a : A) → s ≡ false → ((r : Refusal) → P (f r) true) → (t ≡ false → P a false) → P (decide (verdict (check s State ∷ check n Counts ∷ check t Time ∷ [])) f a) (n || t)
unfolding decide verdict first_of numbered or_else order
by_tests P true n t f a z h k = absurd (true≢false z)
by_tests P false true t f a z h k = h Counts
by_tests P false false true f a z h k = h Time
by_tests P false false false f a z h k = k refl

module _ (c : RtoConfig) (h : config_in_bounds c ≡ true) (f : Doubles c) where
  -- a call after the accepted calls xs gives e and an answer, of which `refused` says whether it is a refusal: a refused call leaves the estimator as it was
  record After (xs : List Call) (x : Call) (e : RtoEstimator) (refused b : Bool) : Type 0 where
    is : e ≡ estimator_of c (cond b xs (xs ++ (x ∷ [])))
    good : Good e
    answer : refused ≡ b

  same_doubles : (xs : List Call) → Doubles (estimator_of c xs).config
  unfolding estimator_of
  same_doubles xs = f

  module _ (xs : List Call) (g : Good (estimator_of c xs)) where
    kept : (x : Call) → After xs x (estimator_of c xs) true true
    kept x = record { is = refl; good = g; answer = refl }

    tested : {A : Type 0} (P : A → Bool → Type 0) (late b : Bool) (r : Refusal → A) (a : A) → late ≡ b → ((z : Refusal) → P (r z) true) → (late ≡ false → P a false) → P (decide (call_verdict (estimator_of c xs) late) r a) (full xs || b)
    tested P late b r a l p q = rw (← full_is c xs, ← l) (by_tests P (state_broken (estimator_of c xs)) (counts_full (estimator_of c xs).stats) late r a g.state p q)

    after_one : (x : Call) → After xs x (step (estimator_of c xs) x) (is_refused (estimator_of c xs) x) (full xs || too_long x)
    unfolding step is_refused update_rtt on_timeout reset_backoff
    after_one (sample d true) =
        tested (λ (z : UpdateResult) (b : Bool). After xs (sample d true) z.estimator (update_refused z.answer) b) (sample_too_long (estimator_of c xs) d) (ltb max_duration d) _ _ (held_or _ _ g.times) (λ r. kept (sample d true))
        (λ l. record { is = reject_more c xs d; good = reject_good (estimator_of c xs) g; answer = refl })
    after_one (sample d false) =
        tested (λ (z : UpdateResult) (b : Bool). After xs (sample d false) z.estimator (update_refused z.answer) b) (sample_too_long (estimator_of c xs) d) (ltb max_duration d) _ _ (held_or _ _ g.times) (λ r. kept (sample d false))
        (λ l. record { is = accept_more c xs d; good = accept_good (estimator_of c xs) d (same_doubles xs) g (sample_in_time (estimator_of c xs) d l); answer = refl })
    after_one timeout =
        tested (λ (z : TimeoutResult) (b : Bool). After xs timeout z.estimator (timeout_refused z.answer) b) (held_too_long (estimator_of c xs)) false _ _ g.times (λ r. kept timeout)
        (λ l. record { is = timeout_more c xs (config_of c h).ordered; good = backoff_good (estimator_of c xs) g; answer = refl })
    after_one reset =
        tested (λ (z : ResetResult) (b : Bool). After xs reset z.estimator (reset_refused z.answer) b) (held_too_long (estimator_of c xs)) false _ _ g.times (λ r. kept reset) (λ l. record { is = reset_more c xs; good = reset_good (estimator_of c xs) g; answer = refl })

  -- ---- any list of calls
  record Run (xs : List Call) (e : RtoEstimator) : Type 0 where
    is : e ≡ estimator_of c xs
    good : Good (estimator_of c xs)

  run : (xs ys : List Call) → Good (estimator_of c xs) → Run (foldl accept xs ys) (foldl step (estimator_of c xs) ys)
  unfolding accept
  run xs [] g = record { is = refl; good = g }
  run xs (y ∷ ys) g =
      let a = after_one xs g y in
      let r = run (accept xs y) ys (subst (λ (e : RtoEstimator). Good e) a.is a.good) in
      record { is = ap (λ (e : RtoEstimator). foldl step e ys) a.is ∙ r.is; good = r.good }

  fresh_is : fresh c ≡ estimator_of c []
  unfolding fresh no_stats estimator_of samples count timeouts_since most_since min_of max_of latest sum_ms last_estimate
  fresh_is = refl

  module _ (xs : List Call) where
    ran : Run (accepted xs) (after_calls c xs)
    unfolding accepted after_calls
    ran = subst (λ (e : RtoEstimator). Run (foldl accept [] xs) (foldl step e xs)) (sym fresh_is) (run [] xs (subst (λ (e : RtoEstimator). Good e) fresh_is (fresh_good c h)))

    -- every field, from the accepted calls alone
    pub after_calls_lem : after_calls c xs ≡ estimator_of c (accepted xs)
    after_calls_lem = ran.is

    -- the next call meets no 9 and no held time above its bound
    pub after_good : Good (after_calls c xs)
    after_good = rw after_calls_lem ran.good

    -- the calls that are refused are those that the list says
    pub refused_are : (x : Call) → is_refused (after_calls c xs) x ≡ (full (accepted xs) || too_long x)
    refused_are x = rw after_calls_lem (after_one (accepted xs) ran.good x).answer

    -- what the calls that only read answer
    module _ (n : full (accepted xs) ≡ false) where
      passes : call_verdict (estimator_of c (accepted xs)) (held_too_long (estimator_of c (accepted xs))) ≡ passed
      passes = passes_accepted (estimator_of c (accepted xs)) (held_too_long (estimator_of c (accepted xs))) (record { state = ran.good.state; counts = full_is c (accepted xs) ∙ n; times = ran.good.times })

      -- the limit is reached by as many timeouts since the last accepted sample or reset
      pub limit_reached : (most : ℕ) → has_exceeded_retry_limit (after_calls c xs) most ≡ Ok (leb most (min (timeouts_since (accepted xs)) max_consecutive))
      unfolding has_exceeded_retry_limit estimator_of
      limit_reached most = rw after_calls_lem (on_accepted _ _ passes)

      pub mean_is : mean_rtt_ms (after_calls c xs) ≡ Ok (mean (length (samples (accepted xs))) (sum_ms (samples (accepted xs))))
      unfolding mean_rtt_ms mean_rtt_ms_unchecked estimator_of
      mean_is = rw after_calls_lem (on_accepted _ _ passes)
