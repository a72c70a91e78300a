-- The values of the answers survive the packing: a deadline and a count of keys fit in 56 bits; no refusal has values.
use Rattle.std.specs.Prelude.{Err, None, Ok, Option, Result, Some}
use Prim.Native.Nat.{ℕ, zero, suc, ◌+◌, ◌≤◌, ◌<◌}
use mathlib.Core.Path.{◌≡◌, refl, ◌∙◌}
use mathlib.Core.Bool.{Bool, true, false, cond, ◌&&◌}
use mathlib.Core.List.{List, [], ◌∷◌}
use native.Mathlib.Omega.{arith}
use borrow.Author.Tests.{ltb-false, leb-true}
use lib.ListN.{length, get_or, take}
use lib.Dec.{ltb, leb}
use Rattle.bounds.specs.Bounds.{max_time}
use Rattle.octets.specs.Octets.{Below}
use Rattle.refusal.proofs.Laws.{or_false}
use Rattle.multi_timer.specs.MultiTimer as multi
use Rattle.multi_timer.specs.MultiTimer.{used, held_checks, pop_checks, any_late, timers_exit, PopExit, pop_exit, pop_result, pop_expired_at_unchecked, pop_expired_at, earliest_answer, earliest_deadline}
use Rattle.multi_timer.specs.Map.{Entry, entry, entries_of, keys_of, deadlines_of, ascending_from, keep, due, due_keys, min_of, earliest}
use Rattle.multi_timer.proofs.Laws.{keep_ascending, used_ascending, used_times}
use Rattle.multi_timer.specs.declared.MultiTimer.{MultiTimer}
use Rattle.multi_timer.specs.declared.PopResult.{PopResult}
use Rattle.host_answer.specs.Answer.{value_limit, ValuesFit}
use Rattle.host_answer.proofs.Laws.{of_answer, state_fits, time_fits, full_fits}
use Rattle.refusal.specs.declared.Refusal.{Refusal}

-- ---- the earliest deadline
abbrev pub EarliestFits : Result (Option ℕ) Refusal → Type 0
EarliestFits (Ok None) = Unit {0}
EarliestFits (Ok (Some d)) = d < value_limit
EarliestFits (Err r) = ValuesFit r

least : (d : ℕ) (ds : List ℕ) → min_of d ds ≤ d
unfolding min_of
least d [] = omega arith
least d (x ∷ xs) = omega arith

in_time : (ds : List ℕ) → any_late ds ≡ false → EarliestFits (earliest_answer (earliest ds))
unfolding any_late earliest
in_time [] e = tt
in_time (d ∷ ds) e =
    let low = ltb-false max_time d (or_false (ltb max_time d) (any_late ds) e).0 in
    let below = least d ds in
    omega (arith, low, below)

pub earliest_fits : (t : MultiTimer) (ks ds : List ℕ) → EarliestFits (earliest_deadline t ks ds)
unfolding earliest_deadline
earliest_fits t ks ds =
    of_answer EarliestFits (held_checks t ks ds) Err (earliest_answer (earliest (deadlines_of (used t ks ds)))) (state_fits, (time_fits, tt))
    (λ none. in_time (deadlines_of (used t ks ds)) (used_times t ks ds none.0 ∙ none.1.0))

-- ---- how many keys are due: they ascend, and each is of 32 bits
abbrev pub PopFits : Result ℕ Refusal → Type 0
PopFits (Ok n) = n < value_limit
PopFits (Err r) = ValuesFit r

abbrev AllBelow : ℕ → List ℕ → Type 0
AllBelow n [] = Unit {0}
AllBelow n (k ∷ ks) = (k < n) × AllBelow n ks

few : (n low : ℕ) (ks : List ℕ) → AllBelow n ks → ascending_from low ks ≡ true → low ≤ n → low + length ks ≤ n
unfolding ascending_from
few n low [] h e l = omega (arith, l)
few n low (k ∷ ks) h e l = by_test_lem (leb low k) refl e (λ q m. few n (suc k) ks h.1 q m) where
  by_test_lem : (b : Bool) → leb low k ≡ b → (b && ascending_from (suc k) ks) ≡ true → (ascending_from (suc k) ks ≡ true → suc k ≤ n → suc k + length ks ≤ n)
      → low + suc (length ks) ≤ n
  by_test_lem true p q rest =
      let from = leb-true low k p in
      let below = h.0 in
      let more = rest q (omega (arith, below)) in
      omega (arith, from, more)
  by_test_lem false p q rest = let z : ◌≡◌ {A = ℕ} 0 1 = cc in absurd (omega arith)

kept_below : (n : ℕ) (p : Entry → Bool) (ks ds : List ℕ) → ((i : ℕ) → get_or ks i 0 < n) → AllBelow n (keys_of (keep p (entries_of ks ds)))
unfolding entries_of keep keys_of
kept_below n p [] ds h = tt
kept_below n p (k ∷ ks) [] h = tt
kept_below n p (k ∷ ks) (d ∷ ds) h = by_test_lem (p (entry k d)) (kept_below n p ks ds (λ i. h (suc i))) where
  by_test_lem : (b : Bool) → AllBelow n (keys_of (keep p (entries_of ks ds))) → AllBelow n (keys_of (cond b (entry k d ∷ keep p (entries_of ks ds)) (keep p (entries_of ks ds))))
  by_test_lem true rest = (h 0, rest)
  by_test_lem false rest = rest

taken_below : (n m : ℕ) (ks : List ℕ) → 0 < n → ((i : ℕ) → get_or ks i 0 < n) → (i : ℕ) → get_or (take m ks) i 0 < n
taken_below n zero ks pos h i = pos
taken_below n (suc m) [] pos h i = h i
taken_below n (suc m) (k ∷ ks) pos h zero = h 0
taken_below n (suc m) (k ∷ ks) pos h (suc i) = taken_below n m ks pos (λ j. h (suc j)) i

pub pop_fits : (t : MultiTimer) (ks ds : List ℕ) (now : ℕ) (out : List ℕ) → Below 4294967296 ks → PopFits (pop_expired_at t ks ds now out).rest.answer.answer
unfolding pop_expired_at
pop_fits t ks ds now out low =
    of_answer (λ (x : PopExit PopResult). PopFits x.rest.answer.answer) (pop_checks t ks ds now (length out)) (λ r. pop_exit (timers_exit (pop_result t (Err r)) ks ds) out)
    (multi.popped (length (due_keys now (used t ks ds))) (pop_expired_at_unchecked t ks ds now out)) (state_fits, (time_fits, (full_fits, tt)))
    (λ none.
    let below = kept_below 4294967296 (due now) (take t.count ks) (take t.count ds) (taken_below 4294967296 t.count ks (omega arith) (λ i. low.at i)) in
    let count = few 4294967296 0 (due_keys now (used t ks ds)) below (keep_ascending (due now) 0 (used t ks ds) (used_ascending t ks ds none.0)) (omega arith) in
    omega (arith, count))
