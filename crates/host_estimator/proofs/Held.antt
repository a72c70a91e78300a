-- What is known of words and doubles that hold an estimator; to put it back changes nothing, and what is put into them
-- is what they hold.
use Rattle.std.specs.Prelude.{None, Option, Some, is_some, unwrap_or}
use Rattle.std.specs.Int.{from_bool}
use Prim.Native.Nat.{ℕ, zero, suc, ◌+◌, ◌≤◌}
use mathlib.Core.Path.{◌≡◌, refl, sym, ap, ◌∙◌}
use mathlib.Core.Bool.{Bool, true, false, cond, not}
use mathlib.Core.List.{List, [], ◌∷◌, ◌++◌}
use native.Mathlib.Omega.{arith}
use borrow.Author.Tests.{ltb-false, eqb-true, not-false, le-ltb}
use lib.ListN.{length, get_or, drop}
use lib.Dec.{ltb, eqb}
use lib.Ieee.{Float, nan}
use lib.Seq.{drop-cons, sets, sets-eq}
use Rattle.refusal.specs.Clauses.{any_of}
use Rattle.refusal.proofs.Laws.{none_of}
use Rattle.rto.specs.declared.RtoEstimator.{RtoEstimator}
use Rattle.host_estimator.specs.Words.{estimator_words, estimator_doubles, estimator_word, is_set, time_of, duration_of, duration_broken, estimator_in, numbers_broken, broken_at, durations_broken, held_estimator, first_words, second_words, third_words, words_of, doubles_of, with_words, with_doubles, Readable, Room}

-- ---- durations that may be unset
pub set_or_0 : (m : Option ℕ) → from_bool (is_some m) ≡ is_set m
set_or_0 None = refl
set_or_0 (Some d) = refl

pub time_or_0 : (m : Option ℕ) → unwrap_or m 0 ≡ time_of m
time_or_0 None = refl
time_or_0 (Some d) = refl

duration_words : (set time : ℕ) (b : Bool) → eqb set 1 ≡ b → cond b false (any_of (not (eqb set 0) ∷ not (eqb time 0) ∷ [])) ≡ false
    → (is_set (cond b (Some time) None) ≡ set) × (time_of (cond b (Some time) None) ≡ time)
duration_words set time true e h = (sym (eqb-true set 1 e), refl)
duration_words set time false e h =
    let none = none_of (not (eqb set 0) ∷ not (eqb time 0) ∷ []) h in
    (sym (eqb-true set 0 (not-false _ none.0)), sym (eqb-true time 0 (not-false _ none.1.0)))

pub duration_back : (set time : ℕ) → duration_broken set time ≡ false → (is_set (duration_of set time) ≡ set) × (time_of (duration_of set time) ≡ time)
unfolding duration_of duration_broken
duration_back set time h = duration_words set time (eqb set 1) refl h

pub duration_held : (m : Option ℕ) → duration_of (is_set m) (time_of m) ≡ m
unfolding duration_of
duration_held None = refl
duration_held (Some d) = refl

pub duration_sound : (m : Option ℕ) → duration_broken (is_set m) (time_of m) ≡ false
unfolding duration_broken any_of
duration_sound None = refl
duration_sound (Some d) = refl

-- a flag
pub flag_is : (b : Bool) → from_bool b ≡ cond b 1 0
flag_is true = refl
flag_is false = refl

flag_back : (n : ℕ) → n ≤ 1 → (b : Bool) → eqb n 1 ≡ b → cond b 1 0 ≡ n
flag_back n h true e = sym (eqb-true n 1 e)
flag_back zero h false e = refl
flag_back (suc zero) h false e = let z : ◌≡◌ {A = ℕ} 0 1 = cc in absurd (omega arith)
flag_back (suc (suc n)) h false e = absurd (omega arith)

flag_held : (b : Bool) → eqb (cond b 1 0) 1 ≡ b
flag_held true = refl
flag_held false = refl

flag_low : (b : Bool) → ltb 1 (cond b 1 0) ≡ false
flag_low true = refl
flag_low false = refl

-- ---- words that hold an estimator
pub record Numbers (s : List ℕ) (d : List Float) : Type 0 where
  pub readable : Readable s d
  pub word : get_or s 0 0 ≡ estimator_word
  pub flag : get_or s 11 0 ≤ 1

pub numbers_known : (s : List ℕ) (d : List Float) → numbers_broken s d ≡ false → Numbers s d
unfolding numbers_broken
numbers_known s d e =
    let none = none_of _ e in
    record {
      readable = record {
        words = ltb-false (length s) estimator_words none.0;
        doubles = ltb-false (length d) estimator_doubles none.1.0;
        consecutive = ltb-false 4294967295 (get_or s 12 0) none.1.1.1.1.0;
        max_consecutive = ltb-false 4294967295 (get_or s 23 0) none.1.1.1.1.1.0;
      };
      word = eqb-true (get_or s 0 0) estimator_word (not-false _ none.1.1.0);
      flag = ltb-false 1 (get_or s 11 0) none.1.1.1.0;
    }

pub record Durations (s : List ℕ) : Type 0 where
  pub srtt : broken_at s 5 ≡ false
  pub rttvar : broken_at s 7 ≡ false
  pub min : broken_at s 17 ≡ false
  pub max : broken_at s 19 ≡ false
  pub latest : broken_at s 21 ≡ false

durations_known : (s : List ℕ) → durations_broken s ≡ false → Durations s
unfolding durations_broken
durations_known s e =
    let none = none_of _ e in
    record { srtt = none.0; rttvar = none.1.0; min = none.1.1.0; max = none.1.1.1.0; latest = none.1.1.1.1.0 }

pub record Holds (s : List ℕ) (d : List Float) (x : RtoEstimator) : Type 0 where
  pub numbers : Numbers s d
  pub durations : Durations s
  pub is : estimator_in s d ≡ x

module _ (s : List ℕ) (d : List Float) (x : RtoEstimator) where
  durations_cases : Numbers s d → (b : Bool) → durations_broken s ≡ b → cond b None (Some (estimator_in s d)) ≡ Some x → Holds s d x
  durations_cases n true e p = let z : ◌≡◌ {A = ℕ} 0 1 = cc in absurd (omega arith)
  durations_cases n false e p = let same : estimator_in s d ≡ x = cc in record { numbers = n; durations = durations_known s e; is = same }

  numbers_cases : (b : Bool) → numbers_broken s d ≡ b → cond b None (cond (durations_broken s) None (Some (estimator_in s d))) ≡ Some x → Holds s d x
  numbers_cases true e p = let z : ◌≡◌ {A = ℕ} 0 1 = cc in absurd (omega arith)
  numbers_cases false e p = durations_cases (numbers_known s d e) (durations_broken s) refl p

pub holds : (s : List ℕ) (d : List Float) {x : RtoEstimator} → held_estimator s d ≡ Some x → Holds s d x
unfolding held_estimator
holds s d {x} e = numbers_cases s d x (numbers_broken s d) refl e

pub held_room : (s : List ℕ) (d : List Float) {x : RtoEstimator} → held_estimator s d ≡ Some x → Room s d
held_room s d e = let r = (holds s d e).numbers.readable in record { words = r.words; doubles = r.doubles }

-- ---- put back
-- n elements from index i on, one by one, and the rest
elements : {A : Type 0} → A → ℕ → ℕ → List A → List A
elements a zero i l = drop i l
elements a (suc n) i l = get_or l i a ∷ elements a n (suc i) l

elements_are : {A : Type 0} (a : A) (n i : ℕ) (l : List A) → i + n ≤ length l → elements a n i l ≡ drop i l
unfolding elements
elements_are a zero i l h = refl
elements_are a (suc n) i l h = ap (λ (r : List _). get_or l i a ∷ r) (elements_are a n (suc i) l (omega arith)) ∙ sym (drop-cons l i a (omega arith))

pub words_back : (s : List ℕ) (d : List Float) {x : RtoEstimator} → held_estimator s d ≡ Some x → with_words s x ≡ s
unfolding with_words elements
words_back s d e =
    let h = holds s d e in
    let n = h.numbers in
    let srtt = duration_back (get_or s 5 0) (get_or s 6 0) h.durations.srtt in
    let rttvar = duration_back (get_or s 7 0) (get_or s 8 0) h.durations.rttvar in
    let least = duration_back (get_or s 17 0) (get_or s 18 0) h.durations.min in
    let most = duration_back (get_or s 19 0) (get_or s 20 0) h.durations.max in
    let latest = duration_back (get_or s 21 0) (get_or s 22 0) h.durations.latest in
    rw (← h.is, ← n.word, srtt.0, srtt.1, rttvar.0, rttvar.1, flag_back (get_or s 11 0) n.flag (eqb (get_or s 11 0) 1) refl, least.0, least.1, most.0, most.1, latest.0, latest.1)
    (elements_are 0 24 0 s n.readable.words)

pub doubles_back : (s : List ℕ) (d : List Float) {x : RtoEstimator} → held_estimator s d ≡ Some x → with_doubles d x ≡ d
unfolding with_doubles elements
doubles_back s d e = let h = holds s d e in rw (← h.is) (elements_are nan 5 0 d h.numbers.readable.doubles)

-- ---- put in
pub record Fits (e : RtoEstimator) : Type 0 where
  pub consecutive : e.consecutive_timeouts ≤ 4294967295
  pub max_consecutive : e.stats.max_consecutive_timeouts ≤ 4294967295

pub estimator_held : (s : List ℕ) (d : List Float) (e : RtoEstimator) → Fits e → held_estimator (with_words s e) (with_doubles d e) ≡ Some e
unfolding held_estimator numbers_broken durations_broken any_of with_words with_doubles
estimator_held s d e f =
    let stats = e.stats in
    rw (
      le-ltb (length (words_of e ++ drop estimator_words s)) estimator_words (omega arith),
      le-ltb (length (doubles_of e ++ drop estimator_doubles d)) estimator_doubles (omega arith),
      flag_low e.in_backoff,
      le-ltb 4294967295 e.consecutive_timeouts f.consecutive,
      le-ltb 4294967295 stats.max_consecutive_timeouts f.max_consecutive,
      duration_sound e.srtt,
      duration_sound e.rttvar,
      duration_sound stats.min_rtt,
      duration_sound stats.max_rtt,
      duration_sound stats.latest_rtt,
      duration_held e.srtt,
      duration_held e.rttvar,
      duration_held stats.min_rtt,
      duration_held stats.max_rtt,
      duration_held stats.latest_rtt,
      flag_held e.in_backoff,
    ) refl

-- ---- the stores of a put
pub words_put : (s : List ℕ) (e : RtoEstimator) → estimator_words ≤ length s
    → sets (sets (sets s 0 (first_words e.config e.srtt e.rttvar)) 9 (second_words e)) 17 (third_words e.stats) ≡ with_words s e
unfolding with_words
words_put s e h = sets-eq (words_of e) s 0 h

pub doubles_put : (d : List Float) (e : RtoEstimator) → estimator_doubles ≤ length d → sets d 0 (doubles_of e) ≡ with_doubles d e
unfolding with_doubles
doubles_put d e h = sets-eq (doubles_of e) d 0 h
