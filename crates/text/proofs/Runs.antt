-- Runs of digits, and the loop that reads one.
use Rattle.std.specs.Prelude.{None, Option, Some}
use Prim.Native.Nat.{ℕ, ◌+◌, ◌-◌, ◌*◌, ◌/◌, ◌^◌, ◌≤◌, ◌<◌}
use mathlib.Core.Path.{◌≡◌, refl, ap, ◌∙◌}
use mathlib.Core.Bool.{Bool, true, false, cond}
use mathlib.Core.List.{List, [], ◌∷◌, ◌++◌}
use native.Mathlib.Omega.{arith}
use native.Mathlib.Nat.{pow-suc, mul-le-mul_left, one-le-pow, div-lt_iff_lt-mul, le-div_iff_mul-le}
use native.Mathlib.Numerals.{add-one}
use lib.ListN.{length, drop, get_or, drop_of_length-le}
use lib.Seq.{drop-cons}
use lib.Dec.{leb}
use borrow.Author.Tests.{leb-true, leb-false, le-leb, lt-leb}
use Rattle.text.specs.Decimal.{is_digit, all_digits, value}
use Rattle.text.specs.Reading.{digit_run, capped_reading}
use Rattle.text.proofs.Digits.{all_cons}
use Rattle.text.specs.Letters.{digit_zero}

pub run_digit : (b : ℕ) (bs : List ℕ) → is_digit b ≡ true → digit_run (b ∷ bs) ≡ b ∷ digit_run bs
unfolding digit_run
run_digit b bs e = simp e

pub run_other : (b : ℕ) (bs : List ℕ) → is_digit b ≡ false → digit_run (b ∷ bs) ≡ []
unfolding digit_run
run_other b bs e = simp e

pub run_none : digit_run [] ≡ []
unfolding digit_run
run_none = refl

-- the run of digits before what starts with none
pub run_append : (xs rest : List ℕ) → all_digits xs ≡ true → digit_run rest ≡ [] → digit_run (xs ++ rest) ≡ xs
run_append [] rest p q = q
run_append (x ∷ xs) rest p q =
    let h = all_cons x xs p in
    run_digit x (xs ++ rest) h.0 ∙ ap (λ (r : List ℕ). x ∷ r) (run_append xs rest h.1 q)

-- what stands before and after the end of a run
pub record RunSplit (xs : List ℕ) : Type 0 where
  pub letters : all_digits (digit_run xs) ≡ true
  pub joined : digit_run xs ++ drop (length (digit_run xs)) xs ≡ xs
  pub stops : digit_run (drop (length (digit_run xs)) xs) ≡ []

run_split_step : (x : ℕ) (xs : List ℕ) → RunSplit xs → (t : Bool) → is_digit x ≡ t → RunSplit (x ∷ xs)
unfolding all_digits
run_split_step x xs h true e =
    let r = run_digit x xs e in
    record {
      letters = rw (r, e) h.letters;
      joined = rw r (ap (λ (l : List ℕ). x ∷ l) h.joined);
      stops = rw r h.stops;
    }
run_split_step x xs h false e =
    let r = run_other x xs e in
    record { letters = rw r; joined = rw r; stops = ap (λ (l : List ℕ). digit_run (drop (length l) (x ∷ xs))) r ∙ r }

pub run_split : (xs : List ℕ) → RunSplit xs
unfolding all_digits digit_run
run_split [] = record { letters = refl; joined = refl; stops = refl }
run_split (x ∷ xs) = run_split_step x xs (run_split xs) (is_digit x) refl

-- what is left of a run to read, with the sum so far
unfoldable pub run_from : ℕ → ℕ → ℕ → List ℕ → Option (ℕ × ℕ)
run_from max sum i [] = Some (sum, i)
run_from max sum i (b ∷ bs) =
    cond (is_digit b)
    (cond (leb (sum * 10 + (b - digit_zero)) max) (run_from max (sum * 10 + (b - digit_zero)) (i + 1) bs) None)
    (Some (sum, i))

-- a sum and a run of digits after it
unfoldable total : ℕ → List ℕ → ℕ
total sum run = sum * 10 ^ length run + value run

unfoldable capped : ℕ → ℕ → ℕ → Option (ℕ × ℕ)
capped max v next = cond (leb v max) (Some (v, next)) None

total_none : (sum : ℕ) → total sum [] ≡ sum
unfolding total value
total_none sum = omega arith

total_step : (sum b : ℕ) (run : List ℕ) → total sum (b ∷ run) ≡ total (sum * 10 + (b - digit_zero)) run
unfolding total value
total_step sum b run = rw (pow-suc 10 (length run)) (go sum (b - digit_zero) (10 ^ length run) (value run))
  where
    go : (s d p v : ℕ) → s * (p * 10) + (d * p + v) ≡ (s * 10 + d) * p + v
    go s d p v = omega arith

total_least : (sum : ℕ) (run : List ℕ) → sum ≤ total sum run
unfolding total
total_least sum run = go sum (10 ^ length run) (value run) (one-le-pow (length run) 10 (omega arith))
  where
    go : (s p v : ℕ) → 1 ≤ p → s ≤ s * p + v
    go s p v h = omega (arith, mul-le-mul_left s h)

run_from_digit : (max sum i b : ℕ) (bs : List ℕ)
    → (sum * 10 + (b - digit_zero) ≤ max → run_from max (sum * 10 + (b - digit_zero)) (i + 1) bs ≡ capped max (total (sum * 10 + (b - digit_zero)) (digit_run bs)) (i + 1 + length (digit_run bs)))
    → (t : Bool) → leb (sum * 10 + (b - digit_zero)) max ≡ t
    → cond (leb (sum * 10 + (b - digit_zero)) max) (run_from max (sum * 10 + (b - digit_zero)) (i + 1) bs) None
    ≡ capped max (total (sum * 10 + (b - digit_zero)) (digit_run bs)) (i + 1 + length (digit_run bs))
unfolding capped
run_from_digit max sum i b bs f true e = simp e (f (leb-true (sum * 10 + (b - digit_zero)) max e))
run_from_digit max sum i b bs f false e =
    let l = leb-false (sum * 10 + (b - digit_zero)) max e in
    let m = total_least (sum * 10 + (b - digit_zero)) (digit_run bs) in
    simp (e, lt-leb (total (sum * 10 + (b - digit_zero)) (digit_run bs)) max (omega arith))

run_from_step : (max sum i b : ℕ) (bs : List ℕ) → sum ≤ max
    → (sum * 10 + (b - digit_zero) ≤ max → run_from max (sum * 10 + (b - digit_zero)) (i + 1) bs ≡ capped max (total (sum * 10 + (b - digit_zero)) (digit_run bs)) (i + 1 + length (digit_run bs)))
    → (t : Bool) → is_digit b ≡ t → run_from max sum i (b ∷ bs) ≡ capped max (total sum (digit_run (b ∷ bs))) (i + length (digit_run (b ∷ bs)))
unfolding run_from capped
run_from_step max sum i b bs h f true e =
    rw (run_digit b bs e, e, total_step sum b (digit_run bs))
    (run_from_digit max sum i b bs f (leb (sum * 10 + (b - digit_zero)) max) refl ∙ ap (capped max (total (sum * 10 + (b - digit_zero)) (digit_run bs))) (omega arith))
run_from_step max sum i b bs h f false e = rw (run_other b bs e, e, total_none sum, le-leb sum max h) (ap ((λ x. Some (sum, x))) (omega arith))

run_from_lem : (max sum i : ℕ) (xs : List ℕ) → sum ≤ max → run_from max sum i xs ≡ capped max (total sum (digit_run xs)) (i + length (digit_run xs))
unfolding run_from capped digit_run
run_from_lem max sum i [] h = rw (total_none sum, le-leb sum max h) (ap ((λ x. Some (sum, x))) (omega arith))
run_from_lem max sum i (b ∷ bs) h = run_from_step max sum i b bs h (run_from_lem max (sum * 10 + (b - digit_zero)) (i + 1) bs) (is_digit b) refl

total_zero : (run : List ℕ) → total 0 run ≡ value run
unfolding total
total_zero run = omega arith

-- read from its start, a run is read whole
pub run_from_start : (max at : ℕ) (xs : List ℕ) → run_from max 0 at xs ≡ capped_reading max (digit_run xs) at
unfolding capped capped_reading
run_from_start max at xs =
    run_from_lem max 0 at xs (omega arith) ∙ ap (λ (v : ℕ). capped max v (at + length (digit_run xs))) (total_zero (digit_run xs))

-- the steps of the loop, at a place of a text
pub from_end : (s : List ℕ) (max sum i : ℕ) → length s ≤ i → run_from max sum i (drop i s) ≡ Some (sum, i)
unfolding run_from
from_end s max sum i h = rw (drop_of_length-le s h)

module _ (s : List ℕ) (max sum i : ℕ) (h : i < length s) where
  pub from_other : is_digit (get_or s i 0) ≡ false → run_from max sum i (drop i s) ≡ Some (sum, i)
  unfolding run_from
  from_other e = rw (drop-cons s i 0 h, e)

  pub from_large : is_digit (get_or s i 0) ≡ true → max < sum * 10 + (get_or s i 0 - digit_zero) → run_from max sum i (drop i s) ≡ None
  unfolding run_from
  from_large e l = rw (drop-cons s i 0 h, e, lt-leb (sum * 10 + (get_or s i 0 - digit_zero)) max l)

  pub from_next : is_digit (get_or s i 0) ≡ true → sum * 10 + (get_or s i 0 - digit_zero) ≤ max
      → run_from max sum i (drop i s) ≡ run_from max (sum * 10 + (get_or s i 0 - digit_zero)) (i + 1) (drop (i + 1) s)
  unfolding run_from
  from_next e l = rw (drop-cons s i 0 h, e, le-leb (sum * 10 + (get_or s i 0 - digit_zero)) max l, add-one)

-- a tenth of max tells whether ten times a number is too large
pub tenth_small : (max sum : ℕ) → max / 10 < sum → max < sum * 10
tenth_small max sum h = (div-lt_iff_lt-mul {k = 10} {x = max} {y = sum} (omega arith)).0 h

pub tenth_large : (max sum : ℕ) → sum ≤ max / 10 → sum * 10 ≤ max
tenth_large max sum h = (le-div_iff_mul-le {k = 10} {x = sum} {y = max} (omega arith)).0 h
