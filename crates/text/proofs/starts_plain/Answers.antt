use Prim.Native.Nat.{ℕ, suc, ◌+◌, ◌≤◌, ◌<◌}
use mathlib.Core.Path.{◌≡◌, refl, sym, ap, ◌∙◌}
use native.Mathlib.Omega.{arith}
use mathlib.Core.Bool.{Bool, true, false, not}
use mathlib.Core.List.{List, [], ◌∷◌}
use Rattle.text.specs.Reading.{digit_run}
use Rattle.text.proofs.Runs.{run_digit, run_other}
use lib.ListN.{length, drop, get_or, drop_of_length-le}
use lib.Seq.{drop-cons}
use Rattle.text.specs.Decimal.{is_digit, is_plain}
use borrow.Author.Tests.{eq-eqb, ne_eqb}
use native.Mathlib.Numerals.{add-one}
use Rattle.text.specs.Letters.{digit_zero}
use Rattle.text.proofs.starts_plain.Goals as goal

module _ (s : List ℕ) (at : ℕ) where
  none : length s ≤ at → false ≡ is_plain (digit_run (drop at s))
  unfolding is_plain digit_run
  none h = rw (drop_of_length-le s h)

  module _ (h : at < length s) where
    other : is_digit (get_or s at 0) ≡ false → false ≡ is_plain (digit_run (drop at s))
    unfolding is_plain
    other e = rw (drop-cons s at 0 h, run_other (get_or s at 0) (drop (suc at) s) e)

    module _ (e : is_digit (get_or s at 0) ≡ true) where
      run : digit_run (drop at s) ≡ get_or s at 0 ∷ digit_run (drop (suc at) s)
      run = rw (drop-cons s at 0 h) (run_digit (get_or s at 0) (drop (suc at) s) e)

      not_zero : (b : ℕ) (r : List ℕ) → (b ≡ digit_zero → ⊥) → true ≡ is_plain (b ∷ r)
      unfolding is_plain
      not_zero b [] n = refl
      not_zero b (x ∷ r) n = ap not (sym (ne_eqb b digit_zero n))

      plain : (get_or s at 0 ≡ digit_zero → ⊥) → true ≡ is_plain (digit_run (drop at s))
      plain n = rw run (not_zero (get_or s at 0) (digit_run (drop (suc at) s)) n)

      last : length s ≤ at + 1 → true ≡ is_plain (digit_run (drop at s))
      unfolding is_plain digit_run
      last l = rw (run, drop_of_length-le s {i = suc at} (omega arith))

      zero-then : (t : Bool) → at + 1 < length s → get_or s at 0 ≡ digit_zero → is_digit (get_or s (at + 1) 0) ≡ t → not t ≡ is_plain (digit_run (drop at s))
      unfolding is_plain
      zero-then true l z d =
          rw (run, ← add-one at, drop-cons s (at + 1) 0 l, run_digit (get_or s (at + 1) 0) (drop (suc (at + 1)) s) d) (ap not (sym (eq-eqb (get_or s at 0) digit_zero z)))
      zero-then false l z d =
          rw (run, ← add-one at, drop-cons s (at + 1) 0 l, run_other (get_or s (at + 1) 0) (drop (suc (at + 1)) s) d)

pub returns-then-s-at : goal.returns-then-s-at
returns-then-s-at c = let a = c.args in none a.s.now a.at (omega arith)

pub returns-then-not-is_digit : goal.returns-then-not-is_digit
returns-then-not-is_digit c = let a = c.args in
    other a.s.now a.at (omega arith) (sym c.is_digit.ensures ∙ c.if-not-is_digit.true)

pub returns-then-a-ne48 : goal.returns-then-a-ne48
returns-then-a-ne48 c = let a = c.args in
    plain a.s.now a.at (omega arith) (sym c.is_digit.ensures ∙ c.if-not-is_digit.false) c.if-a-ne48.true

pub returns-then-s-next : goal.returns-then-s-next
returns-then-s-next c = let a = c.args in
    last a.s.now a.at (omega arith) (sym c.is_digit.ensures ∙ c.if-not-is_digit.false) (omega arith)

pub returns : goal.returns
returns c = let a = c.args in
    zero-then a.s.now a.at (omega arith) (sym c.is_digit.ensures ∙ c.if-not-is_digit.false) c.is_digit-2.result (omega arith) (omega arith) (sym c.is_digit-2.ensures)
