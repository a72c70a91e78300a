-- One number has one text in plain decimal.
use Prim.Native.Nat.{ℕ, suc, ◌+◌, ◌-◌, ◌*◌, ◌^◌, ◌≤◌, ◌<◌}
use mathlib.Core.Path.{◌≡◌, refl, sym, ap, ◌∙◌}
use mathlib.Core.Bool.{Bool, true, false}
use mathlib.Core.List.{List, [], ◌∷◌}
use native.Mathlib.Omega.{arith}
use native.Mathlib.Nat.{pow-suc, mul-le-mul_right, pow-le-pow_right}
use lib.ListN.{length}
use lib.Dec.{leb, eqb}
use borrow.Author.Tests.{leb-true, leb-false, eqb-false, not-true}
use Rattle.text.specs.Decimal.{all_digits, value, is_plain, Decimal, digits}
use Rattle.text.proofs.Digits.{digit_bounds, all_cons, digits_decimal}
use Rattle.text.specs.Letters.{digit_zero}

below_step : (a p v : ℕ) → a ≤ 9 → v < p → a * p + v < p * 10
below_step a p v h l = omega (arith, mul-le-mul_right p h)

pub value_below : (xs : List ℕ) → all_digits xs ≡ true → value xs < 10 ^ length xs
unfolding value
value_below [] e = omega arith
value_below (x ∷ xs) e =
    let h = all_cons x xs e in
    let b = digit_bounds x h.0 in
    rw (pow-suc 10 (length xs)) (below_step (x - digit_zero) (10 ^ length xs) (value xs) (omega arith) (value_below xs h.1))

min_step : (a p v : ℕ) → 1 ≤ a → p ≤ a * p + v
min_step a p v h = omega (arith, mul-le-mul_right p h)

-- a plain number of two digits or more has at least its first power of ten
pub value_min : (x y : ℕ) (xs : List ℕ) → all_digits (x ∷ (y ∷ xs)) ≡ true → is_plain (x ∷ (y ∷ xs)) ≡ true
    → 10 ^ length (y ∷ xs) ≤ value (x ∷ (y ∷ xs))
unfolding value is_plain
value_min x y xs e p =
    let b = digit_bounds x (all_cons x (y ∷ xs) e).0 in
    let n = eqb-false x digit_zero (not-true (eqb x digit_zero) p) in
    min_step (x - digit_zero) (10 ^ length (y ∷ xs)) (value (y ∷ xs)) (above x b.0 n)
  where
    above : (x : ℕ) → digit_zero ≤ x → (x ≡ digit_zero → ⊥) → 1 ≤ x - digit_zero
    above x h n = omega arith

-- a leading digit and what follows it are determined
first_same : (a b p u v : ℕ) → u < p → v < p → a * p + u ≡ b * p + v → a ≤ b
first_same a b p u v h k e = go (leb a b) refl
  where
    go : (t : Bool) → leb a b ≡ t → a ≤ b
    go true q = leb-true a b q
    go false q = let l = leb-false a b q in omega (arith, mul-le-mul_right p l)

same_digits : (xs ys : List ℕ) → all_digits xs ≡ true → all_digits ys ≡ true → length xs ≡ length ys → value xs ≡ value ys → xs ≡ ys
unfolding value
same_digits [] [] p q l e = refl
same_digits [] (y ∷ ys) p q l e = absurd (none (length ys) l)
  where
    none : (n : ℕ) → 0 ≡ suc n → ⊥
    none n h = omega arith
same_digits (x ∷ xs) [] p q l e = absurd (none (length xs) l)
  where
    none : (n : ℕ) → suc n ≡ 0 → ⊥
    none n h = omega arith
same_digits (x ∷ xs) (y ∷ ys) p q l e =
    let m : length xs ≡ length ys = omega arith in
    let hx = all_cons x xs p in
    let hy = all_cons y ys q in
    let bx = digit_bounds x hx.0 in
    let by = digit_bounds y hy.0 in
    let vx = value_below xs hx.1 in
    let vy : value ys < 10 ^ length xs = rw m (value_below ys hy.1) in
    let e' : (x - digit_zero) * 10 ^ length xs + value xs ≡ (y - digit_zero) * 10 ^ length xs + value ys = e ∙ rw m in
    let le = first_same (x - digit_zero) (y - digit_zero) (10 ^ length xs) (value xs) (value ys) vx vy e' in
    let ge = first_same (y - digit_zero) (x - digit_zero) (10 ^ length xs) (value ys) (value xs) vy vx (sym e') in
    let xy : x ≡ y = omega arith in
    let r : value xs ≡ value ys = rest (x - digit_zero) (y - digit_zero) (10 ^ length xs) (value xs) (value ys) (omega arith) e' in
    rw (xy, same_digits xs ys hx.1 hy.1 m r)
  where
    rest : (a b p u v : ℕ) → a ≡ b → a * p + u ≡ b * p + v → u ≡ v
    rest a b p u v d f = let g : a * p ≡ b * p = rw d in omega arith

-- a text with more digits than another is worth more
longer : (xs ys : List ℕ) → all_digits xs ≡ true → all_digits ys ≡ true → is_plain xs ≡ true → is_plain ys ≡ true
    → length ys < length xs → value ys < value xs
unfolding is_plain
longer [] ys p q a b l = absurd (none (length ys) l)
  where
    none : (n : ℕ) → n < 0 → ⊥
    none n h = omega arith
longer (x ∷ []) [] p q a b l = absurd (none b)
  where
    none : false ≡ true → ⊥
    none e = let z : ◌≡◌ {A = ℕ} 0 1 = cc in omega arith
longer (x ∷ []) (y ∷ ys) p q a b l = absurd (none (length ys) l)
  where
    none : (n : ℕ) → suc n < 1 → ⊥
    none n h = omega arith
longer (x ∷ (z ∷ xs)) ys p q a b l =
    let u = value_below ys q in
    let v = value_min x z xs p a in
    let w = pow-le-pow_right {n = 10} (omega arith) {i = length ys} {j = length (z ∷ xs)} (omega arith) in omega arith

as_long : (n : ℕ) (xs ys : List ℕ) → Decimal n xs → Decimal n ys → length xs ≤ length ys
as_long n xs ys p q = go (leb (length xs) (length ys)) refl
  where
    go : (t : Bool) → leb (length xs) (length ys) ≡ t → length xs ≤ length ys
    go true e = leb-true (length xs) (length ys) e
    go false e =
        let l = longer xs ys p.letters q.letters p.plain q.plain (leb-false (length xs) (length ys) e) in
        let a = p.worth in
        let b = q.worth in omega arith

pub decimal_unique : (n : ℕ) (xs ys : List ℕ) → Decimal n xs → Decimal n ys → xs ≡ ys
decimal_unique n xs ys p q =
    let a = as_long n xs ys p q in
    let b = as_long n ys xs q p in
    same_digits xs ys p.letters q.letters (omega arith) (p.worth ∙ sym q.worth)

-- a text that is n in plain decimal is the digits of n
pub decimal_digits : (n : ℕ) (xs : List ℕ) → Decimal n xs → xs ≡ digits n
decimal_digits n xs p = decimal_unique n xs (digits n) p (digits_decimal n)

pub digits_injective : (m n : ℕ) → digits m ≡ digits n → m ≡ n
digits_injective m n e = sym (digits_decimal m).worth ∙ ap value e ∙ (digits_decimal n).worth
