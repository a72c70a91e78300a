-- `compare` from an order; and a quotient's rounding, with the digits below the unit's half folded into one sticky digit.
use Rattle.std.proofs.Common.{◌≡◌, ℕ, zero, suc, ◌+◌, ◌*◌, ◌/◌, ◌%◌, ◌<◌, ◌≤◌, sym, refl, ap, ◌∙◌, subst, ap₂, le_refl, mul-le-mul_right, mod-lt, mod-eq_of_lt, zero-lt-suc, mul-pos, div-add-mod', arith, lit≤}
use Prim.Native.Nat.{compare, Ordering}
use native.Mathlib.Nat.{div-eq_of_lt}
use lib.Arith.{digits_div, digits_mod, digits_lt}
use lib.Ieee.{nearest}
use lib.Ieee.Nearest.{closest}
use Rattle.float.proofs.Error.{Cmp, cmp}

-- ---- `compare` from an order
pub lt_is : (a b : ℕ) → a < b → compare a b ≡ Ordering.lt
lt_is a b h = go (compare a b) (cmp a b)
  where
    go : (o : Ordering) → Cmp o a b → o ≡ Ordering.lt
    go Ordering.lt c = refl
    go Ordering.eq c = absurd (no a b h c)
      where
        no : (a b : ℕ) → a < b → a ≡ b → ⊥
        no a b h e = omega arith
    go Ordering.gt c = absurd (no a b h c)
      where
        no : (a b : ℕ) → a < b → b < a → ⊥
        no a b h e = omega arith

pub eq_is : (a b : ℕ) → a ≡ b → compare a b ≡ Ordering.eq
eq_is a b h = go (compare a b) (cmp a b)
  where
    go : (o : Ordering) → Cmp o a b → o ≡ Ordering.eq
    go Ordering.lt c = absurd (no a b h c)
      where
        no : (a b : ℕ) → a ≡ b → a < b → ⊥
        no a b h e = omega arith
    go Ordering.eq c = refl
    go Ordering.gt c = absurd (no a b h c)
      where
        no : (a b : ℕ) → a ≡ b → b < a → ⊥
        no a b h e = omega arith

pub gt_is : (a b : ℕ) → b < a → compare a b ≡ Ordering.gt
gt_is a b h = go (compare a b) (cmp a b)
  where
    go : (o : Ordering) → Cmp o a b → o ≡ Ordering.gt
    go Ordering.lt c = absurd (no a b h c)
      where
        no : (a b : ℕ) → b < a → a < b → ⊥
        no a b h e = omega arith
    go Ordering.eq c = absurd (no a b h c)
      where
        no : (a b : ℕ) → b < a → a ≡ b → ⊥
        no a b h e = omega arith
    go Ordering.gt c = refl

pub same_order : (a b c d : ℕ) → (a < b → c < d) → (a ≡ b → c ≡ d) → (b < a → d < c) → compare a b ≡ compare c d
same_order a b c d l e g = go (compare a b) (cmp a b)
  where
    go : (o : Ordering) → Cmp o a b → o ≡ compare c d
    go Ordering.lt h = sym (lt_is c d (l h))
    go Ordering.eq h = sym (eq_is c d (e h))
    go Ordering.gt h = sym (gt_is c d (g h))

-- ---- `closest`, by how twice the remainder compares
pub closest_lt : (a b : ℕ) → a % b * 2 < b → closest a b ≡ a / b
closest_lt a b h = ap (nearest (a / b)) (lt_is (a % b * 2) b h)

pub closest_gt : (a b : ℕ) → b < a % b * 2 → closest a b ≡ suc (a / b)
closest_gt a b h = ap (nearest (a / b)) (gt_is (a % b * 2) b h)

pub closest_eq : (a b : ℕ) → a % b * 2 ≡ b → closest a b ≡ a / b + a / b % 2
closest_eq a b h = ap (nearest (a / b)) (eq_is (a % b * 2) b h)

-- less than a half is 0
pub closest_none : (a b : ℕ) → a * 2 < b → closest a b ≡ 0
closest_none a b h =
    let l : a < b = half a b h in
    closest_lt a b (subst (λ (x : ℕ). x * 2 < b) (sym (mod-eq_of_lt l)) h) ∙ div-eq_of_lt l
  where
    half : (a b : ℕ) → a * 2 < b → a < b
    half a b h = omega arith

-- ---- a sticky digit
abbrev pub sticky : ℕ → ℕ
sticky zero = 0
sticky (suc n) = 1

pub sticky_le : (B : ℕ) → sticky B ≤ 1
sticky_le zero = lit≤ tt
sticky_le (suc B) = le_refl 1

-- r * H + B against K * H goes as r against K, and at a tie by B
orders : (r B H K : ℕ) → B < H → compare ((r * H + B) * 2) (2 * K * H) ≡ compare ((2 * r + sticky B) * 2) (2 * (2 * K))
orders r B H K h = go (compare r K) (cmp r K) B h
  where
    go : (o : Ordering) → Cmp o r K → (B : ℕ) → B < H → compare ((r * H + B) * 2) (2 * K * H) ≡ compare ((2 * r + sticky B) * 2) (2 * (2 * K))
    go Ordering.lt c B h =
        let x : suc r * H ≤ K * H = mul-le-mul_right H c in
        let y : sticky B ≤ 1 = sticky_le B in
        lt_is ((r * H + B) * 2) (2 * K * H) (omega arith) ∙ sym (lt_is ((2 * r + sticky B) * 2) (2 * (2 * K)) (omega arith))
    go Ordering.gt c B h =
        let x : suc K * H ≤ r * H = mul-le-mul_right H c in
        gt_is ((r * H + B) * 2) (2 * K * H) (omega arith) ∙ sym (gt_is ((2 * r + sticky B) * 2) (2 * (2 * K)) (omega arith))
    go Ordering.eq c zero h =
        let x : r * H ≡ K * H = ap (λ (z : ℕ). z * H) c in
        eq_is ((r * H + 0) * 2) (2 * K * H) (omega arith) ∙ sym (eq_is ((2 * r + 0) * 2) (2 * (2 * K)) (omega arith))
    go Ordering.eq c (suc B) h =
        let x : r * H ≡ K * H = ap (λ (z : ℕ). z * H) c in
        gt_is ((r * H + suc B) * 2) (2 * K * H) (omega arith) ∙ sym (gt_is ((2 * r + 1) * 2) (2 * (2 * K)) (omega arith))

-- from the quotient and the remainder
pub closest_of : (q r b : ℕ) → r < b → closest (q * b + r) b ≡ nearest q (compare (r * 2) b)
closest_of q r b h = ap₂ (λ (x y : ℕ). nearest x (compare (y * 2) b)) (digits_div q h) (digits_mod q h)

pub closest_sticky : (A B H K : ℕ) → B < H → 0 < K → closest (A * H + B) (2 * K * H) ≡ closest (2 * A + sticky B) (2 * (2 * K))
closest_sticky A B H K h k =
    let N = 2 * K in
    let q = A / N in
    let r = A % N in
    let l : r < N = mod-lt A (mul-pos (zero-lt-suc 1) k) in
    let e : q * N + r ≡ A = div-add-mod' A N in
    let a : A * H + B ≡ q * (N * H) + (r * H + B) = ap (λ (z : ℕ). z * H + B) (sym e) ∙ regroup q N r H B in
    let b : 2 * A + sticky B ≡ q * (2 * N) + (2 * r + sticky B) = ap (λ (z : ℕ). 2 * z + sticky B) (sym e) ∙ doubled q N r (sticky B) in
    ap (λ (z : ℕ). closest z (N * H)) a
    ∙ closest_of q (r * H + B) (N * H) (digits_lt l h)
    ∙ ap (nearest q) (orders r B H K h)
    ∙ sym (closest_of q (2 * r + sticky B) (2 * N) (room r N (sticky B) l (sticky_le B)))
    ∙ ap (λ (z : ℕ). closest z (2 * N)) (sym b)
  where
    regroup : (q N r H B : ℕ) → (q * N + r) * H + B ≡ q * (N * H) + (r * H + B)
    regroup q N r H B = omega arith

    doubled : (q N r s : ℕ) → 2 * (q * N + r) + s ≡ q * (2 * N) + (2 * r + s)
    doubled q N r s = omega arith

    room : (r N s : ℕ) → r < N → s ≤ 1 → 2 * r + s < 2 * N
    room r N s l h = omega arith
