-- How far `round` moves a fraction: at most one part in 2 ^ prec of it, or half of the format's smallest value.
use Rattle.std.proofs.Common.{◌≡◌, ℕ, suc, ◌+◌, ◌-◌, ◌*◌, ◌/◌, ◌%◌, ◌^◌, ◌<◌, ◌≤◌, not, T, eqb, ◌⊎◌, sym, refl, ap, ◌∙◌, subst, inl, inr, le_trans, le_of_eq, mul-le-mul_right, mod-lt, mul_assoc, mul_comm, eq-zero-or-pos, mul-pos, div-add-mod', le-div_iff_mul-le, arith, eqb→eq, leb→le, pow_pos, pow-add}
use Prim.Native.Nat.{compare, Ordering}
use native.Mathlib.Nat.{pow-succ'}
use lib.Dec.{is_le, compare_is_eq, nleb→lt, eqb_refl}
use lib.Arith.{lt_of_le-ne}
use lib.Ieee.{Format, prec, low, size, nearest}
use lib.Ieee.Digits.{size_reaches}
use lib.Ieee.Fits.{two, two-le_pos}
use lib.Ieee.Nearest.{closest}
use lib.Ieee.Order.{drop, kept}
use lib.Ieee.Scale.{grid}

-- ---- what `compare` says
abbrev pub Cmp : Ordering → ℕ → ℕ → Type 0
Cmp Ordering.lt a b = a < b
Cmp Ordering.eq a b = a ≡ b
Cmp Ordering.gt a b = b < a

pub cmp : (a b : ℕ) → Cmp (compare a b) a b
cmp a b = go (compare a b) (leb→le a b) (nleb→lt a b) (eqb→eq a b) (λ (e : a ≡ b). subst (λ (x : ℕ). T (eqb a x)) e (eqb_refl a))
  where
    go : (o : Ordering) → (T (is_le o) → a ≤ b) → (T (not (is_le o)) → b < a) → (T (compare_is_eq o) → a ≡ b) → (a ≡ b → T (compare_is_eq o)) → Cmp o a b
    go Ordering.lt h k e n = lt_of_le-ne (h tt) n
    go Ordering.eq h k e n = e tt
    go Ordering.gt h k e n = k tt

-- ---- the nearest whole number is at most a half away
near_up : (q r b : ℕ) (o : Ordering) → Cmp o (r * 2) b → nearest q o * b * 2 ≤ (q * b + r) * 2 + b
near_up q r b Ordering.lt h = omega arith
near_up q r b Ordering.eq h =
    let x : (q + q % 2) * b ≤ suc q * b = mul-le-mul_right b (tie q) in omega arith
  where
    tie : (w : ℕ) → w + w % 2 ≤ suc w
    tie w = omega arith
near_up q r b Ordering.gt h = omega arith

near_down : (q r b : ℕ) (o : Ordering) → r < b → Cmp o (r * 2) b → (q * b + r) * 2 ≤ nearest q o * b * 2 + b
near_down q r b Ordering.lt l h = omega arith
near_down q r b Ordering.eq l h =
    let x : q * b ≤ (q + q % 2) * b = mul-le-mul_right b (tie q) in omega arith
  where
    tie : (w : ℕ) → w ≤ w + w % 2
    tie w = omega arith
near_down q r b Ordering.gt l h = omega arith

pub closest_up : (a b : ℕ) → closest a b * b * 2 ≤ a * 2 + b
closest_up a b = subst (λ (x : ℕ). closest a b * b * 2 ≤ x * 2 + b) (div-add-mod' a b) (near_up (a / b) (a % b) b (compare (a % b * 2) b) (cmp (a % b * 2) b))

pub closest_down : (a b : ℕ) → 0 < b → a * 2 ≤ closest a b * b * 2 + b
closest_down a b B = subst (λ (x : ℕ). x * 2 ≤ closest a b * b * 2 + b) (div-add-mod' a b) (near_down (a / b) (a % b) b (compare (a % b * 2) b) (mod-lt a B) (cmp (a % b * 2) b))

-- ---- the step between two neighbours: at most 2 ^ (1 - prec) of the fraction, or 1
in_use : (z p : ℕ) → 0 < p → 0 < z - p → p - 1 + (z - p) < z
in_use z p P h = omega arith

step : (p n c : ℕ) → 0 < p → 0 < c → c * 2 ^ drop p n c * 2 ^ (p - 1) ≤ n + c * 2 ^ (p - 1)
step p n c P C = go (drop p n c) refl (eq-zero-or-pos (drop p n c))
  where
    go : (k : ℕ) → k ≡ drop p n c → (drop p n c ≡ 0) ⊎ (0 < drop p n c) → c * 2 ^ drop p n c * 2 ^ (p - 1) ≤ n + c * 2 ^ (p - 1)
    go k e (inl z) = subst (λ (x : ℕ). c * 2 ^ x * 2 ^ (p - 1) ≤ n + c * 2 ^ (p - 1)) (sym z) (flat c (2 ^ (p - 1)))
      where
        flat : (c h : ℕ) → c * 1 * h ≤ n + c * h
        flat c h = omega arith
    go k e (inr l) =
        let a : 2 ^ (p - 1 + drop p n c) * c ≤ n = (le-div_iff_mul-le C).0 (size_reaches (n / c) (p - 1 + drop p n c) (in_use (size (n / c)) p P l)) in
        le_trans (le_of_eq (mul_assoc c (2 ^ drop p n c) (2 ^ (p - 1)) ∙ mul_comm c (2 ^ drop p n c * 2 ^ (p - 1)) ∙ ap (λ (x : ℕ). x * c) (mul_comm (2 ^ drop p n c) (2 ^ (p - 1)) ∙ sym (pow-add 2 (p - 1) (drop p n c)))))
        (le_trans a (more n (c * 2 ^ (p - 1))))
      where
        more : (x y : ℕ) → x ≤ x + y
        more x y = omega arith

-- ---- what `round` gives, in units of the format's smallest value, against the fraction in those units, n / c
twice : (p : ℕ) → 0 < p → 2 ^ p ≡ 2 * 2 ^ (p - 1)
twice p P = ap (λ (x : ℕ). 2 ^ x) (back p P) ∙ pow-succ' 2 (p - 1)
  where
    back : (z : ℕ) → 0 < z → z ≡ suc (z - 1)
    back z h = omega arith

-- q is what is kept, t = 2 ^ k the step, h = 2 ^ (p - 1)
up_from : (q t c n h : ℕ) → q * (c * t) * 2 ≤ n * 2 + c * t → c * t * h ≤ n + c * h → q * t * c * (2 * h) ≤ n * (2 * h + 1) + c * h
up_from q t c n h a b = let x : q * (c * t) * 2 * h ≤ (n * 2 + c * t) * h = mul-le-mul_right h a in omega arith

down_from : (q t c n h : ℕ) → n * 2 ≤ q * (c * t) * 2 + c * t → c * t * h ≤ n + c * h → n * (2 * h) ≤ q * t * c * (2 * h) + n + c * h
down_from q t c n h a b = let x : n * 2 * h ≤ (q * (c * t) * 2 + c * t) * h = mul-le-mul_right h a in omega arith

-- the rounded value is at most (1 + 2 ^ -prec) times the fraction and half a unit
pub grid_up : (f : Format) (a c : ℕ) → 0 < c → grid f a c * c * (2 ^ prec f) ≤ a * 2 ^ low f * (2 ^ prec f + 1) + c * 2 ^ (prec f - 1)
grid_up f a c C =
    let p = prec f in
    let P : 0 < p = two-le_pos p (two f) in
    let n = a * 2 ^ low f in
    let k = drop p n c in
    subst (λ (x : ℕ). grid f a c * c * x ≤ n * (x + 1) + c * 2 ^ (p - 1)) (sym (twice p P))
    (up_from (kept p n c) (2 ^ k) c n (2 ^ (p - 1)) (closest_up n (c * 2 ^ k)) (step p n c P C))

-- and at least (1 - 2 ^ -prec) times the fraction less half a unit
pub grid_down : (f : Format) (a c : ℕ) → 0 < c → a * 2 ^ low f * 2 ^ prec f ≤ grid f a c * c * 2 ^ prec f + a * 2 ^ low f + c * 2 ^ (prec f - 1)
grid_down f a c C =
    let p = prec f in
    let P : 0 < p = two-le_pos p (two f) in
    let n = a * 2 ^ low f in
    let k = drop p n c in
    subst (λ (x : ℕ). n * x ≤ grid f a c * c * x + n + c * 2 ^ (p - 1)) (sym (twice p P))
    (down_from (kept p n c) (2 ^ k) c n (2 ^ (p - 1)) (closest_down n (c * 2 ^ k) (mul-pos C (pow_pos k))) (step p n c P C))
