-- Binary64 in units of its smallest value, 2 ^ -1074: a float that is not negative is a natural number of units, and an operation's result is the exact number of units,
-- a fraction n / d, to one part in 2 ^ 53 and half a unit (`Rounded`).
use Rattle.std.proofs.Common.{◌≡◌, ℕ, zero, suc, ◌+◌, ◌-◌, ◌*◌, ◌%◌, ◌^◌, ◌<◌, ◌≤◌, Bool, true, false, cond, not, ◌&&◌, T, eqb, ltb, leb, ◌⊎◌, ℤ, pos, negsuc, sym, refl, ap, ◌∙◌, subst, ap₂, inl, inr, true≢false, zero-le, le_trans, le_of_eq, le_refl, lt_of_lt_of_le, le_of_suc-le-suc, lt_of_le_of_lt, add-zero, lt_irrefl, mul-le-mul_right, zero-lt-suc, mul_assoc, mul_comm, eq-zero-or-pos, lt_of_mul-lt-mul_right, mul-pos, one-mul, lt_of_not-le, mul-zero, zero-mul, mul-one, mul_right_comm, not-le_of_lt, le_of_mul-le-mul_right, sub-le, arith, lit<, eqb→eq, ltb→lt, leb→le, nltb→le, pow_pos, pow_mono, pow-add}
use native.Mathlib.Nat.{mul-sub}
use mathlib.Core.Bool.{false≢true}
use lib.Pow.{pow-lt}
use lib.Ieee.{Float, nan, inf, fin, binary64, up, down, round, sum, add, sub, mul, div, le, of_int, unlike, fits}
use lib.Ieee.Fits.{down_pos, up_pos, and_l, and_r}
use lib.Ieee.Exact.{HasValue}
use lib.Ieee.Scale.{grid, overflow, finite}
use lib.Ieee.Back.{round_whole}
use lib.Ieee.Order.{round_mono}
use lib.Ieee.Positive.{num, den, above, above_of_le, positive_of_value, values_of_le, first_pos}
use Rattle.float.proofs.Error.{grid_up, grid_down}
use Rattle.float.proofs.Below.{round_value, minus_zero}

-- x is finite and not negative, and g units; -0 is 0 units
abbrev pub Is : Float → ℕ → Type 0
Is nan g = ⊥
Is (inf s) g = ⊥
Is (fin false m e) g = m * up e * 2 ^ 1074 ≡ g * down e
Is (fin true m e) g = (m ≡ 0) × (g ≡ 0)

-- x is n / d units, rounded
pub record Rounded (x : Float) (n d : ℕ) : Type 0 where
  pub units : ℕ
  pub is : Is x units
  pub upper : units * d * 2 ^ 53 ≤ n * (2 ^ 53 + 1) + d * 2 ^ 52
  pub lower : n * 2 ^ 53 ≤ units * d * 2 ^ 53 + n + d * 2 ^ 52
  -- what is a whole number at most, of those that binary64 counts without a gap, stays so
  pub whole : (N : ℕ) → N ≤ 2 ^ 53 → n ≤ N * 2 ^ 1074 * d → units ≤ N * 2 ^ 1074

-- ---- `grid` against n / d, where a / c is n / d units
module _ (a c n d L : ℕ) (C : 0 < c) (e : a * L * d ≡ n * c) where
  over : (g P h : ℕ) → g * c * P ≤ a * L * (P + 1) + c * h → g * d * P ≤ n * (P + 1) + d * h
  over g P h u =
      le_of_mul-le-mul_right
      (let x : g * c * P * d ≤ (a * L * (P + 1) + c * h) * d = mul-le-mul_right d u in
      let y : a * L * d * (P + 1) ≡ n * c * (P + 1) = ap (λ (z : ℕ). z * (P + 1)) e in
      line g d P c n h a L x y)
      C
    where
      line : (g d P c n h a L : ℕ) → g * c * P * d ≤ (a * L * (P + 1) + c * h) * d → a * L * d * (P + 1) ≡ n * c * (P + 1) → g * d * P * c ≤ (n * (P + 1) + d * h) * c
      line g d P c n h a L x y = omega arith

  under : (g P h : ℕ) → a * L * P ≤ g * c * P + a * L + c * h → n * P ≤ g * d * P + n + d * h
  under g P h u =
      le_of_mul-le-mul_right
      (let x : a * L * P * d ≤ (g * c * P + a * L + c * h) * d = mul-le-mul_right d u in
      let y : a * L * d * P ≡ n * c * P = ap (λ (z : ℕ). z * P) e in
      line g d P c n h a L x y e)
      C
    where
      line : (g d P c n h a L : ℕ) → a * L * P * d ≤ (g * c * P + a * L + c * h) * d → a * L * d * P ≡ n * c * P → a * L * d ≡ n * c → n * P * c ≤ (g * d * P + n + d * h) * c
      line g d P c n h a L x y z = omega arith

-- a number of units that is far below the largest is finite
fine : (g d n P h B : ℕ) → 0 < d → n ≤ d * B → g * d * P ≤ n * (P + 1) + d * h → g * P ≤ B * (P + 1) + h
fine g d n P h B D l u = le_of_mul-le-mul_right (let x : n * (P + 1) ≤ d * B * (P + 1) = mul-le-mul_right (P + 1) l in line g d n P h B x u) D
  where
    line : (g d n P h B : ℕ) → n * (P + 1) ≤ d * B * (P + 1) → g * d * P ≤ n * (P + 1) + d * h → g * P * d ≤ (B * (P + 1) + h) * d
    line g d n P h B x u = omega arith

no_overflow : (g : ℕ) → g * 2 ^ 53 ≤ 2 ^ 2000 * (2 ^ 53 + 1) + 2 ^ 52 → g < overflow binary64
no_overflow g h = lt_of_mul-lt-mul_right (2 ^ 53) (lt_of_le_of_lt h (lit< tt))

-- ---- `round`, in units
is_of : (x : Float) (g : ℕ) → HasValue x false g (2 ^ 1074) → Is x g
is_of nan g v = v
is_of (inf s) g v = v
is_of (fin true m e) g v = absurd (true≢false v.0)
is_of (fin false m e) g v = v.1

is_zero : (x : Float) → HasValue x true 0 (2 ^ 1074) → Is x 0
is_zero nan v = v
is_zero (inf s) v = v
is_zero (fin false m e) v = absurd (false≢true v.0)
is_zero (fin true m e) v = (none m (up e) (up_pos e) (v.1 ∙ zero-mul (down e)), refl)
  where
    none : (m u : ℕ) → 0 < u → m * u * 2 ^ 1074 ≡ 0 → m ≡ 0
    none zero u h z = refl
    none (suc m) u h z = absurd (lt_irrefl 0 (subst (λ (y : ℕ). 0 < y) z (mul-pos (mul-pos (zero-lt-suc m) h) (pow_pos 1074))))

-- the grid of 0 is 0
grid_none : (c : ℕ) → 0 < c → grid binary64 0 c ≡ 0
grid_none c C = small (grid binary64 0 c) (fine (grid binary64 0 c) c 0 (2 ^ 53) (2 ^ 52) 0 C zero-le (grid_up binary64 0 c C))
  where
    small : (g : ℕ) → g * 2 ^ 53 ≤ 0 * (2 ^ 53 + 1) + 2 ^ 52 → g ≡ 0
    small g h = omega arith

-- ---- the order, in units
pub frac : (x : Float) (g : ℕ) → Is x g → num x * 2 ^ 1074 ≡ g * den x
frac nan g v = absurd v
frac (inf s) g v = absurd v
frac (fin false m e) g v = v
frac (fin true m e) g v = ap (λ (z : ℕ). z * up e * 2 ^ 1074) v.0 ∙ ap (λ (z : ℕ). z * 2 ^ 1074) (zero-mul (up e)) ∙ zero-mul (2 ^ 1074) ∙ sym (ap (λ (z : ℕ). z * down e) v.1 ∙ zero-mul (down e))

has : (x : Float) (g : ℕ) → 0 < g → Is x g → HasValue x false g (2 ^ 1074)
has nan g p v = v
has (inf s) g p v = v
has (fin false m e) g p v = (refl, v)
has (fin true m e) g p v = absurd (lt_irrefl 0 (subst (λ (z : ℕ). 0 < z) v.1 p))

finite_above : (y : Float) (h : ℕ) → Is y h → T (above y) → 0 < h
finite_above nan h v a = absurd v
finite_above (inf s) h v a = absurd v
finite_above (fin true m e) h v a = absurd a
finite_above (fin false m e) h v a = first_pos h (down e) (subst (λ (z : ℕ). 0 < z) v (mul-pos (mul-pos (ltb→lt 0 m a) (up_pos e)) (pow_pos 1074)))

pub le_units : (x y : Float) (g h : ℕ) → Is x g → Is y h → T (le x y) → g ≤ h
le_units x y g h v w l = go (eq-zero-or-pos g)
  where
    go : (g ≡ 0) ⊎ (0 < g) → g ≤ h
    go (inl z) = subst (λ (k : ℕ). k ≤ h) (sym z) zero-le
    go (inr p) =
        let a = has x g p v in
        let P = positive_of_value x g (2 ^ 1074) a p in
        let q = finite_above y h w (above_of_le x y P l) in
        let b = has y h q w in
        le_of_mul-le-mul_right (values_of_le x y g (2 ^ 1074) h (2 ^ 1074) P (positive_of_value y h (2 ^ 1074) b q) a b l) (pow_pos 1074)

-- ---- whole numbers
rescaled : (x : Float) (n : ℕ) → HasValue x false n 1 → Is x (n * 2 ^ 1074)
rescaled nan n v = v
rescaled (inf s) n v = v
rescaled (fin true m e) n v = absurd (true≢false v.0)
rescaled (fin false m e) n v = ap (λ (z : ℕ). z * 2 ^ 1074) (sym (mul-one (m * up e)) ∙ v.1) ∙ mul_right_comm n (down e) (2 ^ 1074)

pub of_whole : (n : ℕ) → n ≤ 2 ^ 53 → Is (of_int binary64 (pos n)) (n * 2 ^ 1074)
unfolding of_int
of_whole n h = rescaled (round binary64 false n 1) n (round_whole binary64 false n h)

round_of_whole : (n : ℕ) → n ≤ 2 ^ 53 → Is (round binary64 false n 1) (n * 2 ^ 1074)
round_of_whole n h = rescaled (round binary64 false n 1) n (round_whole binary64 false n h)

grid_whole : (a c N : ℕ) → 0 < c → N ≤ 2 ^ 53 → grid binary64 a c < overflow binary64 → a ≤ N * c → grid binary64 a c ≤ N * 2 ^ 1074
grid_whole a c N C H o h =
    le_units (round binary64 false a c) (round binary64 false N 1) (grid binary64 a c) (N * 2 ^ 1074)
    (is_of (round binary64 false a c) (grid binary64 a c) (round_value binary64 false a c o)) (round_of_whole N H)
    (round_mono binary64 a c N 1 C (pow_pos 0) (le_trans (le_of_eq (mul-one a)) h))

at_most : (a c n d L N : ℕ) → 0 < d → 0 < L → a * L * d ≡ n * c → n ≤ N * L * d → a ≤ N * c
at_most a c n d L N D Lp e h = le_of_mul-le-mul_right (let x : n * c ≤ N * L * d * c = mul-le-mul_right c h in line a c n d L N e x) (mul-pos Lp D)
  where
    line : (a c n d L N : ℕ) → a * L * d ≡ n * c → n * c ≤ N * L * d * c → a * (L * d) ≤ N * c * (L * d)
    line a c n d L N e x = omega arith

pub rounded : (s : Bool) (a c n d : ℕ) → (s ≡ true → a ≡ 0) → 0 < c → 0 < d → a * 2 ^ 1074 * d ≡ n * c → n ≤ d * 2 ^ 2000 → Rounded (round binary64 s a c) n d
rounded s a c n d z C D e l =
    let g = grid binary64 a c in
    let u = over a c n d (2 ^ 1074) C e g (2 ^ 53) (2 ^ 52) (grid_up binary64 a c C) in
    let o = no_overflow g (fine g d n (2 ^ 53) (2 ^ 52) (2 ^ 2000) D l u) in
    record {
      units = g;
      is = go s z (round_value binary64 s a c o);
      upper = u;
      lower = under a c n d (2 ^ 1074) C e g (2 ^ 53) (2 ^ 52) (grid_down binary64 a c C);
      whole = λ N H k. grid_whole a c N C H o (at_most a c n d (2 ^ 1074) N D (pow_pos 1074) e k);
    }
  where
    go : (s : Bool) → (s ≡ true → a ≡ 0) → HasValue (round binary64 s a c) s (grid binary64 a c) (2 ^ 1074) → Is (round binary64 s a c) (grid binary64 a c)
    go false z v = is_of (round binary64 false a c) (grid binary64 a c) v
    go true z v =
        let q : grid binary64 a c ≡ 0 = ap (λ (y : ℕ). grid binary64 y c) (z refl) ∙ grid_none c C in
        subst (λ (y : ℕ). Is (round binary64 true a c) y) (sym q) (is_zero (round binary64 true a c) (subst (λ (y : ℕ). HasValue (round binary64 true a c) true y (2 ^ 1074)) q v))

-- ---- the product: x * y is gx * gy / 2 ^ 1074 units
signed_zero : (s : Bool) (m : ℕ) (e : ℤ) (g : ℕ) → Is (fin s m e) g → s ≡ true → m * up e ≡ 0
signed_zero false m e g v p = absurd (false≢true p)
signed_zero true m e g v p = ap (λ (z : ℕ). z * up e) v.0 ∙ zero-mul (up e)

product : (X Y L gx gy De Dd : ℕ) → X * L ≡ gx * De → Y * L ≡ gy * Dd → X * Y * L * L ≡ gx * gy * (De * Dd)
product X Y L gx gy De Dd p q = let r : X * L * (Y * L) ≡ gx * De * (gy * Dd) = ap₂ ◌*◌ p q in omega arith

zero_product : (s t : Bool) (X Y : ℕ) → (s ≡ true → X ≡ 0) → (t ≡ true → Y ≡ 0) → unlike s t ≡ true → X * Y ≡ 0
zero_product true t X Y p q r = ap (λ (z : ℕ). z * Y) (p refl) ∙ zero-mul Y
zero_product false true X Y p q r = ap (λ (z : ℕ). X * z) (q refl) ∙ mul-zero X
zero_product false false X Y p q r = absurd (false≢true r)

pub mul_units : (x y : Float) (gx gy : ℕ) → Is x gx → Is y gy → gx * gy ≤ 2 ^ 1074 * 2 ^ 2000 → Rounded (mul binary64 x y) (gx * gy) (2 ^ 1074)
unfolding mul
mul_units nan y gx gy v w l = absurd v
mul_units (inf s) y gx gy v w l = absurd v
mul_units (fin s m e) nan gx gy v w l = absurd w
mul_units (fin s m e) (inf t) gx gy v w l = absurd w
mul_units (fin s m e) (fin t n d) gx gy v w l =
    rounded (unlike s t) (m * up e * (n * up d)) (down e * down d) (gx * gy) (2 ^ 1074)
    (zero_product s t (m * up e) (n * up d) (signed_zero s m e gx v) (signed_zero t n d gy w)) (mul-pos (down_pos e) (down_pos d)) (pow_pos 1074)
    (product (m * up e) (n * up d) (2 ^ 1074) gx gy (down e) (down d) (frac (fin s m e) gx v) (frac (fin t n d) gy w)) l

-- ---- the sum
sum_is : (s t : Bool) (a b c : ℕ) → (s ≡ true → a ≡ 0) → (t ≡ true → b ≡ 0) → sum binary64 s a t b c ≡ round binary64 (s && t) (a + b) c
unfolding sum
sum_is true true a b c p q = refl
sum_is false false a b c p q = refl
sum_is false true a b c p q = go (ltb a b) (ltb→lt a b)
  where
    go : (r : Bool) → (T r → a < b) → cond r (round binary64 true (b - a) c) (round binary64 false (a - b) c) ≡ round binary64 false (a + b) c
    go true h = absurd (no a b (h tt) (q refl))
      where
        no : (a b : ℕ) → a < b → b ≡ 0 → ⊥
        no a b h e = omega arith
    go false h = ap (λ (z : ℕ). round binary64 false z c) (same a b (q refl))
      where
        same : (a b : ℕ) → b ≡ 0 → a - b ≡ a + b
        same a b e = omega arith
sum_is true false a b c p q = go (ltb a b) (ltb b a) (ltb→lt b a) (nltb→le a b)
  where
    go : (r k : Bool) → (T k → b < a) → (T (not r) → b ≤ a) → cond r (round binary64 false (b - a) c) (round binary64 k (a - b) c) ≡ round binary64 false (a + b) c
    go true k h g = ap (λ (z : ℕ). round binary64 false z c) (same a b (p refl))
      where
        same : (a b : ℕ) → a ≡ 0 → b - a ≡ a + b
        same a b e = omega arith
    go false true h g = absurd (no a b (h tt) (p refl))
      where
        no : (a b : ℕ) → b < a → a ≡ 0 → ⊥
        no a b h e = omega arith
    go false false h g = ap (λ (z : ℕ). round binary64 false z c) (same a b (p refl) (g tt))
      where
        same : (a b : ℕ) → a ≡ 0 → b ≤ a → a - b ≡ a + b
        same a b e l = omega arith

total : (X Y L gx gy De Dd : ℕ) → X * L ≡ gx * De → Y * L ≡ gy * Dd → (X * Dd + Y * De) * L * 1 ≡ (gx + gy) * (De * Dd)
total X Y L gx gy De Dd p q =
    let r : X * L * Dd ≡ gx * De * Dd = ap (λ (z : ℕ). z * Dd) p in
    let t : Y * L * De ≡ gy * Dd * De = ap (λ (z : ℕ). z * De) q in
    omega arith

pub add_units : (x y : Float) (gx gy : ℕ) → Is x gx → Is y gy → gx + gy ≤ 1 * 2 ^ 2000 → Rounded (add binary64 x y) (gx + gy) 1
unfolding add
add_units nan y gx gy v w l = absurd v
add_units (inf s) y gx gy v w l = absurd v
add_units (fin s m e) nan gx gy v w l = absurd w
add_units (fin s m e) (inf t) gx gy v w l = absurd w
add_units (fin s m e) (fin t n d) gx gy v w l =
    let p : s ≡ true → m * up e * down d ≡ 0 = λ q. ap (λ (z : ℕ). z * down d) (signed_zero s m e gx v q) ∙ zero-mul (down d) in
    let r : t ≡ true → n * up d * down e ≡ 0 = λ q. ap (λ (z : ℕ). z * down e) (signed_zero t n d gy w q) ∙ zero-mul (down e) in
    subst (λ (z : Float). Rounded z (gx + gy) 1) (sym (sum_is s t (m * up e * down d) (n * up d * down e) (down e * down d) p r))
    (rounded (s && t) (m * up e * down d + n * up d * down e) (down e * down d) (gx + gy) 1 (both s t (m * up e * down d) (n * up d * down e) p r) (mul-pos (down_pos e) (down_pos d)) (pow_pos 0)
    (total (m * up e) (n * up d) (2 ^ 1074) gx gy (down e) (down d) (frac (fin s m e) gx v) (frac (fin t n d) gy w)) l)
  where
    both : (s t : Bool) (a b : ℕ) → (s ≡ true → a ≡ 0) → (t ≡ true → b ≡ 0) → s && t ≡ true → a + b ≡ 0
    both true true a b p q r = ap₂ ◌+◌ (p refl) (q refl)
    both true false a b p q r = absurd (false≢true r)
    both false t a b p q r = absurd (false≢true r)

-- ---- the difference of a value with no sign and one that is no larger
less : (X Y L gx gy De Dd : ℕ) → 0 < L → X * L ≡ gx * De → Y * L ≡ gy * Dd → gy ≤ gx → Y * De ≤ X * Dd
less X Y L gx gy De Dd P p q h =
    le_of_mul-le-mul_right
    (let r : X * L * Dd ≡ gx * De * Dd = ap (λ (z : ℕ). z * Dd) p in
    let t : Y * L * De ≡ gy * Dd * De = ap (λ (z : ℕ). z * De) q in
    let k : gy * (De * Dd) ≤ gx * (De * Dd) = mul-le-mul_right (De * Dd) h in
    line X Y L gx gy De Dd r t k)
    P
  where
    line : (X Y L gx gy De Dd : ℕ) → X * L * Dd ≡ gx * De * Dd → Y * L * De ≡ gy * Dd * De → gy * (De * Dd) ≤ gx * (De * Dd) → Y * De * L ≤ X * Dd * L
    line X Y L gx gy De Dd r t k = omega arith

pub difference : (a b L gx gy c : ℕ) → a * L ≡ gx * c → b * L ≡ gy * c → (a - b) * L * 1 ≡ (gx - gy) * c
difference a b L gx gy c p q =
    mul-one ((a - b) * L) ∙ mul_comm (a - b) L ∙ mul-sub L a b
    ∙ ap₂ ◌-◌ (mul_comm L a ∙ p ∙ mul_comm gx c) (mul_comm L b ∙ q ∙ mul_comm gy c)
    ∙ sym (mul-sub c gx gy) ∙ mul_comm c (gx - gy)

pub crossed : (X L g De Dd : ℕ) → X * L ≡ g * De → X * Dd * L ≡ g * (De * Dd)
crossed X L g De Dd p = mul_right_comm X Dd L ∙ ap (λ (z : ℕ). z * Dd) p ∙ mul_assoc g De Dd

pub taken : (a b c : ℕ) → b ≤ a → sum binary64 false a true b c ≡ round binary64 false (a - b) c
unfolding sum
taken a b c h = go (ltb a b) (ltb→lt a b)
  where
    go : (t : Bool) → (T t → a < b) → cond t (round binary64 true (b - a) c) (round binary64 false (a - b) c) ≡ round binary64 false (a - b) c
    go true k = absurd (not-le_of_lt (k tt) h)
    go false k = refl

pub opened : (m : ℕ) (e : ℤ) (n : ℕ) (d : ℤ) → sub binary64 (fin false m e) (fin false n d) ≡ sum binary64 false (m * up e * down d) true (n * up d * down e) (down e * down d)
unfolding sub
opened m e n d = refl

opened_zero : (m : ℕ) (e : ℤ) (n : ℕ) (d : ℤ) → sub binary64 (fin false m e) (fin true n d) ≡ add binary64 (fin false m e) (fin false n d)
unfolding sub
opened_zero m e n d = refl

pub sub_units : (m : ℕ) (e : ℤ) (y : Float) (gx gy : ℕ) → Is (fin false m e) gx → Is y gy → gy ≤ gx → gx ≤ 2 ^ 2000 → Rounded (sub binary64 (fin false m e) y) (gx - gy) 1
sub_units m e nan gx gy v w h l = absurd w
sub_units m e (inf t) gx gy v w h l = absurd w
sub_units m e (fin true n d) gx gy v w h l =
    subst (λ (z : Float). Rounded z (gx - gy) 1) (sym (opened_zero m e n d))
    (subst (λ (z : ℕ). Rounded (add binary64 (fin false m e) (fin false n d)) z 1) (same gx gy w.1)
    (add_units (fin false m e) (fin false n d) gx gy v (frac (fin true n d) gy w) (room gx gy w.1 l)))
  where
    same : (x y : ℕ) → y ≡ 0 → x + y ≡ x - y
    same x y e = omega arith

    room : (x y : ℕ) → y ≡ 0 → x ≤ 2 ^ 2000 → x + y ≤ 1 * 2 ^ 2000
    room x y e h = le_trans (le_of_eq (ap (λ (z : ℕ). x + z) e ∙ add-zero x)) (le_trans h (le_of_eq (sym (one-mul (2 ^ 2000)))))
sub_units m e (fin false n d) gx gy v w h l =
    let a = m * up e * down d in
    let b = n * up d * down e in
    let c = down e * down d in
    subst (λ (z : Float). Rounded z (gx - gy) 1) (sym (opened m e n d ∙ taken a b c (less (m * up e) (n * up d) (2 ^ 1074) gx gy (down e) (down d) (pow_pos 1074) v w h)))
    (rounded false (a - b) c (gx - gy) 1 (λ p. absurd (false≢true p)) (mul-pos (down_pos e) (down_pos d)) (pow_pos 0)
    (difference a b (2 ^ 1074) gx gy c (crossed (m * up e) (2 ^ 1074) gx (down e) (down d) v) (crossed (n * up d) (2 ^ 1074) gy (down d) (down e) w ∙ ap (λ (z : ℕ). gy * z) (mul_comm (down d) (down e))))
    (le_trans (sub-le gx gy) (le_trans l (le_of_eq (sym (one-mul (2 ^ 2000)))))))

-- ---- the quotient: x / y is gx * 2 ^ 1074 / gy units
quotient : (X Y L gx gy De Dd : ℕ) → X * L ≡ gx * De → Y * L ≡ gy * Dd → X * Dd * L * gy ≡ gx * L * (Y * De)
quotient X Y L gx gy De Dd p q =
    let r : X * L * (gy * Dd) ≡ gx * De * (Y * L) = ap₂ ◌*◌ p (sym q) in
    omega arith

pub div_units : (x y : Float) (gx gy : ℕ) → Is x gx → Is y gy → 0 < gy → gx * 2 ^ 1074 ≤ gy * 2 ^ 2000 → Rounded (div binary64 x y) (gx * 2 ^ 1074) gy
unfolding div
div_units nan y gx gy v w p l = absurd v
div_units (inf s) y gx gy v w p l = absurd v
div_units (fin s m e) nan gx gy v w p l = absurd w
div_units (fin s m e) (inf t) gx gy v w p l = absurd w
div_units (fin s m e) (fin true n d) gx gy v w p l = absurd (lt_irrefl 0 (subst (λ (z : ℕ). 0 < z) w.1 p))
div_units (fin s m e) (fin false n d) gx gy v w p l = go (eqb n 0) (eqb→eq n 0)
  where
    top : 0 < n * up d
    top = first_pos (n * up d) (2 ^ 1074) (subst (λ (z : ℕ). 0 < z) (sym w) (mul-pos p (down_pos d)))

    go : (b : Bool) → (T b → n ≡ 0) → Rounded (cond b (cond (eqb m 0) nan (inf (unlike s false))) (round binary64 (unlike s false) (m * up e * down d) (n * up d * down e))) (gx * 2 ^ 1074) gy
    go true h = absurd (lt_irrefl 0 (subst (λ (z : ℕ). 0 < z) (ap (λ (z : ℕ). z * up d) (h tt) ∙ zero-mul (up d)) top))
    go false h =
        rounded (unlike s false) (m * up e * down d) (n * up d * down e) (gx * 2 ^ 1074) gy
        (λ q. ap (λ (z : ℕ). z * down d) (signed_zero s m e gx v (plain s q)) ∙ zero-mul (down d)) (mul-pos top (down_pos e)) p
        (quotient (m * up e) (n * up d) (2 ^ 1074) gx gy (down e) (down d) (frac (fin s m e) gx v) w) l
      where
        plain : (s : Bool) → unlike s false ≡ true → s ≡ true
        plain true q = refl
        plain false q = q

-- ---- a value that binary64 holds and that is not negative is a number of units
pub record Units (x : Float) : Type 0 where
  pub units : ℕ
  pub is : Is x units

finite_units : (m : ℕ) (e : ℤ) → down e ≤ 2 ^ 1074 → Units (fin false m e)
finite_units m (pos k) h = record { units = m * 2 ^ k * 2 ^ 1074; is = sym (mul-one (m * 2 ^ k * 2 ^ 1074)) }
finite_units m (negsuc k) h = record { units = m * 2 ^ (1074 - suc k); is = ap (λ (z : ℕ). z * 2 ^ 1074) (mul-one m) ∙ sym (mul_assoc m (2 ^ (1074 - suc k)) (2 ^ suc k) ∙ ap (λ (z : ℕ). m * z) (sym (pow-add 2 (1074 - suc k) (suc k)) ∙ ap (λ (z : ℕ). 2 ^ z) (back (suc k) (exp_le (suc k) 1074 h)))) }
  where
    back : (k : ℕ) → k ≤ 1074 → 1074 - k + k ≡ 1074
    back k h = omega arith

    exp_le : (a b : ℕ) → 2 ^ a ≤ 2 ^ b → a ≤ b
    exp_le a b h = le_of_suc-le-suc (lt_of_not-le (λ (g : suc b ≤ a). not-le_of_lt (lt_of_lt_of_le (pow-lt (le_refl (suc b))) (pow_mono g)) h))

held : (m : ℕ) (e : ℤ) → T (fits binary64 (fin false m e)) → down e ≤ 2 ^ 1074
unfolding fits
held zero (pos k) t = pow_pos 1074
held zero (negsuc k) t = le_trans (le_of_eq (sym (one-mul (2 ^ suc k)) ∙ eqb→eq (1 * 2 ^ suc k) 1 t)) (pow_pos 1074)
held (suc m) e t =
    leb→le (down e) (2 ^ 1074) (and_r (eqb (suc m % 2) 1 && ltb (suc m) (2 ^ 53)) (leb (down e) (2 ^ 1074)) (and_l (eqb (suc m % 2) 1 && ltb (suc m) (2 ^ 53) && leb (down e) (2 ^ 1074)) (ltb (suc m * up e) (2 ^ 1024 * down e)) t))

pub units_of : (x : Float) → T (fits binary64 x) → T (le (fin false 0 (pos 0)) x) → T (finite x) → Units x
units_of nan t h f = absurd f
units_of (inf s) t h f = absurd f
units_of (fin true m e) t h f = record { units = 0; is = (minus_zero m e h, refl) }
units_of (fin false m e) t h f = finite_units m e (held m e t)
