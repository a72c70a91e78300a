-- How near a double is to an exact number, step by step: `Near` through a conversion to milliseconds, a product with a fraction, a sum, a difference, the larger of two and the way back to nanoseconds.
use mathlib.Core.Path.{◌≡◌, refl, sym, ap, ap₂, ◌∙◌, subst}
use Prim.Native.Nat.{ℕ, suc, ◌+◌, ◌-◌, ◌*◌, ◌/◌, ◌%◌, ◌^◌, ◌≤◌, ◌<◌, max, zero-le}
use native.Mathlib.Nat.{le_refl, le_trans, le_of_eq, le_of_lt, le_of_suc-le-suc, le_of_mul-le-mul_right, lt_of_lt_of_le, lt_of_mul-lt-mul_right, mul-le-mul_right, mul-le-mul, mul_comm, mul-one, one-mul, add-mul, mul-sub, add-le-add, mul-pos, sub-le, max-eq_left, max-eq_right, mod-lt, div-le_self}
use native.Mathlib.Omega.{arith}
use mathlib.Core.Bool.{Bool, true, false, not, cond}
use lib.IntN.{pos}
use lib.Dec.{T, leb, ltb→lt, nltb→le, leb→le, nleb→lt, lit≤, lit<}
use lib.Pow.{pow_pos}
use lib.Ieee.{Float, fin, binary64, up, down, add, sub, mul, div, lt, of_int}
use lib.Ieee.Fits.{down_pos}
use lib.Ieee.Nearest.{closest}
use Rattle.bounds.specs.Bounds.{max_estimate}
use Rattle.duration.specs.Duration.{as_secs_f64}
use Rattle.duration.proofs.RoundTrip.{nanos_units, slack, near}
use Rattle.float.specs.Sign.{absolute, unsigned}
use Rattle.float.proofs.Error.{closest_up, closest_down}
use Rattle.float.proofs.Units.{Is, frac, of_whole, mul_units, add_units, sub_units, div_units}
use Rattle.float.proofs.Magnitude.{mul_unsigned, add_unsigned, div_unsigned, whole_unsigned, distance}
use Rattle.rtt.specs.Rtt.{one64, thousand64, to_ms, from_ms, weighted, larger}

-- k * x is n give or take s / 2 ^ 53 units of 2 ^ -1074, and x is at most M; a zero may have a sign
pub record Near (x : Float) (k n M s : ℕ) : Type 0 where
  pub units : ℕ
  pub is : Is x units
  pub most : units ≤ M * 2 ^ 1074
  pub above : units * k * 2 ^ 53 ≤ n * 2 ^ 1074 * 2 ^ 53 + s
  pub below : n * 2 ^ 1074 * 2 ^ 53 ≤ units * k * 2 ^ 53 + s

-- ---- P, h and L for 2 ^ 53, 2 ^ 52 and 2 ^ 1074; u is g * a, rounded
module _ (u g a k n s G L P h : ℕ) (l : 0 < L) (m : g ≤ G) where
  product_up : u * L * P ≤ g * (a * L) * (P + 1) + L * h → g * (a * k) * P ≤ n * P + s → u * k * P ≤ n * P + (s + (G * a + h) * k)
  product_up p q =
      let c : u * P ≤ g * a * P + g * a + h = le_of_mul-le-mul_right (line u g a L P h p) l in
      let d : u * P * k ≤ (g * a * P + g * a + h) * k = mul-le-mul_right k c in
      let e : g * (a * k) ≤ G * (a * k) = mul-le-mul_right (a * k) m in
      omega arith
    where
      line : (u g a L P h : ℕ) → u * L * P ≤ g * (a * L) * (P + 1) + L * h → u * P * L ≤ (g * a * P + g * a + h) * L
      line u g a L P h p = omega arith

  product_down : g * (a * L) * P ≤ u * L * P + g * (a * L) + L * h → n * P ≤ g * (a * k) * P + s → n * P ≤ u * k * P + (s + (G * a + h) * k)
  product_down p q =
      let c : g * a * P ≤ u * P + g * a + h = le_of_mul-le-mul_right (line u g a L P h p) l in
      let d : g * a * P * k ≤ (u * P + g * a + h) * k = mul-le-mul_right k c in
      let e : g * (a * k) ≤ G * (a * k) = mul-le-mul_right (a * k) m in
      omega arith
    where
      line : (u g a L P h : ℕ) → g * (a * L) * P ≤ u * L * P + g * (a * L) + L * h → g * a * P * L ≤ (u * P + g * a + h) * L
      line u g a L P h p = omega arith

-- z is u / b, rounded
module _ (z u b k n s U L P h : ℕ) (l : 0 < L) (m : u ≤ U) where
  quotient_up : z * (b * L) * P ≤ u * L * (P + 1) + b * L * h → u * k * P ≤ n * P + s → z * (b * k) * P ≤ n * P + (s + (U + b * h) * k)
  quotient_up p q =
      let c : z * b * P ≤ u * P + u + b * h = le_of_mul-le-mul_right (line z u b L P h p) l in
      let d : z * b * P * k ≤ (u * P + u + b * h) * k = mul-le-mul_right k c in
      let e : u * k ≤ U * k = mul-le-mul_right k m in
      omega arith
    where
      line : (z u b L P h : ℕ) → z * (b * L) * P ≤ u * L * (P + 1) + b * L * h → z * b * P * L ≤ (u * P + u + b * h) * L
      line z u b L P h p = omega arith

  quotient_down : u * L * P ≤ z * (b * L) * P + u * L + b * L * h → n * P ≤ u * k * P + s → n * P ≤ z * (b * k) * P + (s + (U + b * h) * k)
  quotient_down p q =
      let c : u * P ≤ z * b * P + u + b * h = le_of_mul-le-mul_right (line z u b L P h p) l in
      let d : u * P * k ≤ (z * b * P + u + b * h) * k = mul-le-mul_right k c in
      let e : u * k ≤ U * k = mul-le-mul_right k m in
      omega arith
    where
      line : (z u b L P h : ℕ) → u * L * P ≤ z * (b * L) * P + u * L + b * L * h → u * P * L ≤ (z * b * P + u + b * h) * L
      line z u b L P h p = omega arith

-- u is (a / b) * g, rounded: c units are a / b
module _ (u c g a b k n s G L P h : ℕ) (l : 0 < L) (e : c * b ≡ a * L) (m : g ≤ G) where
  share_up : u * L * P ≤ c * g * (P + 1) + L * h → g * k * P ≤ n * L * P + s → u * (k * b) * P ≤ a * n * L * P + (a * s + (a * G + b * h) * k)
  share_up p q =
      let x : u * L * P * (b * k) ≤ (c * g * (P + 1) + L * h) * (b * k) = mul-le-mul_right (b * k) p in
      let y : c * b * (g * k * (P + 1)) ≡ a * L * (g * k * (P + 1)) = ap (λ (z : ℕ). z * (g * k * (P + 1))) e in
      let t : u * (k * b) * P ≤ a * g * k * (P + 1) + b * h * k = le_of_mul-le-mul_right (line u c g a b k L P h x y) l in
      let v : g * k * P * a ≤ (n * L * P + s) * a = mul-le-mul_right a q in
      let w : g * (a * k) ≤ G * (a * k) = mul-le-mul_right (a * k) m in
      omega arith
    where
      line : (u c g a b k L P h : ℕ) → u * L * P * (b * k) ≤ (c * g * (P + 1) + L * h) * (b * k) → c * b * (g * k * (P + 1)) ≡ a * L * (g * k * (P + 1)) → u * (k * b) * P * L ≤ (a * g * k * (P + 1) + b * h * k) * L
      line u c g a b k L P h x y = omega arith

  share_down : c * g * P ≤ u * L * P + c * g + L * h → n * L * P ≤ g * k * P + s → a * n * L * P ≤ u * (k * b) * P + (a * s + (a * G + b * h) * k)
  share_down p q =
      let x : c * g * P * (b * k) ≤ (u * L * P + c * g + L * h) * (b * k) = mul-le-mul_right (b * k) p in
      let y : c * b * (g * k * P) ≡ a * L * (g * k * P) = ap (λ (z : ℕ). z * (g * k * P)) e in
      let y' : c * b * (g * k) ≡ a * L * (g * k) = ap (λ (z : ℕ). z * (g * k)) e in
      let t : a * g * k * P ≤ u * (k * b) * P + a * g * k + b * h * k = le_of_mul-le-mul_right (line u c g a b k L P h x y y') l in
      let v : n * L * P * a ≤ (g * k * P + s) * a = mul-le-mul_right a q in
      let w : g * (a * k) ≤ G * (a * k) = mul-le-mul_right (a * k) m in
      omega arith
    where
      line : (u c g a b k L P h : ℕ) → c * g * P * (b * k) ≤ (u * L * P + c * g + L * h) * (b * k) → c * b * (g * k * P) ≡ a * L * (g * k * P) → c * b * (g * k) ≡ a * L * (g * k) → a * g * k * P * L ≤ (u * (k * b) * P + a * g * k + b * h * k) * L
      line u c g a b k L P h x y y' = omega arith

-- u is g + f, rounded
module _ (u g f k n m s t G L P h : ℕ) (b : g + f ≤ G) where
  sum_up : u * 1 * P ≤ (g + f) * (P + 1) + 1 * h → g * k * P ≤ n * L * P + s → f * k * P ≤ m * L * P + t → u * k * P ≤ (n + m) * L * P + (s + t + (G + h) * k)
  sum_up p q r =
      let x : u * 1 * P * k ≤ ((g + f) * (P + 1) + 1 * h) * k = mul-le-mul_right k p in
      let y : (g + f) * k ≤ G * k = mul-le-mul_right k b in
      omega arith

  sum_down : (g + f) * P ≤ u * 1 * P + (g + f) + 1 * h → n * L * P ≤ g * k * P + s → m * L * P ≤ f * k * P + t → (n + m) * L * P ≤ u * k * P + (s + t + (G + h) * k)
  sum_down p q r =
      let x : (g + f) * P * k ≤ (u * 1 * P + (g + f) + 1 * h) * k = mul-le-mul_right k p in
      let y : (g + f) * k ≤ G * k = mul-le-mul_right k b in
      omega arith

-- ---- the size of a difference
abbrev pub apart : ℕ → ℕ → ℕ
apart x y = x - y + (y - x)

apart_mul : (x y c : ℕ) → apart x y * c ≡ apart (x * c) (y * c)
apart_mul x y c = add-mul (x - y) (y - x) c ∙ ap₂ ◌+◌ (one x y) (one y x)
  where
    one : (x y : ℕ) → (x - y) * c ≡ x * c - y * c
    one x y = mul_comm (x - y) c ∙ mul-sub c x y ∙ ap₂ ◌-◌ (mul_comm c x) (mul_comm c y)

apart_near : (A B N Q s t : ℕ) → A ≤ N + s → N ≤ A + s → B ≤ Q + t → Q ≤ B + t → apart A B ≤ apart N Q + (s + t)
apart_near A B N Q s t a b c d = omega arith

apart_most : (x y G : ℕ) → x ≤ G → y ≤ G → apart x y ≤ G * 1
apart_most x y G p q = omega arith

-- u is the size of g - f, rounded
module _ (u g f k n m s t G L P h : ℕ) (b : apart g f ≤ G) (a₀ : g * k * P ≤ n * L * P + s) (b₀ : n * L * P ≤ g * k * P + s) (a₁ : f * k * P ≤ m * L * P + t) (b₁ : m * L * P ≤ f * k * P + t) where
  units_apart : apart g f * (k * P) ≡ apart (g * k * P) (f * k * P)
  units_apart = apart_mul g f (k * P) ∙ ap₂ apart (line g) (line f)
    where
      line : (g : ℕ) → g * (k * P) ≡ g * k * P
      line g = omega arith

  exact_apart : apart n m * (L * P) ≡ apart (n * L * P) (m * L * P)
  exact_apart = apart_mul n m (L * P) ∙ ap₂ apart (line n) (line m)
    where
      line : (g : ℕ) → g * (L * P) ≡ g * L * P
      line g = omega arith

  difference_up : u * 1 * P ≤ apart g f * (P + 1) + 1 * h → u * k * P ≤ apart n m * L * P + (s + t + (G + h) * k)
  difference_up p = go u (apart g f) (apart n m) k L P h G (s + t) p b (le_trans (le_of_eq units_apart) (le_trans (apart_near (g * k * P) (f * k * P) (n * L * P) (m * L * P) s t a₀ b₀ a₁ b₁) (le_of_eq (ap (λ (z : ℕ). z + (s + t)) (sym exact_apart)))))
    where
      go : (u x y k L P h G s : ℕ) → u * 1 * P ≤ x * (P + 1) + 1 * h → x ≤ G → x * (k * P) ≤ y * (L * P) + s → u * k * P ≤ y * L * P + (s + (G + h) * k)
      go u x y k L P h G s p b q =
          let v : u * 1 * P * k ≤ (x * (P + 1) + 1 * h) * k = mul-le-mul_right k p in
          let w : x * k ≤ G * k = mul-le-mul_right k b in
          omega arith

  difference_down : apart g f * P ≤ u * 1 * P + apart g f + 1 * h → apart n m * L * P ≤ u * k * P + (s + t + (G + h) * k)
  difference_down p = go u (apart g f) (apart n m) k L P h G (s + t) p b (le_trans (le_of_eq exact_apart) (le_trans (apart_near (n * L * P) (m * L * P) (g * k * P) (f * k * P) s t b₀ a₀ b₁ a₁) (le_of_eq (ap (λ (z : ℕ). z + (s + t)) (sym units_apart)))))
    where
      go : (u x y k L P h G s : ℕ) → x * P ≤ u * 1 * P + x + 1 * h → x ≤ G → y * (L * P) ≤ x * (k * P) + s → y * L * P ≤ u * k * P + (s + (G + h) * k)
      go u x y k L P h G s p b q =
          let v : x * P * k ≤ (u * 1 * P + x + 1 * h) * k = mul-le-mul_right k p in
          let w : x * k ≤ G * k = mul-le-mul_right k b in
          omega arith

-- ---- the order of two values, in units
crossed_le : (X Y L g f De Dd : ℕ) → 0 < De → 0 < Dd → X * L ≡ g * De → Y * L ≡ f * Dd → X * Dd ≤ Y * De → g ≤ f
crossed_le X Y L g f De Dd p q a b h =
    le_of_mul-le-mul_right
    (let r : X * Dd * L ≤ Y * De * L = mul-le-mul_right L h in
    let x : X * L * Dd ≡ g * De * Dd = ap (λ (z : ℕ). z * Dd) a in
    let y : Y * L * De ≡ f * Dd * De = ap (λ (z : ℕ). z * De) b in
    line X Y L g f De Dd r x y)
    (mul-pos p q)
  where
    line : (X Y L g f De Dd : ℕ) → X * Dd * L ≤ Y * De * L → X * L * Dd ≡ g * De * Dd → Y * L * De ≡ f * Dd * De → g * (De * Dd) ≤ f * (De * Dd)
    line X Y L g f De Dd r x y = omega arith

lt_units : (x y : Float) (g f : ℕ) → Is x g → Is y f → T (lt x y) → g ≤ f
unfolding lt
lt_units lib.Ieee.nan y g f v w h = elim v [ ]
lt_units (lib.Ieee.inf _) y g f v w h = elim v [ ]
lt_units (fin false m e) lib.Ieee.nan g f v w h = elim w [ ]
lt_units (fin false m e) (lib.Ieee.inf _) g f v w h = elim w [ ]
lt_units (fin true m e) y g f v w h = le_trans (le_of_eq v.1) zero-le
lt_units (fin false m e) (fin true n d) g f v w h = absurd h
lt_units (fin false m e) (fin false n d) g f v w h = crossed_le (m * up e) (n * up d) (2 ^ 1074) g f (down e) (down d) (down_pos e) (down_pos d) v w (le_of_lt (ltb→lt (m * up e * down d) (n * up d * down e) h))

not_lt_units : (x y : Float) (g f : ℕ) → Is x g → Is y f → T (not (lt x y)) → f ≤ g
unfolding lt
not_lt_units x lib.Ieee.nan g f v w h = elim w [ ]
not_lt_units x (lib.Ieee.inf _) g f v w h = elim w [ ]
not_lt_units lib.Ieee.nan (fin false n d) g f v w h = elim v [ ]
not_lt_units (lib.Ieee.inf _) (fin false n d) g f v w h = elim v [ ]
not_lt_units x (fin true n d) g f v w h = le_trans (le_of_eq w.1) zero-le
not_lt_units (fin true m e) (fin false n d) g f v w h =
    crossed_le (n * up d) (m * up e) (2 ^ 1074) f g (down d) (down e) (down_pos d) (down_pos e) w (frac (fin true m e) g v) (none (m * up e * down d) (n * up d * down e) (nltb→le 0 (m * up e * down d + n * up d * down e) h))
  where
    none : (a b : ℕ) → a + b ≤ 0 → b ≤ a
    none a b h = omega arith
not_lt_units (fin false m e) (fin false n d) g f v w h = crossed_le (n * up d) (m * up e) (2 ^ 1074) f g (down d) (down e) (down_pos d) (down_pos e) w v (nltb→le (m * up e * down d) (n * up d * down e) h)

-- ---- products of units
pub times : (g x N M L : ℕ) → g ≤ N * L → x ≤ M * L → g * x ≤ N * M * L * L
times g x N M L p q = le_trans (mul-le-mul p q) (le_of_eq (regroup N M L))
  where
    regroup : (N M L : ℕ) → N * L * (M * L) ≡ N * M * L * L
    regroup N M L = omega arith

-- a bound in units is far below the largest value
pub far : (g x N M : ℕ) → N * M ≤ 2 ^ 100 → g ≤ N * 2 ^ 1074 → x ≤ M * 2 ^ 1074 → g * x ≤ 2 ^ 1074 * 2 ^ 2000
far g x N M h p q = le_trans (times g x N M (2 ^ 1074) p q) (le_trans (mul-le-mul_right (2 ^ 1074) (mul-le-mul_right (2 ^ 1074) h)) (lit≤ tt))

-- ---- a duration in milliseconds
abbrev pub slack_ms : ℕ
slack_ms = slack + (86402 * 2 ^ 1074 * 1000 + 2 ^ 52) * 1000000

pub near_ms : (ns : ℕ) → ns ≤ max_estimate → Near (to_ms ns) 1000000 ns 86402000 slack_ms
near_ms ns H =
    let L = 2 ^ 1074 in
    let n = near ns H in
    let g = n.units in
    let M = mul_units (as_secs_f64 ns) thousand64 g (1000 * L) n.is refl (le_trans (mul-le-mul_right (1000 * L) n.most) (lit≤ tt)) in
    record {
      units = M.units;
      is = M.is;
      most = M.whole 86402000 (lit≤ tt) (le_trans (mul-le-mul_right (1000 * L) n.most) (lit≤ tt));
      above = product_up M.units g 1000 1000000 (ns * L) slack (86402 * L) L (2 ^ 53) (2 ^ 52) (pow_pos 1074) n.most M.upper n.above;
      below = product_down M.units g 1000 1000000 (ns * L) slack (86402 * L) L (2 ^ 53) (2 ^ 52) (pow_pos 1074) n.most M.lower n.below;
    }

-- and it has no sign
pub ms_unsigned : (ns : ℕ) → ns ≤ max_estimate → T (unsigned (to_ms ns))
ms_unsigned ns H =
    let L = 2 ^ 1074 in
    let b : ℕ = 1000000000 in
    let w = ns / b in
    let p = ns % b in
    let l : p ≤ b = le_of_lt (mod-lt ns (lit< tt)) in
    let P = of_whole p (le_trans l (lit≤ tt)) in
    let B = of_whole b (lit≤ tt) in
    let D = div_units (of_int binary64 (pos p)) (of_int binary64 (pos b)) (p * L) (b * L) P B (lit< tt) (le_trans (mul-le-mul_right L (mul-le-mul_right L l)) (lit≤ tt)) in
    let W = of_whole w (le_trans (div-le_self ns b) (le_trans H (lit≤ tt))) in
    mul_unsigned (as_secs_f64 ns) thousand64 (near_ms ns H).units
    (add_unsigned (of_int binary64 (pos w)) (div binary64 (of_int binary64 (pos p)) (of_int binary64 (pos b))) (near ns H).units (whole_unsigned w (w * L) W) (div_unsigned (of_int binary64 (pos p)) (of_int binary64 (pos b)) D.units (whole_unsigned p (p * L) P) (whole_unsigned b (b * L) B) D.is) (near ns H).is)
    tt (near_ms ns H).is

-- ---- a quotient by a whole number
pub near_div : (x y : Float) (b k n M s : ℕ) → Is y (b * 2 ^ 1074) → 0 < b → M ≤ 2 ^ 53 → Near x k n M s → Near (div binary64 x y) (b * k) n M (s + (M * 2 ^ 1074 + b * 2 ^ 52) * k)
near_div x y b k n M s v B H N =
    let L = 2 ^ 1074 in
    let u = N.units in
    let one : L ≤ b * L = le_trans (le_of_eq (sym (one-mul L))) (mul-le-mul_right L B) in
    let D = div_units x y u (b * L) N.is v (lt_of_lt_of_le (pow_pos 1074) one)
    (le_trans (mul-le-mul_right L N.most) (le_trans (mul-le-mul_right L (mul-le-mul_right L H)) (le_trans (lit≤ tt) (mul-le-mul_right (2 ^ 2000) one)))) in
    record {
      units = D.units;
      is = D.is;
      most = D.whole M H (mul-le-mul N.most one);
      above = quotient_up D.units u b k (n * L) s (M * L) L (2 ^ 53) (2 ^ 52) (pow_pos 1074) N.most D.upper N.above;
      below = quotient_down D.units u b k (n * L) s (M * L) L (2 ^ 53) (2 ^ 52) (pow_pos 1074) N.most D.lower N.below;
    }

-- ---- a product with y, which is a / b and at most N
pub near_mul : (y x : Float) (a b c N k n M s : ℕ) → Is y c → c * b ≡ a * 2 ^ 1074 → c ≤ N * 2 ^ 1074 → N * M ≤ 2 ^ 53 → Near x k n M s → Near (mul binary64 y x) (k * b) (a * n) (N * M) (a * s + (a * (M * 2 ^ 1074) + b * 2 ^ 52) * k)
near_mul y x a b c N k n M s v e l H X =
    let L = 2 ^ 1074 in
    let g = X.units in
    let U = mul_units y x c g v X.is (far c g N M (le_trans H (lit≤ tt)) l X.most) in
    record {
      units = U.units;
      is = U.is;
      most = U.whole (N * M) H (times c g N M L l X.most);
      above = share_up U.units c g a b k n s (M * L) L (2 ^ 53) (2 ^ 52) (pow_pos 1074) e X.most U.upper X.above;
      below = share_down U.units c g a b k n s (M * L) L (2 ^ 53) (2 ^ 52) (pow_pos 1074) e X.most U.lower X.below;
    }

-- ---- a sum
pub near_add : (x y : Float) (k n m M N s t : ℕ) → M + N ≤ 2 ^ 53 → Near x k n M s → Near y k m N t → Near (add binary64 x y) k (n + m) (M + N) (s + t + ((M + N) * 2 ^ 1074 + 2 ^ 52) * k)
near_add x y k n m M N s t H X Y =
    let L = 2 ^ 1074 in
    let b : X.units + Y.units ≤ (M + N) * L = le_trans (add-le-add X.most Y.most) (le_of_eq (sym (add-mul M N L))) in
    let A = add_units x y X.units Y.units X.is Y.is (le_trans b (le_trans (mul-le-mul_right L H) (lit≤ tt))) in
    record {
      units = A.units;
      is = A.is;
      most = A.whole (M + N) H (le_trans b (le_of_eq (sym (mul-one ((M + N) * L)))));
      above = sum_up A.units X.units Y.units k n m s t ((M + N) * L) L (2 ^ 53) (2 ^ 52) b A.upper X.above Y.above;
      below = sum_down A.units X.units Y.units k n m s t ((M + N) * L) L (2 ^ 53) (2 ^ 52) b A.lower X.below Y.below;
    }

-- times 1.0
pub near_once : (x : Float) (k n M s : ℕ) → M ≤ 2 ^ 53 → Near x k n M s → Near (mul binary64 x one64) (k * 1) (1 * n) M (1 * s + (1 * (M * 2 ^ 1074) + 1 * 2 ^ 52) * k)
near_once x k n M s H X =
    let L = 2 ^ 1074 in
    let g = X.units in
    let l : g * L ≤ M * L * L = mul-le-mul_right L X.most in
    let U = mul_units x one64 g L X.is refl (le_trans l (le_trans (mul-le-mul_right L (mul-le-mul_right L H)) (lit≤ tt))) in
    let e = mul_comm g L in
    record {
      units = U.units;
      is = U.is;
      most = U.whole M H l;
      above = share_up U.units L g 1 1 k n s (M * L) L (2 ^ 53) (2 ^ 52) (pow_pos 1074) refl X.most (subst (λ (z : ℕ). U.units * L * 2 ^ 53 ≤ z * (2 ^ 53 + 1) + L * 2 ^ 52) e U.upper) X.above;
      below = share_down U.units L g 1 1 k n s (M * L) L (2 ^ 53) (2 ^ 52) (pow_pos 1074) refl X.most (subst (λ (z : ℕ). z * 2 ^ 53 ≤ U.units * L * 2 ^ 53 + z + L * 2 ^ 52) e U.lower) X.below;
    }

-- ---- a weighted sum: w is c / b, and 1 - w, which is a / b, is a double
pub near_weighted : (w v x y : Float) (a c b gv gw k n m M s t : ℕ) → sub binary64 one64 w ≡ v → Is v gv → gv * b ≡ a * 2 ^ 1074 → gv ≤ 1 * 2 ^ 1074 → Is w gw → gw * b ≡ c * 2 ^ 1074 → gw ≤ 1 * 2 ^ 1074
    → 1 * M + 1 * M ≤ 2 ^ 53 → Near x k n M s → Near y k m M t
    → Near (weighted w x y) (k * b) (a * n + c * m) (1 * M + 1 * M) (a * s + (a * (M * 2 ^ 1074) + b * 2 ^ 52) * k + (c * t + (c * (M * 2 ^ 1074) + b * 2 ^ 52) * k) + ((1 * M + 1 * M) * 2 ^ 1074 + 2 ^ 52) * (k * b))
near_weighted w v x y a c b gv gw k n m M s t e iv ev lv iw ew lw H X Y =
    let h : 1 * M ≤ 2 ^ 53 = le_trans (half M) H in
    subst (λ (z : Float). Near (add binary64 (mul binary64 z x) (mul binary64 w y)) (k * b) (a * n + c * m) (1 * M + 1 * M) (a * s + (a * (M * 2 ^ 1074) + b * 2 ^ 52) * k + (c * t + (c * (M * 2 ^ 1074) + b * 2 ^ 52) * k) + ((1 * M + 1 * M) * 2 ^ 1074 + 2 ^ 52) * (k * b))) (sym e)
    (near_add (mul binary64 v x) (mul binary64 w y) (k * b) (a * n) (c * m) (1 * M) (1 * M) (a * s + (a * (M * 2 ^ 1074) + b * 2 ^ 52) * k) (c * t + (c * (M * 2 ^ 1074) + b * 2 ^ 52) * k) H
    (near_mul v x a b gv 1 k n M s iv ev lv h X) (near_mul w y c b gw 1 k m M t iw ew lw h Y))
  where
    half : (M : ℕ) → 1 * M ≤ 1 * M + 1 * M
    half M = omega arith

-- ---- the size of a difference
pub near_distance : (x y : Float) (k n m M s t : ℕ) → T (unsigned x) → T (unsigned y) → M ≤ 2 ^ 53 → Near x k n M s → Near y k m M t → Near (absolute (sub binary64 x y)) k (apart n m) M (s + t + (M * 2 ^ 1074 + 2 ^ 52) * k)
near_distance x y k n m M s t p q H X Y =
    let L = 2 ^ 1074 in
    let b : apart X.units Y.units ≤ M * L * 1 = apart_most X.units Y.units (M * L) X.most Y.most in
    let b' : apart X.units Y.units ≤ M * L = le_trans b (le_of_eq (mul-one (M * L))) in
    let D = distance x y X.units Y.units p q X.is Y.is (le_trans b' (le_trans (mul-le-mul_right L H) (lit≤ tt))) in
    record {
      units = D.units;
      is = D.is;
      most = D.whole M H b;
      above = difference_up D.units X.units Y.units k n m s t (M * L) L (2 ^ 53) (2 ^ 52) b' X.above X.below Y.above Y.below D.upper;
      below = difference_down D.units X.units Y.units k n m s t (M * L) L (2 ^ 53) (2 ^ 52) b' X.above X.below Y.above Y.below D.lower;
    }

-- of two durations in milliseconds
abbrev pub slack_apart : ℕ
slack_apart = slack_ms + slack_ms + (86402000 * 2 ^ 1074 + 2 ^ 52) * 1000000

pub near_apart : (n m : ℕ) → n ≤ max_estimate → m ≤ max_estimate → Near (absolute (sub binary64 (to_ms n) (to_ms m))) 1000000 (apart n m) 86402000 slack_apart
near_apart n m p q = near_distance (to_ms n) (to_ms m) 1000000 n m 86402000 slack_ms slack_ms (ms_unsigned n p) (ms_unsigned m q) (lit≤ tt) (near_ms n p) (near_ms m q)

-- ---- in other fractions, and with more room
pub near_scale : (x : Float) (c k n M s : ℕ) → Near x k n M s → Near x (k * c) (c * n) M (c * s)
near_scale x c k n M s X =
    record {
      units = X.units;
      is = X.is;
      most = X.most;
      above = up X.units k n c (2 ^ 1074) (2 ^ 53) s X.above;
      below = dn X.units k n c (2 ^ 1074) (2 ^ 53) s X.below;
    }
  where
    up : (u k n c L P s : ℕ) → u * k * P ≤ n * L * P + s → u * (k * c) * P ≤ c * n * L * P + c * s
    up u k n c L P s p = let q : u * k * P * c ≤ (n * L * P + s) * c = mul-le-mul_right c p in omega arith

    dn : (u k n c L P s : ℕ) → n * L * P ≤ u * k * P + s → c * n * L * P ≤ u * (k * c) * P + c * s
    dn u k n c L P s p = let q : n * L * P * c ≤ (u * k * P + s) * c = mul-le-mul_right c p in omega arith

pub near_weaken : (x : Float) (k n M N s t : ℕ) → M ≤ N → s ≤ t → Near x k n M s → Near x k n N t
near_weaken x k n M N s t h l X =
    record {
      units = X.units;
      is = X.is;
      most = le_trans X.most (mul-le-mul_right (2 ^ 1074) h);
      above = le_trans X.above (add-le-add (le_refl (n * 2 ^ 1074 * 2 ^ 53)) l);
      below = le_trans X.below (add-le-add (le_refl (X.units * k * 2 ^ 53)) l);
    }

-- ---- a weighted sum with any weight up to 1: c units of 2 ^ -1074 are w, and 1 - w is rounded too
pub near_shift : (x : Float) (k n n' M s d : ℕ) → n * 2 ^ 1074 * 2 ^ 53 ≤ n' * 2 ^ 1074 * 2 ^ 53 + d → n' * 2 ^ 1074 * 2 ^ 53 ≤ n * 2 ^ 1074 * 2 ^ 53 + d → Near x k n M s → Near x k n' M (s + d)
near_shift x k n n' M s d p q X =
    record {
      units = X.units;
      is = X.is;
      most = X.most;
      above = far_up (X.units * k * 2 ^ 53) (n * 2 ^ 1074 * 2 ^ 53) (n' * 2 ^ 1074 * 2 ^ 53) X.above p;
      below = far_dn (X.units * k * 2 ^ 53) (n * 2 ^ 1074 * 2 ^ 53) (n' * 2 ^ 1074 * 2 ^ 53) X.below q;
    }
  where
    far_up : (u a b : ℕ) → u ≤ a + s → a ≤ b + d → u ≤ b + (s + d)
    far_up u a b p q = omega arith

    far_dn : (u a b : ℕ) → a ≤ u + s → b ≤ a + d → b ≤ u + (s + d)
    far_dn u a b p q = omega arith

-- g is a weight A of L, rounded; what it does to n, which is at most N
module _ (g A n N L P h : ℕ) (a : A ≤ L) (b : n ≤ N) where
  room : (A + h) * (n * L) ≤ (L + h) * (N * L)
  room = mul-le-mul (add-le-add a (le_refl h)) (mul-le-mul_right L b)

  weight_up : g * 1 * P ≤ A * (P + 1) + 1 * h → g * n * L * P ≤ A * n * L * P + (L + h) * (N * L)
  weight_up p = let x : g * 1 * P * (n * L) ≤ (A * (P + 1) + 1 * h) * (n * L) = mul-le-mul_right (n * L) p in let y = room in omega arith

  weight_down : A * P ≤ g * 1 * P + A + 1 * h → A * n * L * P ≤ g * n * L * P + (L + h) * (N * L)
  weight_down p = let x : A * P * (n * L) ≤ (g * 1 * P + A + 1 * h) * (n * L) = mul-le-mul_right (n * L) p in let y = room in omega arith

abbrev pub slack_share : ℕ → ℕ → ℕ → ℕ
slack_share s M k = 2 ^ 1074 * s + (2 ^ 1074 * (M * 2 ^ 1074) + 2 ^ 1074 * 2 ^ 52) * k

pub near_weighted_any : (w x y : Float) (c k n m M N s t : ℕ) → Is w c → c ≤ 2 ^ 1074 → n ≤ N → 1 * M + 1 * M ≤ 2 ^ 53 → Near x k n M s → Near y k m M t
    → Near (weighted w x y) (k * 2 ^ 1074) ((2 ^ 1074 - c) * n + c * m) (1 * M + 1 * M) (slack_share s M k + (2 ^ 1074 + 2 ^ 52) * (N * 2 ^ 1074) + slack_share t M k + ((1 * M + 1 * M) * 2 ^ 1074 + 2 ^ 52) * (k * 2 ^ 1074))
near_weighted_any w x y c k n m M N s t iw lw b H X Y =
    let L = 2 ^ 1074 in
    let q : 1 * M ≤ 2 ^ 53 = le_trans (half M) H in
    let S = sub_units 1 (pos 0) w L c refl iw lw (lit≤ tt) in
    let g = S.units in
    let lg : g ≤ 1 * L = S.whole 1 (lit≤ tt) (le_trans (sub-le L c) (lit≤ tt)) in
    let gl : g ≤ L = le_trans lg (lit≤ tt) in
    near_add (mul binary64 (sub binary64 one64 w) x) (mul binary64 w y) (k * L) ((L - c) * n) (c * m) (1 * M) (1 * M) (slack_share s M k + (L + 2 ^ 52) * (N * L)) (slack_share t M k) H
    (near_shift (mul binary64 (sub binary64 one64 w) x) (k * L) (g * n) ((L - c) * n) (1 * M) (slack_share s M k) ((L + 2 ^ 52) * (N * L))
    (weight_up g (L - c) n N L (2 ^ 53) (2 ^ 52) (sub-le L c) b S.upper) (weight_down g (L - c) n N L (2 ^ 53) (2 ^ 52) (sub-le L c) b S.lower)
    (near_weaken (mul binary64 (sub binary64 one64 w) x) (k * L) (g * n) (1 * M) (1 * M) (g * s + (g * (M * L) + L * 2 ^ 52) * k) (slack_share s M k) (le_refl (1 * M)) (most_slack g s M L gl)
    (near_mul (sub binary64 one64 w) x g L g 1 k n M s S.is refl lg q X)))
    (near_weaken (mul binary64 w y) (k * L) (c * m) (1 * M) (1 * M) (c * t + (c * (M * L) + L * 2 ^ 52) * k) (slack_share t M k) (le_refl (1 * M)) (most_slack c t M L lw)
    (near_mul w y c L c 1 k m M t iw refl (le_trans lw (lit≤ tt)) q Y))
  where
    half : (M : ℕ) → 1 * M ≤ 1 * M + 1 * M
    half M = omega arith

    most_slack : (g s M L : ℕ) → g ≤ L → g * s + (g * (M * L) + L * 2 ^ 52) * k ≤ L * s + (L * (M * L) + L * 2 ^ 52) * k
    most_slack g s M L h = add-le-add (mul-le-mul_right s h) (mul-le-mul_right k (add-le-add (mul-le-mul_right (M * L) h) (le_refl (L * 2 ^ 52))))

-- ---- the larger of two
max_elim : (C : ℕ → Type 0) (m n : ℕ) → C m → C n → C (max m n)
max_elim C m n p q = go (leb m n) (leb→le m n) (nleb→lt m n)
  where
    go : (t : Bool) → (T t → m ≤ n) → (T (not t) → n < m) → C (max m n)
    go true h k = subst C (sym (max-eq_right (h tt))) q
    go false h k = subst C (sym (max-eq_left (le_of_lt (k tt)))) p

most_of : (u v z k L P s : ℕ) → v ≤ z → u * k * P ≤ v * L * P + s → u * k * P ≤ z * L * P + s
most_of u v z k L P s h p = let x : v * (L * P) ≤ z * (L * P) = mul-le-mul_right (L * P) h in omega arith

least_of : (u v n k L P s : ℕ) → u ≤ v → n * L * P ≤ u * k * P + s → n * L * P ≤ v * k * P + s
least_of u v n k L P s h p = let x : u * (k * P) ≤ v * (k * P) = mul-le-mul_right (k * P) h in omega arith

pub near_larger : (x y : Float) (k n m M s : ℕ) → Near x k n M s → Near y k m M s → Near (larger x y) k (max m n) M s
near_larger x y k n m M s X Y = go (lt x y) (lt_units x y X.units Y.units X.is Y.is) (not_lt_units x y X.units Y.units X.is Y.is)
  where
    left : (m n : ℕ) → m ≤ max m n
    left m n = omega arith

    right : (m n : ℕ) → n ≤ max m n
    right m n = omega arith

    go : (t : Bool) → (T t → X.units ≤ Y.units) → (T (not t) → Y.units ≤ X.units) → Near (cond t y x) k (max m n) M s
    go true h l =
        let L = 2 ^ 1074 in
        let P = 2 ^ 53 in
        record {
          units = Y.units;
          is = Y.is;
          most = Y.most;
          above = most_of Y.units m (max m n) k L P s (left m n) Y.above;
          below = max_elim (λ (z : ℕ). z * L * P ≤ Y.units * k * P + s) m n Y.below (least_of X.units Y.units n k L P s (h tt) X.below);
        }
    go false h l =
        let L = 2 ^ 1074 in
        let P = 2 ^ 53 in
        record {
          units = X.units;
          is = X.is;
          most = X.most;
          above = most_of X.units n (max m n) k L P s (right m n) X.above;
          below = max_elim (λ (z : ℕ). z * L * P ≤ X.units * k * P + s) m n (least_of Y.units X.units m k L P s (l tt) Y.below) X.below;
        }

-- ---- the way back: b times the nearest nanosecond is n, give or take e
module _ (c z b n e s L P : ℕ) (h : b * (L * P) + 2 * s < 2 * (e + 1) * (L * P)) (p : 0 < L * P) where
  back_up : c * L * 2 ≤ z * 1000000000 * 2 + L → z * (1000 * (1000000 * b)) * P ≤ n * L * P + s → b * c ≤ n + e
  back_up q r = le_of_suc-le-suc (lt_of_mul-lt-mul_right (2 * (L * P)) (let t : c * L * 2 * (P * b) ≤ (z * 1000000000 * 2 + L) * (P * b) = mul-le-mul_right (P * b) q in line t))
    where
      line : c * L * 2 * (P * b) ≤ (z * 1000000000 * 2 + L) * (P * b) → b * c * (2 * (L * P)) < suc (n + e) * (2 * (L * P))
      line t = omega arith

  back_down : z * 1000000000 * 2 ≤ c * L * 2 + L → n * L * P ≤ z * (1000 * (1000000 * b)) * P + s → n ≤ b * c + e
  back_down q r = le_of_suc-le-suc (lt_of_mul-lt-mul_right (2 * (L * P)) (let t : z * 1000000000 * 2 * (P * b) ≤ (c * L * 2 + L) * (P * b) = mul-le-mul_right (P * b) q in line t))
    where
      line : z * 1000000000 * 2 * (P * b) ≤ (c * L * 2 + L) * (P * b) → n * (2 * (L * P)) < suc (b * c + e) * (2 * (L * P))
      line t = omega arith

pub near_nanos : (x : Float) (b n e M s : ℕ) → M ≤ 2 ^ 53 → b * (2 ^ 1074 * 2 ^ 53) + 2 * (s + (M * 2 ^ 1074 + 1000 * 2 ^ 52) * (1000000 * b)) < 2 * (e + 1) * (2 ^ 1074 * 2 ^ 53)
    → Near x (1000000 * b) n M s → (b * from_ms x ≤ n + e) × (n ≤ b * from_ms x + e)
near_nanos x b n e M s H l X =
    let L = 2 ^ 1074 in
    let P = 2 ^ 53 in
    let t = s + (M * L + 1000 * 2 ^ 52) * (1000000 * b) in
    let N = near_div x thousand64 1000 (1000000 * b) n M s refl (lit< tt) H X in
    let z = N.units in
    let c = closest (z * 1000000000) L in
    rw (nanos_units (div binary64 x thousand64) z N.is) (back_up c z b n e t L P l (lit< tt) (closest_up (z * 1000000000) L) N.above, back_down c z b n e t L P l (lit< tt) (closest_down (z * 1000000000) L (pow_pos 1074)) N.below)
