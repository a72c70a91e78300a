-- A duration of at most a day and a second, as a double of seconds, rounds to itself. Both error bounds of `Rounded` are used.

use Rattle.std.proofs.Common.{◌≡◌, ℕ, suc, ◌+◌, ◌*◌, ◌/◌, ◌%◌, ◌^◌, ◌<◌, ◌≤◌, pos, ap, ◌∙◌, subst, le_trans, le_of_eq, le_refl, le_of_suc-le-suc, le_of_lt, add-le-add, mul-le-mul_right, mod-lt, le_antisymm, lt_of_mul-lt-mul_right, div-add-mod', mul_right_comm, le_of_mul-le-mul_right, arith, lit<, lit≤, pow_pos}
use lib.Ieee.{Float, binary64, div, of_int}
use lib.Ieee.Nearest.{closest, closest_same}
use lib.Ieee.Positive.{num, den, den_pos}
use Rattle.float.proofs.Error.{closest_up, closest_down}
use Rattle.float.proofs.Units.{Is, frac, of_whole, add_units, div_units}
use Rattle.duration.specs.Duration.{as_secs_f64, from_secs_f64}

-- what is less than a half from n rounds to n
pub closest_is : (a b n : ℕ) → 0 < b → a * 2 < n * b * 2 + b → n * b * 2 < a * 2 + b → closest a b ≡ n
closest_is a b n B p q =
    let c = closest a b in
    let u = closest_up a b in
    let d = closest_down a b B in
    le_antisymm (le_of_suc-le-suc (lt_of_mul-lt-mul_right (b * 2) (above c a b n u p))) (le_of_suc-le-suc (lt_of_mul-lt-mul_right (b * 2) (below c a b n d q)))
  where
    above : (c a b n : ℕ) → c * b * 2 ≤ a * 2 + b → a * 2 < n * b * 2 + b → c * (b * 2) < suc n * (b * 2)
    above c a b n u p = omega arith

    below : (c a b n : ℕ) → a * 2 ≤ c * b * 2 + b → n * b * 2 < a * 2 + b → n * (b * 2) < suc c * (b * 2)
    below c a b n u p = omega arith

pub nanos_units : (x : Float) (g : ℕ) → Is x g → from_secs_f64 x ≡ closest (g * 1000000000) (2 ^ 1074)
nanos_units x g v =
    closest_same (num x * 1000000000) (den x) (g * 1000000000) (2 ^ 1074) (den_pos x) (pow_pos 1074)
    (mul_right_comm (num x) 1000000000 (2 ^ 1074) ∙ ap (λ (z : ℕ). z * 1000000000) (frac x g v) ∙ mul_right_comm g (den x) 1000000000)

-- ---- with 2 ^ 53 as P, 2 ^ 52 as h, 2 ^ 1074 as L, and k for 10 ^ 9: w whole seconds and p of the k parts of one
module _ (k w p d g L P h : ℕ) where
  high : d * k * P ≤ p * L * (P + 1) + k * h → g * 1 * P ≤ (w * L + d) * (P + 1) + 1 * h → g * k * P ≤ (w * k + p) * L * P + (p * L + (w * L + d) * k + 2 * k * h)
  high a b = let x : g * 1 * P * k ≤ ((w * L + d) * (P + 1) + 1 * h) * k = mul-le-mul_right k b in omega arith

  low : p * L * P ≤ d * k * P + p * L + k * h → (w * L + d) * P ≤ g * 1 * P + (w * L + d) + 1 * h → (w * k + p) * L * P ≤ g * k * P + (p * L + (w * L + d) * k + 2 * k * h)
  low a b = let x : (w * L + d) * P * k ≤ (g * 1 * P + (w * L + d) + 1 * h) * k = mul-le-mul_right k b in omega arith

-- the quotient's bounds, with L taken off
cut_up : (d k p L P h : ℕ) → 0 < L → d * (k * L) * P ≤ p * L * L * (P + 1) + k * L * h → d * k * P ≤ p * L * (P + 1) + k * h
cut_up d k p L P h l u = le_of_mul-le-mul_right (line d k p L P h u) l
  where
    line : (d k p L P h : ℕ) → d * (k * L) * P ≤ p * L * L * (P + 1) + k * L * h → d * k * P * L ≤ (p * L * (P + 1) + k * h) * L
    line d k p L P h u = omega arith

cut_down : (d k p L P h : ℕ) → 0 < L → p * L * L * P ≤ d * (k * L) * P + p * L * L + k * L * h → p * L * P ≤ d * k * P + p * L + k * h
cut_down d k p L P h l u = le_of_mul-le-mul_right (line d k p L P h u) l
  where
    line : (d k p L P h : ℕ) → p * L * L * P ≤ d * (k * L) * P + p * L * L + k * L * h → p * L * P * L ≤ (d * k * P + p * L + k * h) * L
    line d k p L P h u = omega arith

-- a * P is n * P give or take s, and 2 * s is below b * P
pub close : (a n b P s : ℕ) → a * P ≤ n * P + s → s * 2 < b * P → a * 2 < n * 2 + b
close a n b P s p q = lt_of_mul-lt-mul_right P (line a n b P s p q)
  where
    line : (a n b P s : ℕ) → a * P ≤ n * P + s → s * 2 < b * P → a * 2 * P < (n * 2 + b) * P
    line a n b P s p q = omega arith

-- how far the double is from ns nanoseconds, 2 ^ 53 times over
abbrev pub slack : ℕ
slack = 1000000000 * 2 ^ 1074 + (86401 * 2 ^ 1074 + 1 * 2 ^ 1074) * 1000000000 + 2 * 1000000000 * 2 ^ 52

pub record Near (ns : ℕ) : Type 0 where
  pub units : ℕ
  pub is : Is (as_secs_f64 ns) units
  pub most : units ≤ 86402 * 2 ^ 1074
  pub above : units * 1000000000 * 2 ^ 53 ≤ ns * 2 ^ 1074 * 2 ^ 53 + slack
  pub below : ns * 2 ^ 1074 * 2 ^ 53 ≤ units * 1000000000 * 2 ^ 53 + slack

pub near : (ns : ℕ) → ns ≤ 86401000000000 → Near ns
near ns H =
    let k : ℕ = 1000000000 in
    let w = ns / k in
    let p = ns % k in
    let L = 2 ^ 1074 in
    let P = 2 ^ 53 in
    let h = 2 ^ 52 in
    let e : w * k + p ≡ ns = div-add-mod' ns k in
    let pk : p ≤ k = le_of_lt (mod-lt ns (lit< tt)) in
    let wk : w ≤ 86401 = whole w p (le_trans (le_of_eq e) H) in
    let D = div_units (of_int binary64 (pos p)) (of_int binary64 (pos k)) (p * L) (k * L) (of_whole p (le_trans pk (lit≤ tt))) (of_whole k (lit≤ tt)) (lit< tt)
    (le_trans (mul-le-mul_right L (mul-le-mul_right L pk)) (lit≤ tt)) in
    let d = D.units in
    let dl : d ≤ 1 * L = D.whole 1 (lit≤ tt) (le_trans (mul-le-mul_right L (mul-le-mul_right L pk)) (lit≤ tt)) in
    let v : w * L + d ≤ 86401 * L + 1 * L = add-le-add (mul-le-mul_right L wk) dl in
    let A = add_units (of_int binary64 (pos w)) (div binary64 (of_int binary64 (pos p)) (of_int binary64 (pos k))) (w * L) d (of_whole w (le_trans wk (lit≤ tt))) D.is (le_trans v (lit≤ tt)) in
    let g = A.units in
    let s = p * L + (w * L + d) * k + 2 * k * h in
    let small : s ≤ slack = add-le-add (add-le-add (mul-le-mul_right L pk) (mul-le-mul_right k v)) (le_refl (2 * k * h)) in
    let up = high k w p d g L P h (cut_up d k p L P h (pow_pos 1074) D.upper) A.upper in
    let dn = low k w p d g L P h (cut_down d k p L P h (pow_pos 1074) D.lower) A.lower in
    record {
      units = g;
      is = A.is;
      most = A.whole 86402 (lit≤ tt) (le_trans v (lit≤ tt));
      above = subst (λ (n : ℕ). g * k * P ≤ n * L * P + slack) e (le_trans up (add-le-add (le_refl ((w * k + p) * L * P)) small));
      below = subst (λ (n : ℕ). n * L * P ≤ g * k * P + slack) e (le_trans dn (add-le-add (le_refl (g * k * P)) small));
    }
  where
    whole : (w p : ℕ) → w * 1000000000 + p ≤ 86401000000000 → w ≤ 86401
    whole w p h = omega arith

pub round_trip : (ns : ℕ) → ns ≤ 86401000000000 → from_secs_f64 (as_secs_f64 ns) ≡ ns
round_trip ns H =
    let n = near ns H in
    nanos_units (as_secs_f64 ns) n.units n.is
    ∙ closest_is (n.units * 1000000000) (2 ^ 1074) ns (pow_pos 1074) (close (n.units * 1000000000) (ns * 2 ^ 1074) (2 ^ 1074) (2 ^ 53) slack n.above (lit< tt))
    (close (ns * 2 ^ 1074) (n.units * 1000000000) (2 ^ 1074) (2 ^ 53) slack n.below (lit< tt))
