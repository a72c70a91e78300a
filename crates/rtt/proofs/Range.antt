-- The range law: from durations of at most a day and a second the update gives durations of at most a day and a second.
use mathlib.Core.Path.{◌≡◌, refl, sym, ap, ◌∙◌}
use Prim.Native.Nat.{ℕ, suc, ◌+◌, ◌-◌, ◌*◌, ◌^◌, ◌≤◌, ◌<◌, zero-le}
use native.Mathlib.Nat.{le_trans, le_of_eq, le_of_lt, lt_of_lt_of_le, lt_of_le_of_lt, le_of_suc-le-suc, lt_of_mul-lt-mul_right, mul_right_comm, mul-one, mul-le-mul_right, mul-lt-mul_of_pos_right, mul-pos, sub-add_cancel, add-le-add, zero-mul}
use native.Mathlib.Omega.{arith}
use mathlib.Core.Bool.{Bool, true, false, cond, ◌&&◌}
use lib.IntN.{pos}
use lib.Dec.{T, eqb, lit≤, lit<, lt→ltb}
use lib.Pow.{pow_pos}
use lib.Ieee.{Float, nan, inf, fin, binary64, up, down, add, mul, div, le, lt, fits}
use lib.Ieee.Fits.{and_i, and_l, and_r, eq→eqb, down_pos}
use lib.Ieee.Order.{le_of_values}
use lib.Ieee.Scale.{finite}
use Rattle.bounds.specs.Bounds.{max_estimate, max_granularity}
use Rattle.float.specs.Roll.{chance_in_bounds}
use Rattle.float.proofs.Units.{Is, mul_units, add_units, div_units, units_of, le_units}
use Rattle.duration.specs.Duration.{secs_in_bounds}
use Rattle.rtt.specs.Rtt.{zero64, one64, sixteen64, thousand64, factor_in_bounds, to_ms, from_ms, weighted, distance, larger, rto_ms, next_srtt_ms, next_rttvar_ms, first_rttvar_ms, first_estimate, next_estimate}
use Rattle.rtt.proofs.Near.{Near, apart, times, far, slack_ms, slack_apart, near_ms, near_apart, near_weaken, near_weighted_any, near_nanos}
use Rattle.rtt.proofs.FirstSample.{near_half, same_sample, half_sample}

-- x is at most N
record UpTo (x : Float) (N : ℕ) : Type 0 where
  units : ℕ
  is : Is x units
  most : units ≤ N * 2 ^ 1074

near_up : (x : Float) (k n M s N : ℕ) → M ≤ N → Near x k n M s → UpTo x N
near_up x k n M s N h X = record { units = X.units; is = X.is; most = le_trans X.most (mul-le-mul_right (2 ^ 1074) h) }

mul_up : (x y : Float) (N M : ℕ) → N * M ≤ 2 ^ 53 → UpTo x N → UpTo y M → UpTo (mul binary64 x y) (N * M)
mul_up x y N M h a b =
    let r = mul_units x y a.units b.units a.is b.is (far a.units b.units N M (le_trans h (lit≤ tt)) a.most b.most) in
    record { units = r.units; is = r.is; most = r.whole (N * M) h (times a.units b.units N M (2 ^ 1074) a.most b.most) }

add_up : (x y : Float) (N M : ℕ) → N + M ≤ 2 ^ 53 → UpTo x N → UpTo y M → UpTo (add binary64 x y) (N + M)
add_up x y N M h a b =
    let m : a.units + b.units ≤ (N + M) * 2 ^ 1074 = le_trans (add-le-add a.most b.most) (le_of_eq (sum N M (2 ^ 1074))) in
    let r = add_units x y a.units b.units a.is b.is (le_trans m (le_trans (mul-le-mul_right (2 ^ 1074) h) (lit≤ tt))) in
    record { units = r.units; is = r.is; most = r.whole (N + M) h (le_trans m (le_of_eq (sym (mul-one ((N + M) * 2 ^ 1074))))) }
  where
    sum : (N M L : ℕ) → N * L + M * L ≡ (N + M) * L
    sum N M L = omega arith

larger_up : (x y : Float) (N : ℕ) → UpTo x N → UpTo y N → UpTo (larger x y) N
larger_up x y N a b = go (lt x y)
  where
    go : (t : Bool) → UpTo (cond t y x) N
    go true = b
    go false = a

-- a value from 0 to b is a number of units
finite_below : (b x : Float) (g : ℕ) → Is b g → T (le zero64 x) → T (le x b) → T (finite x)
unfolding le lt
finite_below b nan g i p q = absurd p
finite_below b (inf true) g i p q = absurd p
finite_below nan (inf false) g i p q = absurd i
finite_below (inf s) (inf false) g i p q = absurd i
finite_below (fin s m e) (inf false) g i p q = absurd q
finite_below b (fin s m e) g i p q = tt

between_up : (b x : Float) (N : ℕ) → Is b (N * 2 ^ 1074) → T (fits binary64 x) → T (le zero64 x && le x b) → UpTo x N
between_up b x N i t h =
    let p = and_l (le zero64 x) (le x b) h in
    let q = and_r (le zero64 x) (le x b) h in
    let U = units_of x t p (finite_below b x (N * 2 ^ 1074) i p q) in
    record { units = U.units; is = U.is; most = le_units x b U.units (N * 2 ^ 1074) U.is i q }

-- ---- a number of units below 2 ^ 34 is in the bounds of `from_secs_f64_unchecked`
units_range : (z : Float) (g : ℕ) → Is z g → g < 2 ^ 34 * 2 ^ 1074 → T (secs_in_bounds z)
units_range nan g v h = absurd v
units_range (inf s) g v h = absurd v
units_range (fin false m e) g v h =
    and_i (le zero64 (fin false m e)) (lt (fin false m e) (fin false 1 (pos 34)))
    (le_of_values zero64 (fin false m e) 0 1 (m * up e) (down e) (pow_pos 0) (down_pos e) (refl, refl) (refl, refl) (le_trans (le_of_eq (zero-mul (down e))) zero-le))
    (unfold lt in lt→ltb (m * up e * 1) (1 * 2 ^ 34 * down e)
    (lt_of_le_of_lt (le_of_eq (mul-one (m * up e)))
    (lt_of_mul-lt-mul_right (2 ^ 1074) (lt_of_le_of_lt (le_of_eq v) (lt_of_lt_of_le (mul-lt-mul_of_pos_right h (down_pos e)) (le_of_eq (mul_right_comm (2 ^ 34) (2 ^ 1074) (down e))))))))
units_range (fin true m e) g v h =
    and_i (le zero64 (fin true m e)) (lt (fin true m e) (fin false 1 (pos 34)))
    (unfold le in and_i (eqb (0 * 1 * down e) (m * up e * 1)) (eqb (0 * 1 * down e) 0) (eq→eqb (zero-mul (down e) ∙ sym (ap (λ (z : ℕ). z * 1) (ap (λ (z : ℕ). z * up e) v.0 ∙ zero-mul (up e))))) (eq→eqb (zero-mul (down e))))
    (unfold lt in lt→ltb 0 (m * up e * 1 + 1 * 2 ^ 34 * down e) (some (m * up e * 1) (1 * 2 ^ 34 * down e) (mul-pos (pow_pos 34) (down_pos e))))
  where
    some : (x y : ℕ) → 0 < y → 0 < x + y
    some x y h = omega arith

-- N ms, at most 2 ^ 43, are N / 1000 seconds
seconds_in : (x : Float) (N M : ℕ) → N ≤ M * 1000 → M < 2 ^ 34 → UpTo x N → T (secs_in_bounds (div binary64 x thousand64))
seconds_in x N M h l u =
    let L = 2 ^ 1074 in
    let m : u.units * L ≤ M * L * (1000 * L) = le_trans (mul-le-mul_right L u.most) (le_trans (mul-le-mul_right L (mul-le-mul_right L h)) (le_of_eq (regroup M L))) in
    let D = div_units x thousand64 u.units (1000 * L) u.is refl (lit< tt) (le_trans m (le_trans (mul-le-mul_right (1000 * L) (mul-le-mul_right L (le_of_lt l))) (lit≤ tt))) in
    units_range (div binary64 x thousand64) D.units D.is
    (lt_of_le_of_lt (D.whole M (le_trans (le_of_lt l) (lit≤ tt)) m) (mul-lt-mul_of_pos_right l (pow_pos 1074)))
  where
    regroup : (M L : ℕ) → M * 1000 * L * L ≡ M * L * (1000 * L)
    regroup M L = omega arith

-- ---- a weighted sum of values of at most a day and a second
shares : (q c L n m N z : ℕ) → q + c ≡ L → 0 < L → n ≤ N → m ≤ N → L * z ≤ q * n + c * m + (L - 1) → z ≤ N
shares q c L n m N z e p hn hm h =
    le_of_suc-le-suc
    (lt_of_mul-lt-mul_right L
    (let a : n * q ≤ N * q = mul-le-mul_right q hn in
    let b : m * c ≤ N * c = mul-le-mul_right c hm in
    let d : (q + c) * N ≡ L * N = ap (λ (y : ℕ). y * N) e in
    line a b d))
  where
    line : n * q ≤ N * q → m * c ≤ N * c → (q + c) * N ≡ L * N → z * L < suc N * L
    line a b d = omega arith

record Mean (x : Float) : Type 0 where
  upto : UpTo x 172804000
  most : from_ms x ≤ max_estimate

mean_of : (w x y : Float) (n m : ℕ) → T (fits binary64 w) → T (chance_in_bounds w) → n ≤ max_estimate → m ≤ max_estimate → Near x 1000000 n 86402000 slack_apart → Near y 1000000 m 86402000 slack_apart → Mean (weighted w x y)
mean_of w x y n m t h hn hm X Y =
    let L = 2 ^ 1074 in
    let U = between_up one64 w 1 refl t h in
    let c = U.units in
    let l : c ≤ L = le_trans U.most (lit≤ tt) in
    let Z = near_weighted_any w x y c 1000000 n m 86402000 max_estimate slack_apart slack_apart U.is l hn (lit≤ tt) X Y in
    record {
      upto = near_up (weighted w x y) _ _ _ _ 172804000 (lit≤ tt) Z;
      most = shares (L - c) c L n m max_estimate (from_ms (weighted w x y)) (sub-add_cancel l) (pow_pos 1074) hn hm (near_nanos (weighted w x y) L ((L - c) * n + c * m) (L - 1) 172804000 _ (lit≤ tt) (lit< tt) Z).0;
    }

ms_apart : (ns : ℕ) → ns ≤ max_estimate → Near (to_ms ns) 1000000 ns 86402000 slack_apart
ms_apart ns h = near_weaken (to_ms ns) 1000000 ns 86402000 86402000 slack_ms slack_apart (lit≤ tt) (lit≤ tt) (near_ms ns h)

-- ---- the estimates
module _ (k multiplier : Float) (g sample : ℕ) (h : sample ≤ max_estimate) where
  pub first_srtt_range : (first_estimate k multiplier g sample).srtt ≤ max_estimate
  unfolding first_estimate
  first_srtt_range = le_trans (le_of_eq (same_sample sample h)) h

  pub first_rttvar_range : (first_estimate k multiplier g sample).rttvar ≤ max_estimate
  unfolding first_estimate
  first_rttvar_range = half (from_ms (first_rttvar_ms sample)) sample max_estimate (half_sample sample h).1 h
    where
      half : (c r N : ℕ) → 2 * c ≤ r + 1 → r ≤ N → c ≤ N
      half c r N p q = omega arith

module _ (alpha beta : Float) (ta : T (fits binary64 alpha)) (tb : T (fits binary64 beta)) (ha : T (chance_in_bounds alpha)) (hb : T (chance_in_bounds beta)) (srtt rttvar sample : ℕ) (hs : srtt ≤ max_estimate) (hv : rttvar ≤ max_estimate) (hp : sample ≤ max_estimate) where
  next_srtt : Mean (next_srtt_ms alpha srtt sample)
  next_srtt = mean_of alpha (to_ms srtt) (to_ms sample) srtt sample ta ha hs hp (ms_apart srtt hs) (ms_apart sample hp)

  next_rttvar : Mean (next_rttvar_ms beta rttvar srtt sample)
  next_rttvar = mean_of beta (to_ms rttvar) (distance (to_ms srtt) (to_ms sample)) rttvar (apart srtt sample) tb hb hv (apart_le srtt sample max_estimate hs hp) (ms_apart rttvar hv) (near_apart srtt sample hs hp)
    where
      apart_le : (x y N : ℕ) → x ≤ N → y ≤ N → apart x y ≤ N
      apart_le x y N p q = omega arith

  module _ (k multiplier : Float) (g : ℕ) where
    pub next_srtt_range : (next_estimate alpha beta k multiplier g srtt rttvar sample).srtt ≤ max_estimate
    unfolding next_estimate
    next_srtt_range = next_srtt.most

    pub next_rttvar_range : (next_estimate alpha beta k multiplier g srtt rttvar sample).rttvar ≤ max_estimate
    unfolding next_estimate
    next_rttvar_range = next_rttvar.most

-- each value that is rounded back to nanoseconds is in bounds
pub record Fits (k multiplier : Float) (g : ℕ) (s v : Float) : Type 0 where
  pub srtt : T (secs_in_bounds (div binary64 s thousand64))
  pub rttvar : T (secs_in_bounds (div binary64 v thousand64))
  pub rto : T (secs_in_bounds (div binary64 (mul binary64 (rto_ms k g s v) multiplier) thousand64))

module _ (k multiplier : Float) (g : ℕ) (tk : T (fits binary64 k)) (tm : T (fits binary64 multiplier)) (hk : T (factor_in_bounds k)) (hm : T (factor_in_bounds multiplier)) (hg : g ≤ max_granularity) where
  rto_up : (s v : Float) → UpTo s 172804000 → UpTo v 172804000 → UpTo (mul binary64 (rto_ms k g s v) multiplier) 47002688000
  rto_up s v a b =
      mul_up (rto_ms k g s v) multiplier 2937668000 16 (lit≤ tt)
      (add_up s (larger (mul binary64 k v) (to_ms g)) 172804000 2764864000 (lit≤ tt) a
      (larger_up (mul binary64 k v) (to_ms g) 2764864000 (mul_up k v 16 172804000 (lit≤ tt) (between_up sixteen64 k 16 refl tk hk) b)
      (near_up (to_ms g) _ _ _ _ 2764864000 (lit≤ tt) (near_ms g (le_trans hg (lit≤ tt))))))
      (between_up sixteen64 multiplier 16 refl tm hm)

  fits_of : (s v : Float) → UpTo s 172804000 → UpTo v 172804000 → Fits k multiplier g s v
  fits_of s v a b =
      record {
        srtt = seconds_in s 172804000 172804 (lit≤ tt) (lit< tt) a;
        rttvar = seconds_in v 172804000 172804 (lit≤ tt) (lit< tt) b;
        rto = seconds_in (mul binary64 (rto_ms k g s v) multiplier) 47002688000 47002688 (lit≤ tt) (lit< tt) (rto_up s v a b);
      }

  pub first_fits : (sample : ℕ) → sample ≤ max_estimate → Fits k multiplier g (to_ms sample) (first_rttvar_ms sample)
  first_fits sample h = fits_of (to_ms sample) (first_rttvar_ms sample) (near_up (to_ms sample) _ _ _ _ 172804000 (lit≤ tt) (near_ms sample h)) (near_up (first_rttvar_ms sample) _ _ _ _ 172804000 (lit≤ tt) (near_half sample h))

  pub next_fits : (alpha beta : Float) → T (fits binary64 alpha) → T (fits binary64 beta) → T (chance_in_bounds alpha) → T (chance_in_bounds beta) → (srtt rttvar sample : ℕ) → srtt ≤ max_estimate → rttvar ≤ max_estimate → sample ≤ max_estimate
      → Fits k multiplier g (next_srtt_ms alpha srtt sample) (next_rttvar_ms beta rttvar srtt sample)
  next_fits alpha beta ta tb ha hb srtt rttvar sample hs hv hp =
      fits_of (next_srtt_ms alpha srtt sample) (next_rttvar_ms beta rttvar srtt sample) (next_srtt alpha beta ta tb ha hb srtt rttvar sample hs hv hp).upto (next_rttvar alpha beta ta tb ha hb srtt rttvar sample hs hv hp).upto
