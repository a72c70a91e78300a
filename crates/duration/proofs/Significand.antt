-- The significand of a double of 2 ^ -31 to 2 ^ 21 seconds, times 10 ^ 9 and rounded, in 64 bits.
use Rattle.std.proofs.Common.{◌≡◌, ℕ, suc, ◌+◌, ◌-◌, ◌*◌, ◌/◌, ◌%◌, ◌^◌, ◌<◌, ◌≤◌, true, false, not, T, ℤ, pos, negsuc, sym, refl, ap, ◌∙◌, subst, ap₂, le_trans, le_of_eq, lt_of_lt_of_le, le_of_suc-le-suc, le-add_right, lt_of_le_of_lt, mul-le-mul_right, mod-lt, zero-lt-suc, mul_assoc, mul_comm, add_comm, lt_of_mul-lt-mul_right, mul-lt-mul_of_pos_right, mul-pos, one-mul, lt_of_not-le, div-add-mod', zero-mul, mul_right_comm, not-le_of_lt, arith, lit<, lit≤, ltb→lt, lt→ltb, T_not, pow_pos, pow_mono, pow-add, shl_exact, shr_lt}
use Prim.Native.Nat.{compare, Ordering}
use native.Mathlib.Nat.{eq_of_mul-eq-mul_right, pow-succ'}
use lib.Ieee.{nearest, Float, nan, inf, fin, binary64, up, down, to_bits, fits, le, lt, is_nan}
use lib.Ieee.Fits.{down_pos, and_l, and_r}
use lib.Ieee.Order.{le_of_values}
use lib.Ieee.Positive.{num, den, above, above_of_le, le→cross}
use lib.Ieee.Nearest.{closest, closest_same}
use Rattle.float.proofs.Sticky.{sticky, closest_sticky, closest_none, closest_of}
use Rattle.float.proofs.Error.{closest_up}
use Rattle.float.proofs.Below.{minus_zero}
use Rattle.duration.specs.Duration.{below21, from21, from_secs_f64}
use Rattle.float.proofs.Fields.{read}

-- ---- d * 5 ^ 9 in units of 2 ^ 22, and what is left
abbrev pub parts : ℕ → ℕ
parts d = d / 4194304 * 1953125 + d % 4194304 * 1953125 / 4194304

abbrev pub rest : ℕ → ℕ
rest d = d % 4194304 * 1953125 % 4194304

whole : (d : ℕ) → d * 1953125 ≡ parts d * 4194304 + rest d
whole d = omega arith

-- X / D is d / (K * 2 ^ 32)
pub nanos_significand : (X D d K : ℕ) → 0 < D → 0 < K → X * (K * 4294967296) ≡ d * D → closest (X * 1000000000) D ≡ closest (2 * parts d + sticky (rest d)) (2 * (2 * K))
nanos_significand X D d K p k e =
    closest_same (X * 1000000000) D (d * 1953125) (2 * K * 4194304) p (mul-pos (mul-pos (zero-lt-suc 1) k) (pow_pos 22)) (scaled X K d D e)
    ∙ ap (λ (z : ℕ). closest z (2 * K * 4194304)) (whole d)
    ∙ closest_sticky (parts d) (rest d) 4194304 K (mod-lt (d % 4194304 * 1953125) (pow_pos 22)) k
  where
    scaled : (X K d D : ℕ) → X * (K * 4294967296) ≡ d * D → X * 1000000000 * (2 * K * 4194304) ≡ d * 1953125 * D
    scaled X K d D e = let f : X * (K * 4294967296) * 1953125 ≡ d * D * 1953125 = ap (λ (z : ℕ). z * 1953125) e in omega arith

-- ---- where the exponent lies
exp_lt : (a b : ℕ) → 2 ^ a < 2 ^ b → a < b
exp_lt a b h = lt_of_not-le (λ (g : b ≤ a). not-le_of_lt h (pow_mono g))

module _ (X D d x : ℕ) (v : X * 2 ^ 1074 ≡ d * 2 ^ x * D) (P : 0 < D) where
  high : (k : ℕ) → 2 ^ 52 ≤ d → X < 2 ^ k * D → 52 + x < k + 1074
  high k a h =
      exp_lt (52 + x) (k + 1074)
      (lt_of_mul-lt-mul_right D
      (lt_of_le_of_lt (mul-le-mul_right D (le_trans (le_of_eq (pow-add 2 52 x)) (mul-le-mul_right (2 ^ x) a)))
      (lt_of_le_of_lt (le_of_eq (sym v))
      (lt_of_lt_of_le (mul-lt-mul_of_pos_right h (pow_pos 1074)) (le_of_eq (mul_right_comm (2 ^ k) D (2 ^ 1074) ∙ ap (λ (z : ℕ). z * D) (sym (pow-add 2 k 1074))))))))

  low : d < 2 ^ 53 → D ≤ X * 2 ^ 31 → 991 ≤ x
  low a h =
      fit x (exp_lt 1043 (53 + x)
      (lt_of_mul-lt-mul_right D
      (lt_of_le_of_lt (le_of_eq (mul_comm (2 ^ 1043) D))
      (lt_of_le_of_lt (mul-le-mul_right (2 ^ 1043) h)
      (lt_of_le_of_lt (le_of_eq (mul_assoc X (2 ^ 31) (2 ^ 1043) ∙ v)) most)))))
    where
      most : d * 2 ^ x * D < 2 ^ (53 + x) * D
      most = lt_of_lt_of_le (mul-lt-mul_of_pos_right (mul-lt-mul_of_pos_right a (pow_pos x)) P) (le_of_eq (ap (λ (z : ℕ). z * D) (sym (pow-add 2 53 x))))

      fit : (x : ℕ) → 1043 < 53 + x → 991 ≤ x
      fit x h = omega arith

  -- from 2 ^ 21 on
  low_21 : d < 2 ^ 53 → 2 ^ 21 * D ≤ X → 1043 ≤ x
  low_21 a h =
      fit x (exp_lt (21 + 1074) (53 + x)
      (lt_of_mul-lt-mul_right D
      (lt_of_le_of_lt (le_of_eq (ap (λ (z : ℕ). z * D) (pow-add 2 21 1074) ∙ mul_right_comm (2 ^ 21) (2 ^ 1074) D))
      (lt_of_le_of_lt (mul-le-mul_right (2 ^ 1074) h)
      (lt_of_le_of_lt (le_of_eq v) most)))))
    where
      most : d * 2 ^ x * D < 2 ^ (53 + x) * D
      most = lt_of_lt_of_le (mul-lt-mul_of_pos_right (mul-lt-mul_of_pos_right a (pow_pos x)) P) (le_of_eq (ap (λ (z : ℕ). z * D) (sym (pow-add 2 53 x))))

      fit : (x : ℕ) → 21 + 1074 < 53 + x → 1043 ≤ x
      fit x h = omega arith

  -- the power in common taken off, where none of it is left over
  lower_21 : x ≤ 1074 → X * 2 ^ (1074 - x) ≡ d * D
  lower_21 h =
      eq_of_mul-eq-mul_right (2 ^ x) (pow_pos x) (X * 2 ^ (1074 - x)) (d * D)
      (mul_assoc X (2 ^ (1074 - x)) (2 ^ x)
      ∙ ap (λ (z : ℕ). X * z) (sym (pow-add 2 (1074 - x) x) ∙ ap (λ (z : ℕ). 2 ^ z) (sum x h))
      ∙ v ∙ mul_right_comm d (2 ^ x) D)
    where
      sum : (x : ℕ) → x ≤ 1074 → 1074 - x + x ≡ 1074
      sum x h = omega arith

  -- the power in common taken off
  lower : x ≤ 1042 → X * (2 ^ (1042 - x) * 4294967296) ≡ d * D
  lower h =
      eq_of_mul-eq-mul_right (2 ^ x) (pow_pos x) (X * (2 ^ (1042 - x) * 4294967296)) (d * D)
      (mul_assoc X (2 ^ (1042 - x) * 4294967296) (2 ^ x)
      ∙ ap (λ (z : ℕ). X * z) (ap (λ (z : ℕ). z * 2 ^ x) (sym (pow-add 2 (1042 - x) 32)) ∙ sym (pow-add 2 (1042 - x + 32) x) ∙ ap (λ (z : ℕ). 2 ^ z) (sum x h))
      ∙ v ∙ mul_right_comm d (2 ^ x) D)
    where
      sum : (x : ℕ) → x ≤ 1042 → 1042 - x + 32 + x ≡ 1074
      sum x h = omega arith

-- ---- for the bits that the program reads
pub record Significand (X D b : ℕ) : Type 0 where
  pub least : 992 ≤ b / 4503599627370496
  pub most : b / 4503599627370496 ≤ 1043
  pub nanos : closest (X * 1000000000) D ≡ closest (2 * parts (b % 4503599627370496 + 4503599627370496) + sticky (rest (b % 4503599627370496 + 4503599627370496))) (2 ^ (1045 - b / 4503599627370496))

pub significand : (m : ℕ) (e : ℤ) → T (fits binary64 (fin false m e)) → down e ≤ m * up e * 2 ^ 31 → m * up e < 2 ^ 21 * down e → Significand (m * up e) (down e) (to_bits binary64 (fin false m e))
significand m e t lo hi =
    let X = m * up e in
    let D = down e in
    let b = to_bits binary64 (fin false m e) in
    let r = read m e t (le_trans (mul-le-mul_right D (lit≤ tt)) (normal X D lo)) in
    let E = b / 2 ^ 52 in
    let d = 2 ^ 52 + b % 2 ^ 52 in
    let x = r.x in
    let top : x ≤ 1042 = fit x (high X D d x r.value (down_pos e) 21 (le-add_right (2 ^ 52) (b % 2 ^ 52)) hi) in
    let bot : 991 ≤ x = low X D d x r.value (down_pos e) (room (b % 2 ^ 52) (mod-lt b (pow_pos 52))) lo in
    record {
      least = subst (λ (z : ℕ). 992 ≤ z) (sym r.field) (up_one x bot);
      most = subst (λ (z : ℕ). z ≤ 1043) (sym r.field) (up_most x top);
      nanos =
          nanos_significand X D d (2 ^ (1042 - x)) (down_pos e) (pow_pos (1042 - x)) (lower X D d x r.value (down_pos e) top)
          ∙ ap₂ (λ (y z : ℕ). closest (2 * parts y + sticky (rest y)) z) (add_comm (2 ^ 52) (b % 2 ^ 52)) (unit x top ∙ ap (λ (z : ℕ). 2 ^ (1045 - z)) (sym r.field));
    }
  where
    normal : (X D : ℕ) → D ≤ X * 2 ^ 31 → 2 ^ 1043 * D ≤ X * 2 ^ 1074
    normal X D h = le_trans (le_of_eq (mul_comm (2 ^ 1043) D)) (le_trans (mul-le-mul_right (2 ^ 1043) h) (le_of_eq (mul_assoc X (2 ^ 31) (2 ^ 1043))))

    fit : (x : ℕ) → 52 + x < 21 + 1074 → x ≤ 1042
    fit x h = omega arith

    room : (t : ℕ) → t < 2 ^ 52 → 2 ^ 52 + t < 2 ^ 53
    room t h = omega arith

    up_one : (x : ℕ) → 991 ≤ x → 992 ≤ suc x
    up_one x h = omega arith

    up_most : (x : ℕ) → x ≤ 1042 → suc x ≤ 1043
    up_most x h = omega arith

    unit : (x : ℕ) → x ≤ 1042 → 2 * (2 * 2 ^ (1042 - x)) ≡ 2 ^ (1045 - suc x)
    unit x h = ap (λ (z : ℕ). 2 * z) (sym (pow-succ' 2 (1042 - x))) ∙ sym (pow-succ' 2 (suc (1042 - x))) ∙ ap (λ (z : ℕ). 2 ^ z) (two_more x h)
      where
        two_more : (x : ℕ) → x ≤ 1042 → suc (suc (1042 - x)) ≡ 1045 - suc x
        two_more x h = omega arith

-- ---- for a float in the span
pub span_significand : (x : Float) → T (fits binary64 x) → T (below21 x) → Significand (num x) (den x) (to_bits binary64 x)
span_significand x t h = go x t (above_of_le lo x tt (and_l (le lo x) (lt x hi) h)) (and_l (le lo x) (lt x hi) h) (and_r (le lo x) (lt x hi) h)
  where
    lo : Float
    lo = fin false 1 (negsuc 30)

    hi : Float
    hi = fin false 1 (pos 21)

    plain : (a b c : ℕ) → 1 * 1 * a ≤ b * c → a ≤ b * c
    plain a b c h = omega arith

    flat : (a b : ℕ) → a * 1 < 1 * 2 ^ 21 * b → a < 2 ^ 21 * b
    flat a b h = omega arith

    go : (x : Float) → T (fits binary64 x) → T (above x) → T (le lo x) → T (lt x hi) → Significand (num x) (den x) (to_bits binary64 x)
    go nan t a l u = absurd a
    go (inf true) t a l u = absurd a
    go (inf false) t a l u = unfold lt in absurd u
    go (fin true m e) t a l u = absurd a
    go (fin false m e) t a l u =
        significand m e t (plain (down e) (m * up e) (2 ^ 31) (le→cross lo (fin false m e) tt a l)) (flat (m * up e) (down e) (ltb→lt (m * up e * 1) (1 * 2 ^ 21 * down e) (unfold lt in u)))

pub span_number : (x : Float) → T (below21 x) → T (not (is_nan x))
unfolding le lt is_nan
span_number nan h = absurd h
span_number (inf s) h = tt
span_number (fin s m e) h = tt

-- ---- from 2 ^ 21 on: an even number of units more is the same rounding
pub closest_even : (k a b : ℕ) → 0 < b → closest (k * 2 * b + a) b ≡ k * 2 + closest a b
closest_even k a b B =
    let q = a / b in
    let r = a % b in
    let l : r < b = mod-lt a B in
    let e : q * b + r ≡ a = div-add-mod' a b in
    ap (λ (z : ℕ). closest z b) (ap (λ (z : ℕ). k * 2 * b + z) (sym e) ∙ regroup k q b r) ∙ closest_of (k * 2 + q) r b l ∙ go q (compare (r * 2) b)
  where
    regroup : (k q b r : ℕ) → k * 2 * b + (q * b + r) ≡ (k * 2 + q) * b + r
    regroup k q b r = omega arith

    more : (k q : ℕ) → suc (k * 2 + q) ≡ k * 2 + suc q
    more k q = omega arith

    parity : (k q : ℕ) → k * 2 + q + (k * 2 + q) % 2 ≡ k * 2 + (q + q % 2)
    parity k q = omega arith

    go : (q : ℕ) (o : Ordering) → nearest (k * 2 + q) o ≡ k * 2 + nearest q o
    go q Ordering.lt = refl
    go q Ordering.eq = parity k q
    go q Ordering.gt = more k q

-- X / D is d / u
pub nanos_whole : (X D d u : ℕ) → 0 < D → 0 < u → X * u ≡ d * D → closest (X * 1000000000) D ≡ d / u * 1000000000 + closest (d % u * 1000000000) u
nanos_whole X D d u p q e =
    closest_same (X * 1000000000) D (d * 1000000000) u p q (scaled X u d D e)
    ∙ ap (λ (z : ℕ). closest z u) (ap (λ (z : ℕ). z * 1000000000) (sym (div-add-mod' d u)) ∙ apart (d / u) (d % u) u)
    ∙ closest_even (d / u * 500000000) (d % u * 1000000000) u q
    ∙ ap (λ (z : ℕ). z + closest (d % u * 1000000000) u) (billion (d / u))
  where
    scaled : (X u d D : ℕ) → X * u ≡ d * D → X * 1000000000 * u ≡ d * 1000000000 * D
    scaled X u d D e = let f : X * u * 1000000000 ≡ d * D * 1000000000 = ap (λ (z : ℕ). z * 1000000000) e in omega arith

    apart : (w r u : ℕ) → (w * u + r) * 1000000000 ≡ w * 500000000 * 2 * u + r * 1000000000
    apart w r u = omega arith

    billion : (w : ℕ) → w * 500000000 * 2 ≡ w * 1000000000
    billion w = omega arith

pub record Whole (X D b : ℕ) : Type 0 where
  pub least : 1044 ≤ b / 4503599627370496
  pub most : b / 4503599627370496 ≤ 1056
  pub nanos : closest (X * 1000000000) D
      ≡ (b % 4503599627370496 + 4503599627370496) / 2 ^ (1075 - b / 4503599627370496) * 1000000000
      + closest ((b % 4503599627370496 + 4503599627370496) % 2 ^ (1075 - b / 4503599627370496) * 1000000000) (2 ^ (1075 - b / 4503599627370496))

whole_significand : (m : ℕ) (e : ℤ) → T (fits binary64 (fin false m e)) → 2 ^ 21 * down e ≤ m * up e → m * up e < 2 ^ 34 * down e → Whole (m * up e) (down e) (to_bits binary64 (fin false m e))
whole_significand m e t lo hi =
    let X = m * up e in
    let D = down e in
    let b = to_bits binary64 (fin false m e) in
    let r = read m e t (le_trans (mul-le-mul_right D (lit≤ tt)) (normal X D lo)) in
    let d = 2 ^ 52 + b % 2 ^ 52 in
    let x = r.x in
    let top : x ≤ 1055 = fit x (high X D d x r.value (down_pos e) 34 (le-add_right (2 ^ 52) (b % 2 ^ 52)) hi) in
    let bot : 1043 ≤ x = low_21 X D d x r.value (down_pos e) (room (b % 2 ^ 52) (mod-lt b (pow_pos 52))) lo in
    record {
      least = subst (λ (z : ℕ). 1044 ≤ z) (sym r.field) (up_one x bot);
      most = subst (λ (z : ℕ). z ≤ 1056) (sym r.field) (up_most x top);
      nanos =
          nanos_whole X D d (2 ^ (1074 - x)) (down_pos e) (pow_pos (1074 - x)) (lower_21 X D d x r.value (down_pos e) (le_trans top (lit≤ tt)))
          ∙ ap₂ (λ (y z : ℕ). y / 2 ^ z * 1000000000 + closest (y % 2 ^ z * 1000000000) (2 ^ z)) (add_comm (2 ^ 52) (b % 2 ^ 52)) (unit x ∙ ap (λ (z : ℕ). 1075 - z) (sym r.field));
    }
  where
    normal : (X D : ℕ) → 2 ^ 21 * D ≤ X → 2 ^ 1095 * D ≤ X * 2 ^ 1074
    normal X D h = le_trans (le_of_eq (ap (λ (z : ℕ). z * D) (pow-add 2 21 1074) ∙ mul_right_comm (2 ^ 21) (2 ^ 1074) D)) (mul-le-mul_right (2 ^ 1074) h)

    fit : (x : ℕ) → 52 + x < 34 + 1074 → x ≤ 1055
    fit x h = omega arith

    room : (t : ℕ) → t < 2 ^ 52 → 2 ^ 52 + t < 2 ^ 53
    room t h = omega arith

    up_one : (x : ℕ) → 1043 ≤ x → 1044 ≤ suc x
    up_one x h = omega arith

    up_most : (x : ℕ) → x ≤ 1055 → suc x ≤ 1056
    up_most x h = omega arith

    unit : (x : ℕ) → 1074 - x ≡ 1075 - suc x
    unit x = omega arith

pub from_21_significand : (x : Float) → T (fits binary64 x) → T (from21 x) → Whole (num x) (den x) (to_bits binary64 x)
from_21_significand x t h = go x t (above_of_le lo x tt (and_l (le lo x) (lt x hi) h)) (and_l (le lo x) (lt x hi) h) (and_r (le lo x) (lt x hi) h)
  where
    lo : Float
    lo = fin false 1 (pos 21)

    hi : Float
    hi = fin false 1 (pos 34)

    plain : (a b : ℕ) → 1 * 2 ^ 21 * a ≤ b * 1 → 2 ^ 21 * a ≤ b
    plain a b h = omega arith

    flat : (a b : ℕ) → a * 1 < 1 * 2 ^ 34 * b → a < 2 ^ 34 * b
    flat a b h = omega arith

    go : (x : Float) → T (fits binary64 x) → T (above x) → T (le lo x) → T (lt x hi) → Whole (num x) (den x) (to_bits binary64 x)
    go nan t a l u = absurd a
    go (inf true) t a l u = absurd a
    go (inf false) t a l u = unfold lt in absurd u
    go (fin true m e) t a l u = absurd a
    go (fin false m e) t a l u =
        whole_significand m e t (plain (down e) (m * up e) (le→cross lo (fin false m e) tt a l)) (flat (m * up e) (down e) (ltb→lt (m * up e * 1) (1 * 2 ^ 34 * down e) (unfold lt in u)))

pub from_21_number : (x : Float) → T (from21 x) → T (not (is_nan x))
unfolding le lt is_nan
from_21_number nan h = absurd h
from_21_number (inf s) h = tt
from_21_number (fin s m e) h = tt

pub lt_of_not_le_21 : (x : Float) → T (le (fin false 0 (pos 0)) x) → T (not (le (fin false 1 (pos 21)) x)) → T (lt x (fin false 1 (pos 21)))
lt_of_not_le_21 nan a c = unfold le in absurd a
lt_of_not_le_21 (inf true) a c = unfold le in absurd a
lt_of_not_le_21 (inf false) a c = unfold le in absurd c
lt_of_not_le_21 (fin true m e) a c = unfold lt in lt→ltb 0 (m * up e * 1 + 1 * 2 ^ 21 * down e) (some (m * up e * 1) (down e) (down_pos e))
  where
    some : (x d : ℕ) → 0 < d → 0 < x + 1 * 2 ^ 21 * d
    some x d p = omega arith
lt_of_not_le_21 (fin false m e) a c =
    unfold lt in lt→ltb (m * up e * 1) (1 * 2 ^ 21 * down e)
    (lt_of_not-le (λ (g : 1 * 2 ^ 21 * down e ≤ m * up e * 1). T_not (le (fin false 1 (pos 21)) (fin false m e)) c
    (le_of_values (fin false 1 (pos 21)) (fin false m e) (2 ^ 21) 1 (m * up e) (down e) (pow_pos 0) (down_pos e) (refl, refl) (refl, refl) g)))

-- ---- below a half
pub small_none : (x : Float) → T (le (fin false 0 (pos 0)) x) → T (lt x (fin false 1 (pos 34))) → T (not (le (fin false 1 (negsuc 30)) x)) → from_secs_f64 x ≡ 0
small_none nan a b c = unfold le in absurd a
small_none (inf true) a b c = unfold le in absurd a
small_none (inf false) a b c = unfold lt in absurd b
small_none (fin true m e) a b c = closest_none (m * up e * 1000000000) (down e) (zero_half (m * up e) (down e) (down_pos e) (ap (λ (z : ℕ). z * up e) (minus_zero m e a) ∙ zero-mul (up e)))
  where
    zero_half : (x d : ℕ) → 0 < d → x ≡ 0 → x * 1000000000 * 2 < d
    zero_half x d p e = omega arith
small_none (fin false m e) a b c =
    closest_none (m * up e * 1000000000) (down e) (half (m * up e) (down e)
    (lt_of_not-le (λ (g : down e ≤ m * up e * 2 ^ 31). T_not (le (fin false 1 (negsuc 30)) (fin false m e)) c
    (le_of_values (fin false 1 (negsuc 30)) (fin false m e) 1 (2 ^ 31) (m * up e) (down e) (pow_pos 31) (down_pos e) (refl, refl) (refl, refl) (le_trans (le_of_eq (one-mul (down e))) g)))))
  where
    half : (x d : ℕ) → x * 2147483648 < d → x * 1000000000 * 2 < d
    half x d h = omega arith

-- ---- the divisor, as the shift makes it
pub shifted : (k : ℕ) → k ≤ 53 → 1 * 2 ^ k % 2 ^ 64 ≡ 2 ^ k
shifted k h = shl_exact 1 k 64 (lit< tt) (fit k h) ∙ one-mul (2 ^ k)
  where
    fit : (k : ℕ) → k ≤ 53 → 1 + k ≤ 64
    fit k h = omega arith

-- ---- what is left below a unit of 2 ^ 19 to 2 ^ 31 is less than 2 ^ 61, and its nanoseconds are 10 ^ 9 at most
pub record Shift (d u : ℕ) : Type 0 where
  pub some : 0 < u
  pub most : u ≤ 2147483648
  pub seconds : d / u < 17179869184
  pub left : d % u < 2147483648

pub shift_of : (d k : ℕ) → d < 2 ^ 53 → 19 ≤ k → k ≤ 31 → Shift d (1 * 2 ^ k % 2 ^ 64)
shift_of d k h l m =
    subst (λ (u : ℕ). Shift d u) (sym (shifted k (le_trans m (lit≤ tt))))
    (record {
      some = pow_pos k;
      most = pow_mono m;
      seconds = shr_lt 34 k (lt_of_lt_of_le h (pow_mono (more k l)));
      left = lt_of_lt_of_le (mod-lt d (pow_pos k)) (pow_mono m);
    })
  where
    more : (k : ℕ) → 19 ≤ k → 53 ≤ 34 + k
    more k l = omega arith

pub part_most : (r u : ℕ) → r < u → closest (r * 1000000000) u ≤ 1000000000
part_most r u h =
    le_of_suc-le-suc (lt_of_mul-lt-mul_right (u * 2) (line (closest (r * 1000000000) u) r u h (closest_up (r * 1000000000) u)))
  where
    line : (c r u : ℕ) → r < u → c * u * 2 ≤ r * 1000000000 * 2 + u → c * (u * 2) < suc 1000000000 * (u * 2)
    line c r u h p = omega arith
