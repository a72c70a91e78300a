-- k / 2 ^ 53, for k below 2 ^ 53, is a roll in [0, 1): the product with 2 ^ -53 is exact.
use Rattle.std.proofs.Common.{◌≡◌, ℕ, ◌*◌, ◌^◌, ◌<◌, true, false, T, pos, negsuc, sym, refl, ap, ◌∙◌, subst, true≢false, zero-le, le_trans, le_of_eq, lt_of_lt_of_le, lt_of_le_of_lt, le_of_lt, mul_assoc, mul_comm, lt_of_mul-lt-mul_right, mul-lt-mul_of_pos_right, mul-pos, zero-mul, mul-one, mul_right_comm, arith, lit≤, lt→ltb, pow_pos}
use lib.Ieee.{Float, nan, inf, fin, binary64, up, down, round, mul, of_int, le, lt}
use lib.Ieee.Fits.{down_pos, and_i}
use lib.Ieee.Exact.{HasValue, round_exact}
use lib.Ieee.Back.{round_whole}
use lib.Ieee.Order.{le_of_values}
use Rattle.float.specs.Roll.{roll_in_bounds, roll_of}
use Rattle.float.proofs.Below.{mul_fin}

-- a / c below 1
pub in_bounds_of : (z : Float) (a c : ℕ) → 0 < c → a < c → HasValue z false a c → T (roll_in_bounds z)
in_bounds_of nan a c C h v = absurd v
in_bounds_of (inf s) a c C h v = absurd v
in_bounds_of (fin true m e) a c C h v = absurd (true≢false v.0)
in_bounds_of (fin false m e) a c C h v =
    and_i (le (fin false 0 (pos 0)) (fin false m e)) (lt (fin false m e) (fin false 1 (pos 0)))
    (le_of_values (fin false 0 (pos 0)) (fin false m e) 0 1 a c (pow_pos 0) C (refl, refl) v (le_trans (le_of_eq (zero-mul c)) zero-le))
    (unfold lt in lt→ltb (m * up e * 1) (1 * 1 * down e)
    (flat (m * up e) (down e) (lt_of_mul-lt-mul_right c (lt_of_le_of_lt (le_of_eq v.1) (lt_of_lt_of_le (mul-lt-mul_of_pos_right h (down_pos e)) (le_of_eq (mul_comm c (down e))))))))
  where
    flat : (a b : ℕ) → a < b → a * 1 < 1 * 1 * b
    flat a b h = omega arith

scaled_exact : (x : Float) (k : ℕ) → k < 2 ^ 53 → HasValue x false k 1 → T (roll_in_bounds (mul binary64 x (fin false 1 (negsuc 52))))
scaled_exact nan k l v = absurd v
scaled_exact (inf s) k l v = absurd v
scaled_exact (fin true m e) k l v = absurd (true≢false v.0)
scaled_exact (fin false m e) k l v =
    let X = m * up e in
    let D = down e in
    let q : X ≡ k * D = sym (mul-one X) ∙ v.1 in
    let C : 0 < D * 2 ^ 53 = mul-pos (down_pos e) (pow_pos 53) in
    subst (λ (z : Float). T (roll_in_bounds z)) (sym (mul_fin false m e 1 (negsuc 52)))
    (in_bounds_of (round binary64 false (X * (1 * 1)) (D * 2 ^ 53)) (X * (1 * 1)) (D * 2 ^ 53) C
    (lt_of_le_of_lt (le_of_eq (mul-one X ∙ q)) (lt_of_lt_of_le (mul-lt-mul_of_pos_right l (down_pos e)) (le_of_eq (mul_comm (2 ^ 53) D))))
    (round_exact binary64 false (X * (1 * 1)) (D * 2 ^ 53) k 1021 C l (lt_of_lt_of_le (mul-lt-mul_of_pos_right l (pow_pos 1021)) (lit≤ tt))
    (ap (λ (z : ℕ). z * 2 ^ 1074) (mul-one X ∙ q) ∙ regroup k D)))
  where
    regroup : (k D : ℕ) → k * D * 2 ^ 1074 ≡ k * 2 ^ 1021 * (D * 2 ^ 53)
    regroup k D = sym (mul_assoc (k * D) (2 ^ 1021) (2 ^ 53)) ∙ ap (λ (z : ℕ). z * 2 ^ 53) (mul_right_comm k D (2 ^ 1021)) ∙ mul_assoc (k * 2 ^ 1021) D (2 ^ 53)

pub roll_in_bounds_lem : (k : ℕ) → k < 2 ^ 53 → T (roll_in_bounds (roll_of k))
unfolding of_int
roll_in_bounds_lem k h = scaled_exact (round binary64 false k 1) k h (round_whole binary64 false k (le_of_lt h))
