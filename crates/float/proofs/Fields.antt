-- A normal f64 by the fields of its bit pattern: the digits t and the exponent's field x + 1 stand for (2 ^ 52 + t) * 2 ^ x units.
use Rattle.std.proofs.Common.{◌≡◌, ℕ, zero, suc, ◌+◌, ◌*◌, ◌/◌, ◌%◌, ◌^◌, ◌<◌, ◌≤◌, Bool, true, false, cond, not, T, eqb, leb, ℤ, sym, refl, ap, ◌∙◌, subst, le_of_eq, lt_of_le_of_lt, mod-lt, mod-eq_of_lt, mul-lt-mul_of_pos_right, mul-one, not-le_of_lt, pow_pos}
use lib.Dec.{nleb→lt}
use lib.Ieee.{Float, nan, inf, fin, binary64, up, down, odd, of_fields, of_bits, to_bits, fits}
use lib.Ieee.Fits.{down_pos}
use lib.Ieee.Bits.{of_bits-to_bits}
use lib.Ieee.Exact.{HasValue, odd_sign}
use lib.Ieee.Scale.{finite}

of_bits_is : (b : ℕ) → of_bits binary64 b ≡ of_fields binary64 (leb (2 ^ 63) b) (b % 2 ^ 63 / 2 ^ 52) (b % 2 ^ 52)
unfolding of_bits
of_bits_is b = refl

-- ---- what the fields of a normal value are
pub record Normal (m : ℕ) (e : ℤ) (s : Bool) (E t : ℕ) : Type 0 where
  pub x : ℕ
  pub field : E ≡ suc x
  pub sign : s ≡ false
  pub value : m * up e * 2 ^ 1074 ≡ (2 ^ 52 + t) * 2 ^ x * down e

no_fin : (z : Float) (m : ℕ) (e : ℤ) → T (not (finite z)) → z ≡ fin false m e → ⊥
no_fin z m e n p = subst (λ (y : Float). T (not (finite y))) p n

not_small : (t d v : ℕ) → 0 < d → t < 2 ^ 52 → v ≡ t * 1 * d → 2 ^ 52 * d ≤ v → ⊥
not_small t d v D l e h = not-le_of_lt (lt_of_le_of_lt (le_of_eq (e ∙ ap (λ (z : ℕ). z * d) (mul-one t))) (mul-lt-mul_of_pos_right l D)) h

from_fields : (s : Bool) (E t m : ℕ) (e : ℤ) → t < 2 ^ 52 → of_fields binary64 s E t ≡ fin false m e → 2 ^ 52 * down e ≤ m * up e * 2 ^ 1074 → Normal m e s E t
unfolding of_fields
from_fields s zero t m e l p h =
    let v : HasValue (fin false m e) s (t * 2 ^ 0) (2 ^ 1074) = subst (λ (z : Float). HasValue z s (t * 2 ^ 0) (2 ^ 1074)) p (odd_sign 53 s t 0 1074) in
    absurd (not_small t (down e) (m * up e * 2 ^ 1074) (down_pos e) l v.1 h)
from_fields s (suc x) t m e l p h = go (eqb (suc x) 2047) p
  where
    go : (b : Bool) → cond b (cond (eqb t 0) (inf s) nan) (odd 53 s (2 ^ 52 + t) x 1074) ≡ fin false m e → Normal m e s (suc x) t
    go true q = absurd (no_fin (cond (eqb t 0) (inf s) nan) m e (either (eqb t 0)) q)
      where
        either : (c : Bool) → T (not (finite (cond c (inf s) nan)))
        either true = tt
        either false = tt
    go false q =
        let v : HasValue (fin false m e) s ((2 ^ 52 + t) * 2 ^ x) (2 ^ 1074) = subst (λ (z : Float). HasValue z s ((2 ^ 52 + t) * 2 ^ x) (2 ^ 1074)) q (odd_sign 53 s (2 ^ 52 + t) x 1074) in
        record { x = x; field = refl; sign = sym v.0; value = v.1 }

-- ---- by the bits that the program reads
pub record Read (m : ℕ) (e : ℤ) (b : ℕ) : Type 0 where
  pub x : ℕ
  pub field : b / 2 ^ 52 ≡ suc x
  pub value : m * up e * 2 ^ 1074 ≡ (2 ^ 52 + b % 2 ^ 52) * 2 ^ x * down e

unsigned : (b : ℕ) → leb (2 ^ 63) b ≡ false → b % 2 ^ 63 ≡ b
unsigned b e = mod-eq_of_lt (nleb→lt (2 ^ 63) b (subst (λ (z : Bool). T (not z)) (sym e) tt))

pub read : (m : ℕ) (e : ℤ) → T (fits binary64 (fin false m e)) → 2 ^ 52 * down e ≤ m * up e * 2 ^ 1074 → Read m e (to_bits binary64 (fin false m e))
read m e t h =
    let b = to_bits binary64 (fin false m e) in
    let n = from_fields (leb (2 ^ 63) b) (b % 2 ^ 63 / 2 ^ 52) (b % 2 ^ 52) m e (mod-lt b (pow_pos 52)) (sym (of_bits_is b) ∙ of_bits-to_bits binary64 (fin false m e) t) h in
    record { x = n.x; field = ap (λ (z : ℕ). z / 2 ^ 52) (sym (unsigned b n.sign)) ∙ n.field; value = n.value }
