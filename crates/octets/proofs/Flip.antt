-- One bit of one octet turned over.
use Rattle.std.proofs.Common.{◌≡◌, ℕ, zero, suc, ◌+◌, ◌-◌, ◌*◌, ◌/◌, ◌%◌, ◌^◌, ◌<◌, ◌≤◌, ◌⊎◌, List, get_or, sym, ap, ◌∙◌, inl, inr, arith, pow_mono, pow-add}
use lib.Bits.{bit_xor, bit_and, xor_add_and, and_high, xor_lt}
use Rattle.octets.specs.Octets.{Octets}
use Rattle.octets.specs.Flip.{flip}
use Rattle.octets.proofs.Bounded.{below_set}

and_power : (a b : ℕ) → bit_and a (2 ^ b) ≡ a / 2 ^ b % 2 * 2 ^ b
and_power a b =
    let e : 2 ^ (1 + b) - 2 ^ b ≡ 2 ^ b = omega (arith, pow-add 2 1 b) in
    sym (ap (bit_and a) e) ∙ and_high a 1 b

by_bit : (x a p q : ℕ) → q < 2 → x + q * p * 2 ≡ a + p → (x ≡ a + p) ⊎ (a ≡ x + p)
by_bit x a p zero h e = inl (omega arith)
by_bit x a p (suc zero) h e = inr (omega arith)
by_bit x a p (suc (suc q)) h e = absurd (omega arith)

pub xor_moves : (a b : ℕ) → (bit_xor a (2 ^ b) ≡ a + 2 ^ b) ⊎ (a ≡ bit_xor a (2 ^ b) + 2 ^ b)
xor_moves a b =
    by_bit (bit_xor a (2 ^ b)) a (2 ^ b) (a / 2 ^ b % 2) (omega arith)
    (ap (λ (n : ℕ). bit_xor a (2 ^ b) + n * 2) (sym (and_power a b)) ∙ xor_add_and a (2 ^ b))

pub power_le : (b : ℕ) → b < 8 → 2 ^ b ≤ 128
power_le b h = pow_mono {i = b} {j = 7} (omega arith)

pub xor_octet : (a b : ℕ) → a < 256 → b < 8 → bit_xor a (2 ^ b) < 256
xor_octet a b h k = xor_lt 8 a (2 ^ b) h (omega (arith, power_le b k))

pub flip_octets : (l : List ℕ) (i b : ℕ) → b < 8 → Octets l → Octets (flip l i b)
unfolding flip
flip_octets l i b h k = below_set l i _ (xor_octet (get_or l i 0) b (k.at i) h) k
