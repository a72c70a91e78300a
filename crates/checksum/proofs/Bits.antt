-- One bit of one octet turned over moves the sum of a row's words by a power of two.
use Prim.Native.Nat.{ℕ, zero, suc, ◌+◌, ◌*◌, ◌^◌, ◌<◌}
use mathlib.Core.Path.{◌≡◌}
use mathlib.Core.List.{List, [], ◌∷◌}
use mathlib.Core.Logic.{◌⊎◌, inl, inr, ⊎_elim}
use native.Mathlib.Omega.{arith}
use lib.ListN.{length}
use lib.Bits.{bit_xor}
use lib.Pow.{pow_pos}
use Rattle.checksum.specs.Rfc1071.{words}
use Rattle.checksum.specs.Techniques.{plain_sum}
use Rattle.octets.specs.Flip.{flip}
use Rattle.checksum.proofs.Words.{sum}
use Rattle.octets.proofs.Laws.{xor_moves, power_le}

-- two numbers that are 1 to 65534 apart
pub record Apart (m n : ℕ) : Type 0 where
  pub by : ℕ
  pub positive : 0 < by
  pub small : by < 65535
  pub way : (n ≡ m + by) ⊎ (m ≡ n + by)

-- the octet in the high place of a word, and in the low place
high : (x a b m n : ℕ) → b < 8 → m ≡ x + a * 256 → n ≡ x + bit_xor a (2 ^ b) * 256 → Apart m n
high x a b m n h p q = record {
  by = 2 ^ b * 256;
  positive = omega (arith, pow_pos b);
  small = omega (arith, power_le b h);
  way = ⊎_elim (λ e. inl (omega arith)) (λ e. inr (omega arith)) (xor_moves a b);
}

low : (x a b m n : ℕ) → b < 8 → m ≡ x + a → n ≡ x + bit_xor a (2 ^ b) → Apart m n
low x a b m n h p q = record {
  by = 2 ^ b;
  positive = pow_pos b;
  small = omega (arith, power_le b h);
  way = ⊎_elim (λ e. inl (omega arith)) (λ e. inr (omega arith)) (xor_moves a b);
}

after : (m n k : ℕ) → Apart m n → Apart (k + m) (k + n)
after m n k h = record {
  by = h.by;
  positive = h.positive;
  small = h.small;
  way = ⊎_elim (λ e. inl (omega arith)) (λ e. inr (omega arith)) h.way;
}

pub flip_sum : (l : List ℕ) (i b : ℕ) → b < 8 → i < length l → Apart (sum l) (sum (flip l i b))
unfolding flip words plain_sum
flip_sum [] i b h k = absurd (omega arith)
flip_sum (a ∷ []) zero b h k = high 0 a b _ _ h (omega arith) (omega arith)
flip_sum (a ∷ []) (suc i) b h k = absurd (omega arith)
flip_sum (a ∷ c ∷ l) zero b h k = high (c + sum l) a b _ _ h (omega arith) (omega arith)
flip_sum (a ∷ c ∷ l) (suc zero) b h k = low (a * 256 + sum l) c b _ _ h (omega arith) (omega arith)
flip_sum (a ∷ c ∷ l) (suc (suc i)) b h k = after (sum l) (sum (flip l i b)) (a * 256 + c) (flip_sum l i b h (omega arith))
