-- Laws of packet types and flags.
use Prim.Native.Nat.{ℕ, zero, suc, ◌+◌, ◌*◌, ◌/◌, ◌%◌, ◌<◌}
use mathlib.Core.Path.{◌≡◌, refl}
use mathlib.Core.Bool.{true, false, not}
use native.Mathlib.Omega.{arith}
use borrow.Author.Tests.{lt-leb, le-leb}
use lib.Dec.{lit<, eqb}
use lib.Bits.{bit_and, bit_or, and_mask, or_add_and}
use Rattle.packet.specs.Format.{byte_of}
use Rattle.packet.specs.Reading.{is_type, type_of}
use Rattle.packet.specs.declared.PacketType.{PacketType}
use Rattle.packet.specs.declared.PacketType.TheVariants.{Data, Ack, Fin}

above_three : (b : ℕ) → is_type (suc (suc (suc (suc b)))) ≡ false
above_three b = rw (le-leb 1 (suc (suc (suc (suc b)))) (omega arith), lt-leb (suc (suc (suc (suc b)))) 3 (omega arith))

pub other_type : (b : ℕ) → (b ≡ 1 → ⊥) → (b ≡ 2 → ⊥) → (b ≡ 3 → ⊥) → is_type b ≡ false
other_type zero h k l = refl
other_type (suc zero) h k l = absurd (h refl)
other_type (suc (suc zero)) h k l = absurd (k refl)
other_type (suc (suc (suc zero))) h k l = absurd (l refl)
other_type (suc (suc (suc (suc b)))) h k l = above_three b

pub byte_type : (b : ℕ) → is_type b ≡ true → byte_of (type_of b) ≡ b
byte_type zero e = let z : ◌≡◌ {A = ℕ} 0 1 = cc in absurd (omega arith)
byte_type (suc zero) e = refl
byte_type (suc (suc zero)) e = refl
byte_type (suc (suc (suc zero))) e = refl
byte_type (suc (suc (suc (suc b)))) e = let f = above_three b in let z : ◌≡◌ {A = ℕ} 0 1 = cc in absurd (omega arith)

pub type_byte : (t : PacketType) → type_of (byte_of t) ≡ t
type_byte Data = refl
type_byte Ack = refl
type_byte Fin = refl

pub byte_is_type : (t : PacketType) → is_type (byte_of t) ≡ true
byte_is_type Data = refl
byte_is_type Ack = refl
byte_is_type Fin = refl

pub byte_lt : (t : PacketType) → byte_of t < 4
byte_lt Data = lit< tt
byte_lt Ack = lit< tt
byte_lt Fin = lit< tt

-- bit 0
by_bit : (n : ℕ) → n < 2 → not (eqb n 0) ≡ eqb n 1
by_bit zero h = refl
by_bit (suc zero) h = refl
by_bit (suc (suc n)) h = absurd (omega arith)

pub bit_0_is : (n : ℕ) → not (eqb (bit_and n 1) 0) ≡ eqb (n % 2) 1
bit_0_is n = rw (and_mask n 1) (by_bit (n % 2) (omega arith))

pub bit_0_set : (n : ℕ) → bit_or n 1 ≡ n / 2 * 2 + 1
bit_0_set n = omega (arith, or_add_and n 1, and_mask n 1)
