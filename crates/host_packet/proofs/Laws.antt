-- Laws of packets for a host: a refused write changes nothing; what a header's value holds is read back.
use Rattle.std.specs.Prelude.{Err, Ok, Result}
use Prim.Native.Nat.{ℕ, ◌+◌, ◌/◌, ◌%◌, ◌<◌, min}
use mathlib.Core.Path.{◌≡◌, refl}
use mathlib.Core.List.{List, [], ◌∷◌, ◌++◌}
use native.Mathlib.Omega.{arith}
use lib.ListN.{length, drop}
use lib.Dec.{ltb}
use Rattle.bounds.specs.Bounds.{header_size}
use Rattle.refusal.specs.declared.Refusal.TheVariants.{Numbers, Full}
use Rattle.refusal.specs.Order.{check, verdict}
use Rattle.refusal.proofs.Laws.{either_answer}
use Rattle.packet.specs.Format.{byte_of, with_checksum, datagram, check_long}
use Rattle.packet.specs.Reading.{try_from}
use Rattle.packet.specs.Writing as writing
use Rattle.packet.specs.Writing.{to_bytes}
use Rattle.packet.specs.declared.Packet.{Packet}
use Rattle.packet.specs.declared.PacketType.{PacketType}
use Rattle.packet.specs.declared.PacketType.TheVariants.{Data, Ack, Fin}
use Rattle.host_answer.specs.Answer.{value_limit, Refusing}
use Rattle.host_answer.proofs.Laws.{done_not_refusing}
use Rattle.host_answer.specs.Answer.{count_answer}
use Rattle.host_packet.specs.Packet.{max_byte, header_value, packet_of, unwritable, write_of, write}
use Rattle.refusal.specs.declared.Refusal.{Refusal}

abbrev Kept : List ℕ → writing.Written → Type 0
Kept out w = Refusing (count_answer w.answer) → w.out ≡ out

bytes_kept : (p : Packet) (payload out : List ℕ) → Kept out (to_bytes p payload out)
unfolding to_bytes count_answer
bytes_kept p payload out =
    let size = header_size + length payload in
    either_answer (Kept out) (verdict (check_long payload ∷ check (ltb (length out) size) Full ∷ [])) (λ r. writing.written (Err r) out)
    (writing.written (Ok size) (datagram p payload ++ drop size out)) (λ r h. refl) (λ e h. absurd (done_not_refusing size h))

of_kept : (t : Result PacketType Refusal) (n flags : ℕ) (payload out : List ℕ) → Kept out (write_of t n flags payload out)
unfolding write_of count_answer
of_kept (Ok t) n flags payload out =
    either_answer (Kept out) (verdict (check_long payload ∷ check (unwritable n flags) Numbers ∷ [])) (λ r. writing.written (Err r) out)
    (to_bytes (with_checksum (packet_of n t flags) payload) payload out) (λ r h. refl) (λ e. bytes_kept _ payload out)
of_kept (Err r) n flags payload out = λ h. refl

pub write_refused : (kind n flags : ℕ) (payload out : List ℕ) → Refusing (write kind n flags payload out).answer → (write kind n flags payload out).out ≡ out
write_refused kind n flags payload out = of_kept (try_from (min kind max_byte)) n flags payload out

-- number, kind and flags, from a header's value
pub record HeaderBack (p : Packet) : Type 0 where
  pub fits : header_value p < value_limit
  pub number : header_value p % 4294967296 ≡ p.seq_num
  pub kind : header_value p / 4294967296 % 256 ≡ byte_of p.pkt_type
  pub flags : header_value p / 1099511627776 ≡ p.flags

byte_low : (t : PacketType) → byte_of t < 256
byte_low Data = omega arith
byte_low Ack = omega arith
byte_low Fin = omega arith

pub header_back : (p : Packet) → p.seq_num < 4294967296 → p.flags < 256 → HeaderBack p
header_back p h k =
    let b = byte_low p.pkt_type in record { fits = omega arith; number = omega arith; kind = omega arith; flags = omega arith }
