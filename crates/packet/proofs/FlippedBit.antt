-- One bit of a datagram turned over.
use Rattle.std.specs.Prelude.{Err, Ok}
use Prim.Native.Nat.{ℕ, ◌+◌, ◌*◌, ◌/◌, ◌%◌, ◌^◌, ◌≤◌, ◌<◌}
use mathlib.Core.Path.{◌≡◌, refl, sym, ap, ◌∙◌}
use mathlib.Core.Bool.{Bool, true, false}
use mathlib.Core.List.{List, [], append-nil}
use mathlib.Core.Logic.{◌⊎◌, inl, inr, ⊎_elim}
use native.Mathlib.Omega.{arith}
use borrow.Author.Tests.{ltb-true, ltb-false}
use lib.ListN.{length, take, length-set}
use lib.Seq.{take_all, get_or-set_other}
use lib.Bits.{bit_xor}
use lib.Dec.{ltb}
use Rattle.octets.specs.Octets.{Octets}
use Rattle.checksum.specs.Rfc1071.{words, ones_sum}
use Rattle.octets.specs.Flip.{flip}
use Rattle.checksum.proofs.Laws.{flip_changes_sum, xor_differs}
use Rattle.octets.proofs.Laws.{flip_octets}
use Rattle.refusal.specs.Order.{verdict}
use Rattle.refusal.specs.declared.Refusal.TheVariants.{Cut}
use Rattle.refusal.proofs.Laws.{decide_accepted, on_accepted, on_refused}
use Rattle.packet.specs.Format.{header_bytes, datagram, with_checksum, made}
use Rattle.packet.specs.Reading.{declared, present, read_checks, header_of, from_bytes, payload_of, validity}
use Rattle.packet.specs.declared.Packet.{Packet}
use Rattle.packet.proofs.Types.{byte_is_type}
use Rattle.packet.proofs.Header.{Fits, two_bytes, header_octets, checksum_lt}
use Rattle.packet.proofs.Read.{read_cut}
use Rattle.packet.proofs.RoundTrip.{with_length, with_length_read, with_length_payload, valid_back}
use Rattle.packet.proofs.ReceiverCheck.{valid_all_ones}

-- a valid datagram can be read
valid_read : (raw : List ℕ) → validity raw ≡ Ok true → from_bytes raw ≡ Ok (header_of raw)
unfolding validity from_bytes
valid_read raw e =
    on_accepted Err (Ok (header_of raw))
    (decide_accepted (verdict (read_checks raw)) Err _ e (λ r f. let z : ◌≡◌ {A = ℕ} 0 1 = cc in omega arith))

-- the sum of a valid datagram that ends with its payload
whole_all_ones : (raw : List ℕ) → Octets raw → 10 + declared raw ≡ length raw → validity raw ≡ Ok true → ones_sum (words raw) ≡ 65535
whole_all_ones raw o n e =
    ap (λ (l : List ℕ). ones_sum (words l)) (sym (take_all (10 + declared raw) raw (omega arith)))
    ∙ valid_all_ones raw (header_of raw) o (valid_read raw e) e

flip_declared : (raw : List ℕ) (i b : ℕ) → (i ≡ 6 → ⊥) → (i ≡ 7 → ⊥) → 10 + declared raw ≡ length raw → 10 + declared (flip raw i b) ≡ length (flip raw i b)
unfolding flip
flip_declared raw i b six seven n =
    rw (get_or-set_other raw i 6 _ 0 (λ e. six (sym e)), get_or-set_other raw i 7 _ 0 (λ e. seven (sym e)), length-set) n

-- Outside bytes 6 and 7 a valid datagram that ends with its payload is no longer valid.
pub flip_caught : (raw : List ℕ) (i b : ℕ) → Octets raw → 10 + declared raw ≡ length raw → validity raw ≡ Ok true
    → b < 8 → i < length raw → (i ≡ 6 → ⊥) → (i ≡ 7 → ⊥) → validity (flip raw i b) ≡ Ok true → ⊥
flip_caught raw i b o n v h k six seven w =
    flip_changes_sum raw i b o h k
    (whole_all_ones (flip raw i b) (flip_octets raw i b h o) (flip_declared raw i b six seven n) w ∙ sym (whole_all_ones raw o n v))

pub made_valid : (p : Packet) (payload : List ℕ) → validity (made p payload) ≡ Ok true
made_valid p payload = sym (ap validity (append-nil (made p payload))) ∙ valid_back p payload []

made_octets : (p : Packet) (payload : List ℕ) → Fits p → Octets payload → length payload ≤ 65535 → Octets (made p payload)
unfolding datagram
made_octets p payload f o n =
    header_octets (with_checksum p payload) (length payload) _ payload (record { seq_num = f.seq_num; flags = f.flags }) (omega arith) (checksum_lt p payload) o

made_declared : (p : Packet) (payload : List ℕ) → 10 + declared (made p payload) ≡ length (made p payload)
unfolding datagram header_bytes
made_declared p payload = omega (arith, two_bytes (length payload))

pub made_length : (p : Packet) (payload : List ℕ) → length (made p payload) ≡ 10 + length payload
unfolding datagram header_bytes
made_length p payload = omega arith

-- the datagrams that this layer makes
pub made_flip_caught : (p : Packet) (payload : List ℕ) (i b : ℕ) → Fits p → Octets payload → length payload ≤ 1400
    → b < 8 → i < 10 + length payload → (i ≡ 6 → ⊥) → (i ≡ 7 → ⊥) → validity (flip (made p payload) i b) ≡ Ok true → ⊥
made_flip_caught p payload i b f o n h k six seven =
    flip_caught (made p payload) i b (made_octets p payload f o (omega arith)) (made_declared p payload) (made_valid p payload) h
    (omega (arith, made_length p payload)) six seven

-- In bytes 6 and 7 the copy is cut, or reads as the same packet with a proper prefix of the payload.
pub record Prefix (raw : List ℕ) (p : Packet) (payload : List ℕ) : Type 0 where
  pub packet : from_bytes raw ≡ Ok p
  pub prefix : payload_of raw ≡ take (declared raw) payload
  pub proper : declared raw < length payload

abbrev pub CutOrPrefix : List ℕ → Packet → List ℕ → Type 0
CutOrPrefix raw p payload = (from_bytes raw ≡ Err (Cut (declared raw) (length payload))) ⊎ Prefix raw p payload

with_length_cut : (p : Packet) (hi lo : ℕ) (l : List ℕ) → length l < hi * 256 + lo → from_bytes (with_length p hi lo l) ≡ Err (Cut (hi * 256 + lo) (length l))
unfolding from_bytes
with_length_cut p hi lo l h =
    on_refused Err (Ok (header_of (with_length p hi lo l))) (read_cut (with_length p hi lo l) (omega arith) (byte_is_type p.pkt_type) (omega arith))
    ∙ let n : present (with_length p hi lo l) ≡ length l = omega arith in ap (λ (m : ℕ). Err (Cut (hi * 256 + lo) m)) n

by_length : (p : Packet) (hi lo : ℕ) (l : List ℕ) (t : Bool) → ltb (length l) (hi * 256 + lo) ≡ t → (hi * 256 + lo ≡ length l → ⊥) → CutOrPrefix (with_length p hi lo l) p l
by_length p hi lo l true e n = inl (with_length_cut p hi lo l (ltb-true _ _ e))
by_length p hi lo l false e n =
    let h = ltb-false _ _ e in
    inr (record { packet = with_length_read p hi lo l h; prefix = with_length_payload p hi lo l h; proper = omega arith })

at_byte_6 : (p : Packet) (payload : List ℕ) (b : ℕ) → CutOrPrefix (flip (made p payload) 6 b) (with_checksum p payload) payload
unfolding flip datagram header_bytes
at_byte_6 p payload b =
    let n = length payload in
    by_length (with_checksum p payload) (bit_xor (n / 256) (2 ^ b)) (n % 256) payload _ refl (λ e. xor_differs (n / 256) b (omega (arith, two_bytes n)))

at_byte_7 : (p : Packet) (payload : List ℕ) (b : ℕ) → CutOrPrefix (flip (made p payload) 7 b) (with_checksum p payload) payload
unfolding flip datagram header_bytes
at_byte_7 p payload b =
    let n = length payload in
    by_length (with_checksum p payload) (n / 256) (bit_xor (n % 256) (2 ^ b)) payload _ refl (λ e. xor_differs (n % 256) b (omega (arith, two_bytes n)))

pub made_flip_length : (p : Packet) (payload : List ℕ) (i b : ℕ) → (i ≡ 6) ⊎ (i ≡ 7) → CutOrPrefix (flip (made p payload) i b) (with_checksum p payload) payload
made_flip_length p payload i b at =
    ⊎_elim (λ e. rw e (at_byte_6 p payload b)) (λ e. rw e (at_byte_7 p payload b)) at
