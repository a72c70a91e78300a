-- What a receiver, and a sender, read in a copy of a datagram.
use Rattle.std.specs.Prelude.{Err, Ok}
use Prim.Native.Nat.{ℕ, ◌≤◌, ◌<◌}
use mathlib.Core.Path.{◌≡◌, refl, sym, ap, ◌∙◌}
use mathlib.Core.List.{List, []}
use mathlib.Core.Bool.{false}
use mathlib.Core.Logic.{◌⊎◌, inl, inr, ⊎_elim}
use native.Mathlib.Omega.{arith}
use native.Mathlib.Decide.{ℕ_discrete}
use borrow.Author.Tests.{lt-leb}
use lib.ListN.{length}
use Rattle.bounds.specs.Bounds.{header_size, max_payload, seq_num_limit}
use Rattle.octets.specs.Octets.{Octets}
use Rattle.octets.specs.Flip.{flip}
use Rattle.octets.proofs.Laws.{below_nil}
use Rattle.protocol.specs.Machine.{Segment}
use Rattle.refusal.specs.declared.Refusal.{Refusal}
use Rattle.packet.specs.Format.{new_packet, with_checksum, made}
use Rattle.packet.specs.Reading.{payload_of, validity, read_datagram}
use Rattle.packet.specs.declared.Packet.{Packet}
use Rattle.packet.specs.declared.PacketType.TheVariants as packetType
use Rattle.packet.specs.declared.DatagramReading.TheVariants as datagram
use Rattle.packet.proofs.Laws.{Fits, given_refused, made_payload, made_given, Taken, valid_taken, valid_is_valid, made_length, made_flip_caught, made_flip_length}
use Rattle.receiver.specs.Reading.{read_packet, number_high}
use Rattle.receiver.specs.declared.PacketReading.TheVariants as reading
use Rattle.receiver.proofs.Laws.{valid_reading}
use Rattle.refinement.specs.Copies.{DataOf, AckOf, Flipped, NotValid, IsAck}

-- a made datagram, given to a receiver or a sender
module _ (p : Packet) (payload : List ℕ) where
  pub data_read : p.pkt_type ≡ packetType.Data → length payload ≤ max_payload → read_packet (made p payload) ≡ reading.Data p.seq_num
  data_read t h = valid_reading (made p payload) (with_checksum p payload) (made_given p payload h) ∙ rw t

  pub ack_is_read : p.pkt_type ≡ packetType.Ack → length payload ≤ max_payload → IsAck (made p payload) p.seq_num
  ack_is_read t h = record { packet = with_checksum p payload; read = made_given p payload h; kind = t; number = refl }

-- a made datagram with a bit turned over isn't valid
pub flipped_not_valid : (p : Packet) (payload raw : List ℕ) → Fits p → Octets payload → length payload ≤ max_payload → Flipped (made p payload) raw → NotValid raw
flipped_not_valid p payload raw fits octets short f q e =
    made_flip_caught p payload f.byte f.bit fits octets short f.bit_low (rw (made_length p payload) at f.byte_in) f.not_6 f.not_7
    (ap validity (sym f.is) ∙ valid_is_valid raw q e)

-- without a payload the length field's bits are caught too: the copy is cut
pub flipped_empty : (p : Packet) (i b : ℕ) → Fits p → b < 8 → i < header_size → NotValid (flip (made p []) i b)
flipped_empty p i b fits h k = elim (ℕ_discrete i 6) [
  | yes e ↦ by_length (inl e)
  | no e ↦ elim (ℕ_discrete i 7) [
    | yes e' ↦ by_length (inr e')
    | no e' ↦ flipped_not_valid p [] (flip (made p []) i b) fits (below_nil (omega arith)) (omega arith)
        (record { byte = i; bit = b; is = refl; bit_low = h; byte_in = rw (made_length p []) k; not_6 = e; not_7 = e' })
  ]
]
  where
    refused : (r : Refusal) → read_datagram (flip (made p []) i b) ≡ Err r → NotValid (flip (made p []) i b)
    refused r f q e = let z : ◌≡◌ {A = ℕ} 0 1 = cc in omega arith

    by_length : (i ≡ 6) ⊎ (i ≡ 7) → NotValid (flip (made p []) i b)
    by_length at = ⊎_elim
        (λ cut. refused _ (given_refused (flip (made p []) i b) _ cut))
        (λ prefix. let x = prefix.proper in absurd (omega arith))
        (made_flip_length p [] i b at)

-- copies of Data of a segment, handed to a receiver
module _ (q : Segment) (original : List ℕ) (d : DataOf q original) where
  data_fits : Fits d.packet
  data_fits = let low = d.low in record { seq_num = rw d.number (omega arith); flags = d.flags }

  pub data_number : read_packet original ≡ reading.Data q.number
  data_number =
      ap read_packet d.is ∙ data_read d.packet q.payload d.kind d.short ∙ ap reading.Data d.number

  -- it isn't refused, and its number isn't too high
  pub data_accepted : Taken original × (number_high (read_datagram original) ≡ false)
  data_accepted =
      let e : read_datagram original ≡ Ok (datagram.Valid (with_checksum d.packet q.payload)) = ap read_datagram d.is ∙ made_given d.packet q.payload d.short in
      (valid_taken original e, rw (e, d.kind, d.number) (lt-leb seq_num_limit q.number d.low))

  pub data_payload : payload_of original ≡ q.payload
  data_payload = ap payload_of d.is ∙ made_payload d.packet q.payload

  pub data_flipped : (raw : List ℕ) → Flipped original raw → NotValid raw
  data_flipped raw f = flipped_not_valid d.packet q.payload raw data_fits d.octets d.short (rw d.is at f)

-- copies of an ACK, handed to a sender
module _ (n : ℕ) (original : List ℕ) (a : AckOf n original) where
  pub ack_number : IsAck original n
  ack_number = rw a.is (ack_is_read (new_packet n packetType.Ack) [] refl (omega arith))

  pub ack_flipped : (i b : ℕ) → b < 8 → i < header_size → NotValid (flip original i b)
  ack_flipped i b h k = rw a.is (flipped_empty (new_packet n packetType.Ack) i b (record { seq_num = a.low; flags = omega arith }) h k)
