-- Document 01, demand 3: a datagram handed over is a copy of one that was made, whole or with a bit turned over.
use Rattle.std.specs.Prelude.{ℕ, ◌≤◌, ◌<◌, ◌≡◌, List, [], length, Ok}
use Rattle.bounds.specs.Bounds.{max_payload, seq_num_limit}
use Rattle.protocol.specs.Machine.{Segment}
use Rattle.octets.specs.Octets.{Octets}
use Rattle.octets.specs.Flip.{flip}
use Rattle.packet.specs.Format.{new_packet, made}
use Rattle.packet.specs.declared.Packet.{Packet}
use Rattle.packet.specs.declared.PacketType.TheVariants.{Data, Ack}
use Rattle.packet.specs.Reading.{read_datagram}
use Rattle.packet.specs.declared.DatagramReading.TheVariants as reading

-- a Data datagram that was made of a segment
pub record DataOf (q : Segment) (raw : List ℕ) : Type 0 where
  pub packet : Packet
  pub is : raw ≡ made packet q.payload
  pub kind : packet.pkt_type ≡ Data
  pub number : packet.seq_num ≡ q.number
  pub flags : packet.flags < 256
  pub low : q.number < seq_num_limit
  pub octets : Octets q.payload
  pub short : length q.payload ≤ max_payload

-- the ACK of number n
pub record AckOf (n : ℕ) (raw : List ℕ) : Type 0 where
  pub is : raw ≡ made (new_packet n Ack) []
  pub low : n < 4294967296

-- bit b of byte i turned over, outside the length field
pub record Flipped (original raw : List ℕ) : Type 0 where
  pub byte : ℕ
  pub bit : ℕ
  pub is : raw ≡ flip original byte bit
  pub bit_low : bit < 8
  pub byte_in : byte < length original
  pub not_6 : byte ≡ 6 → ⊥
  pub not_7 : byte ≡ 7 → ⊥

-- no valid packet is read in it
abbrev pub NotValid : List ℕ → Type 0
NotValid raw = (p : Packet) → read_datagram raw ≡ Ok (reading.Valid p) → ⊥

-- a valid ACK of number n is read in it
pub record IsAck (raw : List ℕ) (n : ℕ) : Type 0 where
  pub packet : Packet
  pub read : read_datagram raw ≡ Ok (reading.Valid packet)
  pub kind : packet.pkt_type ≡ Ack
  pub number : packet.seq_num ≡ n
