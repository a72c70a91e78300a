-- arq/*.rs, `handle_packet`, and document 01, "Turned away" 7: what a datagram is to a receiver.
use Rattle.std.specs.Prelude.{ℕ, List, Bool, true, false, cond, ◌&&◌, leb, Err, Ok, Result}
use Rattle.bounds.specs.Bounds.{seq_num_limit}
use Rattle.refusal.specs.declared.Refusal.TheVariants.{Numbers}
use Rattle.refusal.specs.Order.{verdict, decide, held_checks}
use Rattle.packet.specs.Reading.{read_datagram}
use Rattle.packet.specs.declared.Packet.{Packet}
use Rattle.packet.specs.declared.PacketType.{PacketType}
use Rattle.packet.specs.declared.PacketType.TheVariants as packetType
use Rattle.packet.specs.declared.DatagramReading.{DatagramReading}
use Rattle.packet.specs.declared.DatagramReading.TheVariants as datagram
use Rattle.receiver.specs.declared.PacketReading.{PacketReading}
use Rattle.receiver.specs.declared.PacketReading.TheVariants as reading
use Rattle.refusal.specs.declared.Refusal.{Refusal}

-- a valid packet, by its type
abbrev pub by_type : PacketType → ℕ → PacketReading
by_type packetType.Data n = reading.Data n
by_type packetType.Ack n = reading.Ack
by_type packetType.Fin n = reading.Fin n

-- a packet, and whether it matches its checksum
abbrev pub packet_reading : Packet → Bool → PacketReading
packet_reading p true = by_type p.pkt_type p.seq_num
packet_reading p false = reading.Corrupted

-- a datagram that isn't refused; what a refused one would be is nowhere asked
abbrev pub reading_of : Result DatagramReading Refusal → PacketReading
reading_of (Ok (datagram.Valid p)) = packet_reading p true
reading_of (Ok (datagram.Corrupted p)) = packet_reading p false
reading_of (Err r) = reading.Corrupted

abbrev pub read_packet : List ℕ → PacketReading
read_packet raw = reading_of (read_datagram raw)

-- 7: valid Data with the limit's number or a higher one
abbrev pub is_data : PacketType → Bool
is_data packetType.Data = true
is_data packetType.Ack = false
is_data packetType.Fin = false

abbrev pub is_number_high : Packet → Bool
is_number_high p = is_data p.pkt_type && leb seq_num_limit p.seq_num

abbrev pub number_high : Result DatagramReading Refusal → Bool
number_high (Ok (datagram.Valid p)) = is_number_high p
number_high (Ok (datagram.Corrupted p)) = false
number_high (Err r) = false

-- the reading, or its refusal
abbrev pub reading_answer : Result DatagramReading Refusal → Result PacketReading Refusal
reading_answer (Ok (datagram.Valid p)) =
    cond (is_number_high p) (Err Numbers) (Ok (packet_reading p true))
reading_answer (Ok (datagram.Corrupted p)) = Ok (packet_reading p false)
reading_answer (Err r) = Err r

-- after the verdict on what the receiver holds
unfoldable pub read_after : Result Unit Refusal → List ℕ → Result PacketReading Refusal
read_after held raw = decide held Err (reading_answer (read_datagram raw))

-- by whether 9 and 8 are true of what the receiver holds
abbrev pub read_held : Bool → Bool → List ℕ → Result PacketReading Refusal
read_held broken counts raw = read_after (verdict (held_checks broken counts)) raw
