-- What a datagram of the forward line is to the receiving side, as its private functions hand it on.
use Rattle.std.specs.Prelude.{Bool, true, false, Err, None, Ok, Option, Result, Some}
use Rattle.packet.specs.declared.Packet.{Packet}
use Rattle.packet.specs.declared.PacketType.{PacketType}
use Rattle.packet.specs.declared.PacketType.TheVariants as packetType
use Rattle.packet.specs.declared.DatagramReading.{DatagramReading}
use Rattle.packet.specs.declared.DatagramReading.TheVariants as reading
use Rattle.refusal.specs.declared.Refusal.{Refusal}

abbrev pub data_arrival : PacketType → Packet → Bool → Option (Packet × Bool)
data_arrival packetType.Data p valid = Some (p, valid)
data_arrival packetType.Ack p valid = None
data_arrival packetType.Fin p valid = None

abbrev pub arrival_of : Result DatagramReading Refusal → Option (Packet × Bool)
arrival_of (Ok (reading.Valid p)) = data_arrival p.pkt_type p true
arrival_of (Ok (reading.Corrupted p)) = data_arrival p.pkt_type p false
arrival_of (Err r) = None
