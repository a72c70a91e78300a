-- Document 01, `packet.rs`: number 0-3, kind 4, flags 5, payload length 6-7, checksum 8-9, all big-endian, and then the
-- payload.
use Rattle.std.specs.Prelude.{ℕ, ◌+◌, ◌*◌, ◌/◌, ◌%◌, List, [], ◌∷◌, ◌++◌, Bool, length, ltb, eqb}
use Rattle.bounds.specs.Bounds.{max_payload}
use Rattle.refusal.specs.declared.Refusal.TheVariants.{Long}
use Rattle.refusal.specs.Order.{Check, check}
use Rattle.checksum.specs.Rfc1071.{checksum}
use Rattle.packet.specs.declared.PacketType.{PacketType}
use Rattle.packet.specs.declared.PacketType.TheVariants.{Data, Ack, Fin}
use Rattle.packet.specs.declared.Packet.{Packet}

abbrev pub byte_of : PacketType → ℕ
byte_of Data = 1
byte_of Ack = 2
byte_of Fin = 3

abbrev pub new_packet : ℕ → PacketType → Packet
new_packet n t = record { seq_num = n; pkt_type = t; flags = 0; checksum = 0 }

-- bit 0 of the flags marks a packet that is sent again
abbrev pub is_retransmitted : Packet → Bool
is_retransmitted p = eqb (p.flags % 2) 1

abbrev pub set_retransmitted : Packet → Packet
set_retransmitted p = record {
  seq_num = p.seq_num;
  pkt_type = p.pkt_type;
  flags = p.flags / 2 * 2 + 1;
  checksum = p.checksum;
}

-- the header, for a payload of n bytes and the checksum k
unfoldable pub header_bytes : Packet → ℕ → ℕ → List ℕ
header_bytes p n k =
    (p.seq_num / 16777216) ∷ (p.seq_num / 65536 % 256) ∷ (p.seq_num / 256 % 256) ∷ (p.seq_num % 256)
    ∷ byte_of p.pkt_type ∷ p.flags ∷ (n / 256) ∷ (n % 256) ∷ (k / 256) ∷ (k % 256) ∷ []

-- the datagram, with the checksum field as it stands
unfoldable pub datagram : Packet → List ℕ → List ℕ
datagram p payload = header_bytes p (length payload) p.checksum ++ payload

-- the checksum over header and payload, its own field counted as 0
unfoldable pub checksum_of : Packet → List ℕ → ℕ
checksum_of p payload = checksum (header_bytes p (length payload) 0 ++ payload)

abbrev pub with_checksum : Packet → List ℕ → Packet
with_checksum p payload = record {
  seq_num = p.seq_num;
  pkt_type = p.pkt_type;
  flags = p.flags;
  checksum = checksum_of p payload;
}

-- the datagram with its checksum computed
abbrev pub made : Packet → List ℕ → List ℕ
made p payload = datagram (with_checksum p payload) payload

unfoldable pub matches : Packet → List ℕ → Bool
matches p payload = eqb p.checksum (checksum_of p payload)

-- 6
abbrev pub check_long : List ℕ → Check
check_long payload = check (ltb max_payload (length payload)) Long
