-- Packets for a host: what a datagram reads as, whether it is valid, how long its payload is, and a datagram written.
use Rattle.std.specs.Prelude.{ℕ, ◌+◌, ◌*◌, min, List, [], ◌∷◌, Bool, length, ltb, Err, Ok, Result, false, true}
use Rattle.refusal.specs.Clauses.{any_of}
use Rattle.refusal.specs.declared.Refusal.TheVariants.{Numbers}
use Rattle.refusal.specs.Order.{check, verdict, decide}
use Rattle.packet.specs.Format.{byte_of, with_checksum, check_long}
use Rattle.packet.specs.Reading.{try_from, from_bytes, payload_of, validity}
use Rattle.packet.specs.Writing as writing
use Rattle.packet.specs.Writing.{Written, to_bytes}
use Rattle.packet.specs.declared.Packet.{Packet}
use Rattle.packet.specs.declared.PacketType.{PacketType}
use Rattle.host_answer.specs.Answer.{packed, done_status, invalid_status, refusal_answer, count_answer}
use Rattle.refusal.specs.declared.Refusal.{Refusal}

abbrev pub max_byte : ℕ
max_byte = 255

-- number in the lowest 32 bits of the value, the kind's byte in the next 8, the flags in the next 8
abbrev pub header_value : Packet → ℕ
header_value p = p.seq_num + byte_of p.pkt_type * 4294967296 + p.flags * 1099511627776

unfoldable pub read_code : Result Packet Refusal → ℕ
read_code (Ok p) = packed done_status (header_value p)
read_code (Err r) = refusal_answer r

abbrev pub read : List ℕ → ℕ
read raw = read_code (from_bytes raw)

unfoldable pub validity_code : Result Bool Refusal → ℕ
validity_code (Ok true) = packed done_status 0
validity_code (Ok false) = packed invalid_status 0
validity_code (Err r) = refusal_answer r

abbrev pub validate : List ℕ → ℕ
validate raw = validity_code (validity raw)

-- the payload stands behind the header; its length
unfoldable pub payload_code : Result Packet Refusal → List ℕ → ℕ
payload_code (Ok p) payload = packed done_status (length payload)
payload_code (Err r) payload = refusal_answer r

abbrev pub payload_length : List ℕ → ℕ
payload_length raw = payload_code (from_bytes raw) (payload_of raw)

-- the answer, and the lent buffer when the call returns
pub record WriteExit : Type 0 where
  pub answer : ℕ
  pub out : List ℕ

abbrev pub write_exit : ℕ → List ℕ → WriteExit
write_exit answer out = record { answer = answer; out = out }

abbrev pub length_code : Result ℕ Refusal → ℕ
length_code = count_answer

abbrev pub written : Written → WriteExit
written w = write_exit (length_code w.answer) w.out

abbrev pub packet_of : ℕ → PacketType → ℕ → Packet
packet_of n t flags = record { seq_num = n; pkt_type = t; flags = flags; checksum = 0 }

-- a number that the header's four bytes can't hold, or flags that its one can't
abbrev pub unwritable : ℕ → ℕ → Bool
unwritable n flags = any_of (ltb 4294967295 n ∷ ltb max_byte flags ∷ [])

-- the datagram with its checksum computed; 7 where number or flags have no place in it
unfoldable pub write_of : Result PacketType Refusal → ℕ → ℕ → List ℕ → List ℕ → Written
write_of (Ok t) n flags payload out =
    decide (verdict (check_long payload ∷ check (unwritable n flags) Numbers ∷ []))
    (λ r. writing.written (Err r) out)
    (to_bytes (with_checksum (packet_of n t flags) payload) payload out)
write_of (Err r) n flags payload out = writing.written (Err r) out

-- by the kind's byte: 1 Data, 2 Ack, 3 Fin, any other a 2; a kind above 255 is answered as 255
abbrev pub write_any : ℕ → ℕ → ℕ → List ℕ → List ℕ → Written
write_any kind n flags payload out = write_of (try_from (min kind max_byte)) n flags payload out

abbrev pub write : ℕ → ℕ → ℕ → List ℕ → List ℕ → WriteExit
write kind n flags payload out = written (write_any kind n flags payload out)
