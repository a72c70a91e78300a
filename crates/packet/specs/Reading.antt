-- Document 01, `packet.rs` and "Turned away" 1, 2, 3: what a datagram reads as. Bytes after the declared payload are
-- ignored.
use Rattle.std.specs.Prelude.{ℕ, ◌+◌, ◌-◌, ◌*◌, List, [], ◌∷◌, Bool, true, false, cond, not, length, get_or, take, drop}
use Rattle.std.specs.Prelude.{ltb, leb, eqb, Err, Ok, Result}
use Rattle.bounds.specs.Bounds.{header_size}
use Rattle.refusal.specs.declared.Refusal.TheVariants.{Short, Kind, Cut}
use Rattle.refusal.specs.Order.{Check, check, verdict, decide}
use Rattle.packet.specs.Format.{matches, check_long}
use Rattle.packet.specs.declared.PacketType.{PacketType}
use Rattle.packet.specs.declared.PacketType.TheVariants.{Data, Ack, Fin}
use Rattle.packet.specs.declared.Packet.{Packet}
use Rattle.packet.specs.declared.DatagramReading.{DatagramReading}
use Rattle.packet.specs.declared.DatagramReading.TheVariants as reading
use Rattle.refusal.specs.declared.Refusal.{Refusal}

abbrev pub is_type : ℕ → Bool
is_type b = cond (leb 1 b) (leb b 3) false

abbrev pub type_of : ℕ → PacketType
type_of b = cond (eqb b 1) Data (cond (eqb b 2) Ack Fin)

abbrev pub check_type : ℕ → Check
check_type b = check (not (is_type b)) (Kind b)

unfoldable pub try_from : ℕ → Result PacketType Refusal
try_from b = decide (verdict (check_type b ∷ [])) Err (Ok (type_of b))

-- the payload length that the header declares, and the bytes that follow the header
abbrev pub declared : List ℕ → ℕ
declared raw = get_or raw 6 0 * 256 + get_or raw 7 0

abbrev pub present : List ℕ → ℕ
present raw = length raw - header_size

unfoldable pub read_checks : List ℕ → List Check
read_checks raw =
    check (ltb (length raw) header_size) (Short (length raw)) ∷ check_type (get_or raw 4 0)
    ∷ check (ltb (present raw) (declared raw)) (Cut (declared raw) (present raw)) ∷ []

unfoldable pub header_of : List ℕ → Packet
header_of raw = record {
  seq_num = ((get_or raw 0 0 * 256 + get_or raw 1 0) * 256 + get_or raw 2 0) * 256 + get_or raw 3 0;
  pkt_type = type_of (get_or raw 4 0);
  flags = get_or raw 5 0;
  checksum = get_or raw 8 0 * 256 + get_or raw 9 0;
}

unfoldable pub payload_part : List ℕ → List ℕ
payload_part raw = take (declared raw) (drop header_size raw)

unfoldable pub from_bytes : List ℕ → Result Packet Refusal
from_bytes raw = decide (verdict (read_checks raw)) Err (Ok (header_of raw))

-- empty where reading is refused
unfoldable pub payload_of : List ℕ → List ℕ
payload_of raw = decide (verdict (read_checks raw)) (λ r. []) (payload_part raw)

unfoldable pub validity : List ℕ → Result Bool Refusal
validity raw =
    decide (verdict (read_checks raw)) Err
    (cond (matches (header_of raw) (payload_part raw)) (Ok true) (Ok false))

-- given to a sender or a receiver, its payload is at most 1,400 bytes long too
abbrev pub given_checks : List ℕ → List Check
given_checks raw = check_long (payload_of raw) ∷ read_checks raw

unfoldable pub read_datagram : List ℕ → Result DatagramReading Refusal
read_datagram raw =
    decide (verdict (given_checks raw)) Err
    (cond (matches (header_of raw) (payload_of raw)) (Ok (reading.Valid (header_of raw)))
    (Ok (reading.Corrupted (header_of raw))))

-- a refused reading, as a check among those of the call that is given the datagram
abbrev pub reading_checks : Result DatagramReading Refusal → List Check
reading_checks (Ok (reading.Valid p)) = []
reading_checks (Ok (reading.Corrupted p)) = []
reading_checks (Err r) = check true r ∷ []
