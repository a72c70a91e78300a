-- Document 01, demand 3: lists of calls (a chunk to send, a timeout, a datagram handed to the receiver, an ACK handed
-- to the sender) over two ends, and what each end made so far. An end is handed only copies of what the other made
-- before, whole or with one bit flipped.
use Rattle.std.specs.Prelude.{ℕ, zero, suc, ◌+◌, ◌<◌, ◌≡◌, List, [], ◌∷◌, ◌++◌, Bool, true, false, ◌&&◌, length, get_or}
use Rattle.std.specs.Prelude.{take, drop}
use Rattle.bounds.specs.Bounds.{header_size}
use Rattle.octets.specs.Octets.{Octets}
use Rattle.octets.specs.Flip.{flip}
use Rattle.packet.specs.Reading.{declared, header_of}
use Rattle.protocol.specs.PlainMachine.{Fed, fed}
use Rattle.protocol.specs.PlainMachine as plain

-- a copy of the i-th datagram that the other end made, whole or with bit b of byte j turned over
pub data Copy : Type 0 where
  whole : ℕ → Copy
  flipped : ℕ → ℕ → ℕ → Copy

abbrev pub copy_bytes : List (List ℕ) → Copy → List ℕ
copy_bytes made (whole i) = get_or made i []
copy_bytes made (flipped i j b) = flip (get_or made i []) j b

abbrev pub is_whole : Copy → Bool
is_whole (whole i) = true
is_whole (flipped i j b) = false

-- one of those made before; not in the length bytes
abbrev pub IsCopy : List (List ℕ) → Copy → Type 0
IsCopy made (whole i) = i < length made
IsCopy made (flipped i j b) = (i < length made) × (j < length (get_or made i [])) × (b < 8) × (j ≡ 6 → ⊥) × (j ≡ 7 → ⊥)

-- a call with the buffers lent to it: a payload and the datagram's buffer; a timeout and the datagrams' buffer; a copy
-- and the ACK's buffer; a copy
pub data Call (Timeout : Type 0) : Type 0 where
  send : List ℕ → List ℕ → Call Timeout
  timeout : Timeout → List ℕ → Call Timeout
  to_receiver : Copy → List ℕ → Call Timeout
  to_sender : Copy → Call Timeout

-- what a call left: the state, the bytes that it wrote to its buffer; whether it was done: not refused, no full window,
-- no retry limit; and whether it was refused
pub record Done (S : Type 0) : Type 0 where
  pub after : S
  pub written : List ℕ
  pub is_done : Bool
  pub is_refused : Bool

abbrev pub done : {S : Type 0} → S → List ℕ → Bool → Bool → Done S
done s written is_done is_refused = record { after = s; written = written; is_done = is_done; is_refused = is_refused }

-- the two ends of a protocol, each state with its store, the receiver's with its output
pub record Ends : Type 1 where
  pub Sender : Type 0
  pub Receiver : Type 0
  pub Timeout : Type 0
  pub send_chunk : Sender → List ℕ → List ℕ → Done Sender
  pub handle_timeout : Sender → Timeout → List ℕ → Done Sender
  pub handle_ack : Sender → List ℕ → Done Sender
  pub handle_packet : Receiver → List ℕ → List ℕ → Done Receiver
  pub sender_base : Sender → ℕ
  pub receiver_base : Receiver → ℕ
  -- the output up to its fill mark, and behind it
  pub output : Receiver → List ℕ
  pub unwritten : Receiver → List ℕ

-- the ends, and all datagrams that the sender and the receiver made, oldest first
pub record World (E : Ends) : Type 0 where
  pub sender : E.Sender
  pub receiver : E.Receiver
  pub sent : List (List ℕ)
  pub replies : List (List ℕ)

abbrev pub fresh : (E : Ends) → E.Sender → E.Receiver → World E
fresh E s r = record { sender = s; receiver = r; sent = []; replies = [] }

-- datagrams that lie end to end, by the lengths in their headers
abbrev pub cut : ℕ → List ℕ → List (List ℕ)
cut zero raw = []
cut (suc n) [] = []
cut (suc n) (x ∷ raw) =
    take (header_size + declared (x ∷ raw)) (x ∷ raw) ∷ cut n (drop (header_size + declared (x ∷ raw)) (x ∷ raw))

unfoldable pub datagrams : List ℕ → List (List ℕ)
datagrams raw = cut (length raw) raw

abbrev pub by_sender : {E : Ends} → World E → Done E.Sender → World E
by_sender v d = record {
  sender = d.after;
  receiver = v.receiver;
  sent = v.sent ++ datagrams d.written;
  replies = v.replies;
}

abbrev pub by_receiver : {E : Ends} → World E → Done E.Receiver → World E
by_receiver v d = record {
  sender = v.sender;
  receiver = d.after;
  sent = v.sent;
  replies = v.replies ++ datagrams d.written;
}

unfoldable pub step : (E : Ends) → World E → Call E.Timeout → World E
step E v (send payload buffer) = by_sender v (E.send_chunk v.sender payload buffer)
step E v (timeout t buffer) = by_sender v (E.handle_timeout v.sender t buffer)
step E v (to_receiver c buffer) = by_receiver v (E.handle_packet v.receiver (copy_bytes v.sent c) buffer)
step E v (to_sender c) = by_sender v (E.handle_ack v.sender (copy_bytes v.replies c))

unfoldable pub run : (E : Ends) → World E → List (Call E.Timeout) → World E
run E v [] = v
run E v (c ∷ cs) = run E (step E v c) cs

-- each end is handed only copies of what the other made before; a payload's bytes are bytes
abbrev pub Allowed : {E : Ends} → World E → Call E.Timeout → Type 0
Allowed v (send payload buffer) = Octets payload
Allowed v (timeout t buffer) = Unit {0}
Allowed v (to_receiver c buffer) = IsCopy v.sent c
Allowed v (to_sender c) = IsCopy v.replies c

abbrev pub Admissible : (E : Ends) → World E → List (Call E.Timeout) → Type 0
Admissible E v [] = Unit {0}
Admissible E v (c ∷ cs) = Allowed v c × Admissible E (step E v c) cs

-- the number in a datagram
abbrev pub number_of : List ℕ → ℕ
number_of raw = (header_of raw).seq_num

-- what the plain machine is fed: a copy that isn't whole, and a call that isn't done, have no effect
unfoldable pub fed_by : (E : Ends) → World E → Call E.Timeout → Fed
fed_by E v (send payload buffer) = fed (plain.send_chunk payload) (E.send_chunk v.sender payload buffer).is_done
fed_by E v (timeout t buffer) = fed plain.handle_timeout (E.handle_timeout v.sender t buffer).is_done
fed_by E v (to_receiver c buffer) =
    fed (plain.handle_data (number_of (copy_bytes v.sent c)))
    (is_whole c && (E.handle_packet v.receiver (copy_bytes v.sent c) buffer).is_done)
fed_by E v (to_sender c) =
    fed (plain.handle_ack (number_of (copy_bytes v.replies c)))
    (is_whole c && (E.handle_ack v.sender (copy_bytes v.replies c)).is_done)

unfoldable pub fed_in : (E : Ends) → World E → List (Call E.Timeout) → List Fed
fed_in E v [] = []
fed_in E v (c ∷ cs) = fed_by E v c ∷ fed_in E (step E v c) cs
