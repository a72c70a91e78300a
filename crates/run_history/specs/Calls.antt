-- Document 01, "Links that would ruin a book" (tallies from the history of calls): the calls of a run, oldest first,
-- and what they make of both ends and hand to the lines. Nothing here looks at a run's state.
use Rattle.std.specs.Prelude.{ℕ, ◌+◌, Bool, true, false, cond, not, ◌&&◌, List, [], ◌∷◌, ◌++◌, Err, None, Ok, Option}
use Rattle.std.specs.Prelude.{Result, Some}
use Rattle.packet.specs.Format.{new_packet, made}
use Rattle.packet.specs.Reading.{read_datagram}
use Rattle.packet.specs.declared.PacketType.TheVariants as packetType
use Rattle.window.specs.Sending.{SendExit}
use Rattle.receiver.specs.Receive.{ReceiveExit}
use Rattle.delivery.specs.Calls.{number_of}
use Rattle.delivery.specs.Ends.{bytes_sent}
use Rattle.path.specs.Path.{packet_buffer}
use Rattle.session.specs.Sending.{SenderEnd, window_of, send_chunk, handle_ack, resent}
use Rattle.session.specs.Receiving.{ReceiverEnd, is_cumulative, handle_packet}
use Rattle.session.specs.declared.Timeout.{Timeout}
use Rattle.receiving.specs.Receiving.{is_data, gbn_duplicate, new_duplicates, ack_buffer}
use Rattle.acks.specs.Acks.{ack_number, is_accepted}
use Rattle.refusal.specs.declared.Refusal.{Refusal}

pub data Call : Type 0 where
  -- a chunk is sent, and its datagram handed to the forward line; whether it was carried
  chunk : List ℕ → Bool → Call
  -- a timeout; of the datagrams that it wrote, those handed to the forward line, the first ones, with the same of each
  timeout : Timeout → List Bool → Call
  -- a copy from the forward line; whether the ACK that answers it, if any, was carried on the reverse line
  arrival : List ℕ → Bool → Call
  -- a copy from the reverse line; how long before it the segment whose round trip it ends was first sent
  return : List ℕ → ℕ → Call

-- ---- both ends, with the receiver's output
pub record Ends : Type 0 where
  pub sender : SenderEnd
  pub receiver : ReceiverEnd
  pub output : List ℕ

abbrev pub ends : SenderEnd → ReceiverEnd → List ℕ → Ends
ends v r output = record { sender = v; receiver = r; output = output }

-- a copy that reads as Data is a call of the receiver, one that reads as a valid ACK a call of the sender; any other is
-- no call
abbrev pub reads_as_data : List ℕ → Bool
reads_as_data raw = is_data (read_datagram raw)

abbrev pub is_number : Option ℕ → Bool
is_number None = false
is_number (Some n) = true

abbrev pub reads_as_ack : List ℕ → Bool
reads_as_ack raw = is_number (ack_number (read_datagram raw))

-- what a chunk and a copy are answered, in buffers of the size of a datagram and of an ACK
abbrev pub sent_by : Ends → List ℕ → SendExit SenderEnd
sent_by e payload = send_chunk e.sender payload packet_buffer

abbrev pub received_by : Ends → List ℕ → ReceiveExit ReceiverEnd
received_by e raw = handle_packet e.receiver raw e.output ack_buffer

abbrev pub after : Ends → Call → Ends
after e (chunk payload carried) = ends (sent_by e payload).after e.receiver e.output
after e (timeout t carried) = ends (resent e.sender t).after e.receiver e.output
after e (arrival raw carried) =
    cond (reads_as_data raw) (ends e.sender (received_by e raw).receiver (received_by e raw).output) e
after e (return raw age) = cond (reads_as_ack raw) (ends (handle_ack e.sender raw).after e.receiver e.output) e

unfoldable pub after_calls : Ends → List Call → Ends
after_calls e [] = e
after_calls e (c ∷ cs) = after_calls (after e c) cs

-- what each call makes, given the ends before it, in order; and a sum over the calls
unfoldable pub collect : {A : Type 0} → (Ends → Call → List A) → Ends → List Call → List A
collect f e [] = []
collect f e (c ∷ cs) = f e c ++ collect f (after e c) cs

unfoldable pub total : (Ends → Call → ℕ) → Ends → List Call → ℕ
total f e [] = 0
total f e (c ∷ cs) = f e c + total f (after e c) cs

-- ---- the chunks that were sent
abbrev pub chunk_by : Ends → Call → List (List ℕ)
chunk_by e (chunk payload carried) = payload ∷ []
chunk_by e (timeout t carried) = []
chunk_by e (arrival raw carried) = []
chunk_by e (return raw age) = []

abbrev pub next_number : Ends → ℕ
next_number e = (window_of e.sender.sender).next_seq_num

-- ---- what is handed to the forward line: a datagram of a number, first or again; whether it was carried
pub record Submission : Type 0 where
  pub seq : ℕ
  pub again : Bool
  pub wire : List ℕ
  pub carried : Bool

abbrev pub submission : ℕ → Bool → List ℕ → Bool → Submission
submission seq again wire carried = record { seq = seq; again = again; wire = wire; carried = carried }

-- the first datagrams of a timeout
abbrev pub resubmissions : List Bool → List (List ℕ) → List Submission
resubmissions [] wires = []
resubmissions (b ∷ carried) [] = []
resubmissions (b ∷ carried) (wire ∷ wires) = submission (number_of wire) true wire b ∷ resubmissions carried wires

abbrev pub submitted_by : Ends → Call → List Submission
submitted_by e (chunk payload carried) =
    let x = sent_by e payload in
    submission (next_number e) false (bytes_sent x.answer x.out) carried ∷ []
submitted_by e (timeout t carried) = resubmissions carried (resent e.sender t).packets
submitted_by e (arrival raw carried) = []
submitted_by e (return raw age) = []

-- ---- what is handed to the reverse line: the ACKs that the receiver answers with, of which number, whether it
-- acknowledges those before it too, and how many numbers had been sent
pub record Reply : Type 0 where
  pub number : ℕ
  pub cumulative : Bool
  pub sent : ℕ
  pub wire : List ℕ
  pub carried : Bool

abbrev pub reply : Result (Option ℕ) Refusal → Bool → ℕ → Bool → List Reply
reply (Ok (Some n)) cumulative sent carried =
    record {
      number = n;
      cumulative = cumulative;
      sent = sent;
      wire = made (new_packet n packetType.Ack) [];
      carried = carried;
    }
    ∷ []
reply (Ok None) cumulative sent carried = []
reply (Err r) cumulative sent carried = []

abbrev pub replied_by : Ends → Call → List Reply
replied_by e (chunk payload carried) = []
replied_by e (timeout t carried) = []
replied_by e (arrival raw carried) =
    let x = received_by e raw in
    cond (reads_as_data raw) (reply x.answer (is_cumulative x.receiver.receiver) (next_number e) carried) []
replied_by e (return raw age) = []

-- ---- counts: copies that each line handed over
abbrev pub arrived_in : Ends → Call → ℕ
arrived_in e (chunk payload carried) = 0
arrived_in e (timeout t carried) = 0
arrived_in e (arrival raw carried) = 1
arrived_in e (return raw age) = 0

abbrev pub returned_in : Ends → Call → ℕ
returned_in e (chunk payload carried) = 0
returned_in e (timeout t carried) = 0
returned_in e (arrival raw carried) = 0
returned_in e (return raw age) = 1

-- copies that read as Data, copies that read as valid ACKs, those of them that the sender didn't accept
abbrev pub one : Bool → ℕ
one true = 1
one false = 0

abbrev pub data_in : Ends → Call → ℕ
data_in e (chunk payload carried) = 0
data_in e (timeout t carried) = 0
data_in e (arrival raw carried) = one (reads_as_data raw)
data_in e (return raw age) = 0

-- of Data, what the receiver's own count of duplicates rises by, and for Go-Back-N, which has none, what comes late
abbrev pub duplicate_data_in : Ends → Call → ℕ
duplicate_data_in e (chunk payload carried) = 0
duplicate_data_in e (timeout t carried) = 0
duplicate_data_in e (arrival raw carried) =
    let before = e.receiver.receiver in
    let later = (received_by e raw).receiver.receiver in
    cond (reads_as_data raw) (new_duplicates before (gbn_duplicate before (read_datagram raw)) later) 0
duplicate_data_in e (return raw age) = 0

abbrev pub acks_in : Ends → Call → ℕ
acks_in e (chunk payload carried) = 0
acks_in e (timeout t carried) = 0
acks_in e (arrival raw carried) = 0
acks_in e (return raw age) = one (reads_as_ack raw)

abbrev pub duplicate_acks_in : Ends → Call → ℕ
duplicate_acks_in e (chunk payload carried) = 0
duplicate_acks_in e (timeout t carried) = 0
duplicate_acks_in e (arrival raw carried) = 0
duplicate_acks_in e (return raw age) = one (reads_as_ack raw && not (is_accepted (handle_ack e.sender raw).answer))
