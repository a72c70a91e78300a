-- Lists of calls over bytes, and the machines of Kurose and Ross, section 3.4, that are fed the same.
use Rattle.std.specs.Prelude.{ℕ, ◌≡◌, cond, ◌&&◌, length, get_or}
use mathlib.Core.List.{List, [], ◌∷◌, map, flatten}
use Rattle.packet.specs.Reading.{payload_of}
use Rattle.stop_and_wait.specs.Sender as stop_and_wait
use Rattle.refinement.specs.Follows.{sender_of, in_order_receiver_of, receiver_of}
use Rattle.protocol.specs.declared.ProtocolType.{ProtocolType}
use Rattle.protocol.specs.declared.ProtocolType.TheVariants.{StopAndWait, GoBackN, SelectiveRepeat}
use Rattle.protocol.specs.Machine.{Segment, SenderState, ReceiverState}
use Rattle.protocol.specs.PlainMachine as plain
use Rattle.protocol.specs.Trace as trace
use Rattle.protocol.specs.KuroseRossRuns.{book, BookWorld, SenderIs, ReceiverIs, LikeBook}
use Rattle.delivery.specs.Calls.{copy_bytes, is_whole, Call, send, timeout, to_receiver, to_sender, Ends, World, step}
use Rattle.delivery.specs.Calls.{number_of}
use Rattle.delivery.specs.Ends.{ends}
use Rattle.delivery.specs.Demand3.{made_by}

-- the number and the payload of a datagram
abbrev pub segment_in : List ℕ → Segment
segment_in raw = record { number = number_of raw; payload = payload_of raw }

-- What happened by a call: it took effect, or it didn't. A timeout sends as many datagrams as it made, from the number
-- of the first on.
unfoldable pub event_by : (E : Ends) → World E → Call E.Timeout → trace.Event
event_by E v (send payload buffer) =
    cond (E.send_chunk v.sender payload buffer).is_done (trace.sent payload) (trace.other (plain.send_chunk payload))
event_by E v (timeout t buffer) =
    cond (E.handle_timeout v.sender t buffer).is_done
    (trace.resent (number_of (get_or (made_by E v (timeout t buffer)) 0 [])) (length (made_by E v (timeout t buffer))))
    (trace.other plain.handle_timeout)
event_by E v (to_receiver c buffer) =
    cond (is_whole c && (E.handle_packet v.receiver (copy_bytes v.sent c) buffer).is_done)
    (trace.received (segment_in (copy_bytes v.sent c)))
    (trace.other (plain.handle_data (number_of (copy_bytes v.sent c))))
event_by E v (to_sender c) =
    cond (is_whole c && (E.handle_ack v.sender (copy_bytes v.replies c)).is_done)
    (trace.acknowledged (number_of (copy_bytes v.replies c)))
    (trace.other (plain.handle_ack (number_of (copy_bytes v.replies c))))

unfoldable pub events_in : (E : Ends) → World E → List (Call E.Timeout) → List trace.Event
events_in E v [] = []
events_in E v (c ∷ cs) = event_by E v c ∷ events_in E (step E v c) cs

-- what the ends hold, as numbers, marks and chunks
abbrev pub sender_in : (p : ProtocolType) → (ends p).Sender → SenderState
sender_in StopAndWait v = sender_of (stop_and_wait.window_end v)
sender_in GoBackN v = sender_of v
sender_in SelectiveRepeat v = sender_of v

abbrev pub receiver_in : (p : ProtocolType) → (ends p).Receiver → ReceiverState
receiver_in StopAndWait r = in_order_receiver_of r.receiver.expected_seq
receiver_in GoBackN r = in_order_receiver_of r.receiver.expected_seq
receiver_in SelectiveRepeat r =
    receiver_of r.receiver.state.window_size r.receiver.state.recv_base r.receiver.store

abbrev pub world_in : (p : ProtocolType) → World (ends p) → trace.World
world_in p v = record {
  sender = sender_in p v.sender;
  receiver = receiver_in p v.receiver;
  delivered = [];
  segments = map segment_in v.sent;
  acks = map number_of v.replies;
}

-- no call of the list departs from the book
abbrev pub CallsLikeBook : (p : ProtocolType) → World (ends p) → List (Call (ends p).Timeout) → Type 0
CallsLikeBook p v [] = Unit {0}
CallsLikeBook p v (c ∷ cs) = LikeBook p (world_in p v) (event_by (ends p) v c) × CallsLikeBook p (step (ends p) v c) cs

-- The ends hold what the book's do, the output is what the book delivered, and what was made are the book's packets and
-- ACKs, in the same order.
pub record HoldsBook (p : ProtocolType) (w : ℕ) (b : BookWorld (book p w)) (v : World (ends p)) : Type 0 where
  pub sender_is : SenderIs p w b.sender (sender_in p v.sender)
  pub receiver_is : ReceiverIs p w b.receiver (receiver_in p v.receiver)
  pub same_output : (ends p).output v.receiver ≡ flatten b.delivered
  pub same_packets : b.packets ≡ map (λ raw. (book p w).packet (segment_in raw)) v.sent
  pub same_acks : b.acks ≡ map (λ raw. (book p w).ack (number_of raw)) v.replies
