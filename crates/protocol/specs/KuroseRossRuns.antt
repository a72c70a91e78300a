-- The book's two ends fed the events of Trace, and when the ends here do the same.
use Rattle.std.specs.Prelude.{◌≡◌, ◌≢◌, ℕ, zero, suc, ◌%◌, ◌≤◌, List, [], ◌∷◌, ◌++◌, map, length}
use Rattle.protocol.specs.Machine.{Segment, SenderState, ReceiverState}
use Rattle.protocol.specs.PlainMachine.{send_chunk, handle_timeout, handle_data, handle_ack}
use Rattle.protocol.specs.Trace.{World, Event, sent, resent, received, acknowledged, other, step}
use Rattle.protocol.specs.KuroseRoss.{Data, Packet, Rcvpkt, corrupt, notcorrupt, SenderDid, ReceiverDid}
use Rattle.protocol.specs.KuroseRoss.{Rdt3Sender, wait_for_call, rdt3_send, rdt3_timeout, rdt3_sender_rcv}
use Rattle.protocol.specs.KuroseRoss.{rdt3_receiver_rcv, rdt3_packet, rdt3_sender_of, GbnSender, gbn_sender, gbn_send}
use Rattle.protocol.specs.KuroseRoss.{gbn_timeout, gbn_sender_rcv, GbnReceiver, gbn_receiver, gbn_receiver_rcv}
use Rattle.protocol.specs.KuroseRoss.{gbn_packet, gbn_receiver_of, GbnSenderIs, SrSender, sr_sender, sr_send}
use Rattle.protocol.specs.KuroseRoss.{sr_timeout, sr_sender_rcv, SrReceiver, sr_receiver, sr_receiver_rcv, sr_packet}
use Rattle.protocol.specs.KuroseRoss.{SrSenderIs, SrReceiverIs}
use Rattle.protocol.specs.declared.ProtocolType.{ProtocolType}
use Rattle.protocol.specs.declared.ProtocolType.TheVariants.{StopAndWait, GoBackN, SelectiveRepeat}

-- a protocol of the book; `timeouts` is what is sent again where the ends here send k numbers from n on again;
-- `packet` and `ack` say what a segment and the number of an ACK are in the book
pub record Book : Type 1 where
  pub Sender : Type 0
  pub Receiver : Type 0
  pub new_sender : (ℕ → Packet) → Sender
  pub new_receiver : Receiver
  pub rdt_send : Sender → Data → SenderDid Sender
  pub timeouts : Sender → ℕ → ℕ → List Packet
  pub sender_rcv : Sender → Rcvpkt ℕ → Sender
  pub receiver_rcv : Receiver → Rcvpkt Packet → ReceiverDid Receiver
  pub packet : Segment → Packet
  pub ack : ℕ → ℕ

-- one timeout for each number
abbrev pub sr_timeouts : SrSender → ℕ → ℕ → List Packet
sr_timeouts s n zero = []
sr_timeouts s n (suc k) = (sr_timeout s n).udt_send ++ sr_timeouts s (suc n) k

abbrev pub book : ProtocolType → ℕ → Book
book StopAndWait w =
    record {
      Sender = Rdt3Sender;
      Receiver = ℕ;
      new_sender = λ f. wait_for_call 0;
      new_receiver = 0;
      rdt_send = rdt3_send;
      timeouts = λ s n k. (rdt3_timeout s).udt_send;
      sender_rcv = rdt3_sender_rcv;
      receiver_rcv = rdt3_receiver_rcv;
      packet = rdt3_packet;
      ack = λ n. n % 2;
    }
book GoBackN w =
    record {
      Sender = GbnSender;
      Receiver = GbnReceiver;
      new_sender = gbn_sender;
      new_receiver = gbn_receiver;
      rdt_send = gbn_send w;
      timeouts = λ s n k. (gbn_timeout s).udt_send;
      sender_rcv = gbn_sender_rcv;
      receiver_rcv = gbn_receiver_rcv;
      packet = gbn_packet;
      ack = suc;
    }
book SelectiveRepeat w =
    record {
      Sender = SrSender;
      Receiver = SrReceiver;
      new_sender = sr_sender;
      new_receiver = sr_receiver;
      rdt_send = sr_send w;
      timeouts = sr_timeouts;
      sender_rcv = sr_sender_rcv w;
      receiver_rcv = sr_receiver_rcv w;
      packet = sr_packet;
      ack = λ n. n;
    }

-- as World
pub record BookWorld (B : Book) : Type 0 where
  pub sender : B.Sender
  pub receiver : B.Receiver
  pub delivered : List Data
  pub packets : List Packet
  pub acks : List ℕ

abbrev pub new_book_world : (B : Book) → (ℕ → Packet) → BookWorld B
new_book_world B f = record {
  sender = B.new_sender f;
  receiver = B.new_receiver;
  delivered = [];
  packets = [];
  acks = [];
}

abbrev pub at_sender : (B : Book) → BookWorld B → B.Sender → List Packet → BookWorld B
at_sender B v s ps = record {
  sender = s;
  receiver = v.receiver;
  delivered = v.delivered;
  packets = v.packets ++ ps;
  acks = v.acks;
}

abbrev pub at_receiver : (B : Book) → BookWorld B → ReceiverDid B.Receiver → BookWorld B
at_receiver B v a =
    record {
      sender = v.sender;
      receiver = a.after;
      delivered = v.delivered ++ a.deliver_data;
      packets = v.packets;
      acks = v.acks ++ a.udt_send;
    }

-- Data or an ACK handed over without effect is corrupt; a chunk not taken is not handed to the book's sender
abbrev pub book_step : (B : Book) → BookWorld B → Event → BookWorld B
book_step B v (sent c) = at_sender B v (B.rdt_send v.sender c).after (B.rdt_send v.sender c).udt_send
book_step B v (resent n k) = at_sender B v v.sender (B.timeouts v.sender n k)
book_step B v (received q) = at_receiver B v (B.receiver_rcv v.receiver (notcorrupt (B.packet q)))
book_step B v (acknowledged n) = at_sender B v (B.sender_rcv v.sender (notcorrupt (B.ack n))) []
book_step B v (other (send_chunk c)) = v
book_step B v (other handle_timeout) = at_sender B v v.sender (B.timeouts v.sender 0 0)
book_step B v (other (handle_data n)) = at_receiver B v (B.receiver_rcv v.receiver corrupt)
book_step B v (other (handle_ack n)) = at_sender B v (B.sender_rcv v.sender corrupt) []

abbrev pub book_run : (B : Book) → BookWorld B → List Event → BookWorld B
book_run B v [] = v
book_run B v (e ∷ es) = book_run B (book_step B v e) es

-- the same states, and the same deliveries, packets and ACKs in the same order
abbrev pub SenderIs : (p : ProtocolType) (w : ℕ) → (book p w).Sender → SenderState → Type 0
SenderIs StopAndWait w b s = b ≡ rdt3_sender_of s
SenderIs GoBackN w b s = GbnSenderIs b s
SenderIs SelectiveRepeat w b s = SrSenderIs w b s

abbrev pub ReceiverIs : (p : ProtocolType) (w : ℕ) → (book p w).Receiver → ReceiverState → Type 0
ReceiverIs StopAndWait w b r = b ≡ r.base % 2
ReceiverIs GoBackN w b r = b ≡ gbn_receiver_of r
ReceiverIs SelectiveRepeat w b r = SrReceiverIs w b r

pub record WorldIs (p : ProtocolType) (w : ℕ) (b : BookWorld (book p w)) (v : World) : Type 0 where
  pub sender_is : SenderIs p w b.sender v.sender
  pub receiver_is : ReceiverIs p w b.receiver v.receiver
  pub same_delivered : b.delivered ≡ v.delivered
  pub same_packets : b.packets ≡ map (book p w).packet v.segments
  pub same_acks : b.acks ≡ map (book p w).ack v.acks

-- where it is so. Selective Repeat: always
abbrev pub InOrderOnly : ProtocolType → Type 0 → Type 0
InOrderOnly StopAndWait X = X
InOrderOnly GoBackN X = X
InOrderOnly SelectiveRepeat X = Unit {0}

-- the number of a packet. Stop-and-Wait: no other of the same parity as the one expected; Go-Back-N: no other before
-- the first
abbrev pub NumberLikeBook : ProtocolType → ℕ → ℕ → Type 0
NumberLikeBook StopAndWait expected n = n % 2 ≡ expected % 2 → n ≡ expected
NumberLikeBook GoBackN expected n = expected ≡ 0 → n ≡ 0
NumberLikeBook SelectiveRepeat expected n = Unit {0}

-- the number of an ACK. Stop-and-Wait: while a chunk is outstanding, no other of the same parity as base; Go-Back-N:
-- none older than the last
abbrev pub AckLikeBook : ProtocolType → SenderState → ℕ → Type 0
AckLikeBook StopAndWait s n = s.chunks ≢ [] → n % 2 ≡ s.base % 2 → n ≡ s.base
AckLikeBook GoBackN s n = s.base ≤ suc n
AckLikeBook SelectiveRepeat s n = Unit {0}

-- and in both: a timeout sends all that is outstanding, and no packet to the receiver is corrupt
abbrev pub LikeBook : ProtocolType → World → Event → Type 0
LikeBook p v (sent c) = Unit {0}
LikeBook p v (resent n k) = InOrderOnly p ((n ≡ v.sender.base) × (k ≡ length v.sender.chunks))
LikeBook p v (received q) = NumberLikeBook p v.receiver.base q.number
LikeBook p v (acknowledged n) = AckLikeBook p v.sender n
LikeBook p v (other (send_chunk c)) = Unit {0}
LikeBook p v (other handle_timeout) = InOrderOnly p (v.sender.chunks ≡ [])
LikeBook p v (other (handle_data n)) = InOrderOnly p ⊥
LikeBook p v (other (handle_ack n)) = Unit {0}

abbrev pub AllLikeBook : ProtocolType → ℕ → World → List Event → Type 0
AllLikeBook p w v [] = Unit {0}
AllLikeBook p w v (e ∷ es) = LikeBook p v e × AllLikeBook p w (step p w v e) es
