-- J. Kurose, K. Ross, Computer Networking, section 3.4: events and actions of rdt3.0, Go-Back-N and Selective Repeat,
-- in the book's names. start_timer and stop_timer are left out: the host keeps the timers, and a timeout is an event
-- like the others.
use Rattle.std.specs.Prelude.{◌≡◌, ℕ, zero, suc, ◌+◌, ◌-◌, ◌%◌, ◌≤◌, ◌<◌, Bool, true, false, cond, ◌&&◌, List, [], ◌∷◌}
use Rattle.std.specs.Prelude.{map, length, get_or, ltb, leb, eqb, Option, None, Some}
use Rattle.protocol.specs.Runs.{lead, up_from}
use Rattle.protocol.specs.Machine.{Chunk, Segment, SenderState, ReceiverState, Received, next_number}

abbrev pub Data : Type 0
Data = List ℕ

pub record Packet : Type 0 where
  pub seqnum : ℕ
  pub payload : Data

abbrev pub make_pkt : ℕ → Data → Packet
make_pkt n d = record { seqnum = n; payload = d }

-- what rdt_rcv brings: to a receiver a packet, to a sender the number of an ACK
pub data Rcvpkt (X : Type 0) : Type 0 where
  corrupt : Rcvpkt X
  notcorrupt : X → Rcvpkt X

-- a sender after an event, and the packets given to udt_send
pub record SenderDid (S : Type 0) : Type 0 where
  pub after : S
  pub udt_send : List Packet

abbrev pub sender_did : {S : Type 0} → S → List Packet → SenderDid S
sender_did s ps = record { after = s; udt_send = ps }

-- a receiver after an event, the data given to deliver_data, and the numbers of the ACKs given to udt_send
pub record ReceiverDid (R : Type 0) : Type 0 where
  pub after : R
  pub deliver_data : List Data
  pub udt_send : List ℕ

abbrev pub receiver_did : {R : Type 0} → R → List Data → List ℕ → ReceiverDid R
receiver_did r ds ns = record { after = r; deliver_data = ds; udt_send = ns }

-- ---- rdt3.0; its receiver is that of rdt2.2

-- "wait for call 0 from above", "wait for ACK 0" with sndpkt, and the same for 1
pub data Rdt3Sender : Type 0 where
  wait_for_call : ℕ → Rdt3Sender
  wait_for_ack : ℕ → Packet → Rdt3Sender

-- the other one of 0 and 1
abbrev pub other : ℕ → ℕ
other n = 1 - n

-- rdt_send(data); nothing is called from above while an ACK is waited for
abbrev pub rdt3_send : Rdt3Sender → Data → SenderDid Rdt3Sender
rdt3_send (wait_for_call n) d = sender_did (wait_for_ack n (make_pkt n d)) (make_pkt n d ∷ [])
rdt3_send (wait_for_ack n p) d = sender_did (wait_for_ack n p) []

-- the timer runs only while an ACK is waited for
abbrev pub rdt3_timeout : Rdt3Sender → SenderDid Rdt3Sender
rdt3_timeout (wait_for_call n) = sender_did (wait_for_call n) []
rdt3_timeout (wait_for_ack n p) = sender_did (wait_for_ack n p) (p ∷ [])

-- rdt_rcv(rcvpkt) at the sender: isACK(rcvpkt, n), or nothing is done
abbrev pub rdt3_sender_rcv : Rdt3Sender → Rcvpkt ℕ → Rdt3Sender
rdt3_sender_rcv (wait_for_call n) p = wait_for_call n
rdt3_sender_rcv (wait_for_ack n p) corrupt = wait_for_ack n p
rdt3_sender_rcv (wait_for_ack n p) (notcorrupt a) = cond (eqb a n) (wait_for_call (other n)) (wait_for_ack n p)

-- "wait for n from below": a packet that is corrupt or has the other number is answered with the ACK of the other
abbrev pub rdt3_receiver_rcv : ℕ → Rcvpkt Packet → ReceiverDid ℕ
rdt3_receiver_rcv n corrupt = receiver_did n [] (other n ∷ [])
rdt3_receiver_rcv n (notcorrupt p) =
    cond (eqb p.seqnum n)
    (receiver_did (other n) (p.payload ∷ []) (n ∷ []))
    (receiver_did n [] (other n ∷ []))

-- ---- arrays over the numbers

-- f[n] = x
abbrev pub store : {X : Type 0} → (ℕ → X) → ℕ → X → ℕ → X
store f n x m = cond (eqb m n) x (f m)

-- n lies in [from, from + size - 1]
abbrev pub within : ℕ → ℕ → ℕ → Bool
within from size n = leb from n && ltb n (from + size)

-- ---- Go-Back-N

pub record GbnSender : Type 0 where
  pub base : ℕ
  pub nextseqnum : ℕ
  pub sndpkt : ℕ → Packet

-- numbers start at 1; sndpkt holds anything
abbrev pub gbn_sender : (ℕ → Packet) → GbnSender
gbn_sender f = record { base = 1; nextseqnum = 1; sndpkt = f }

-- rdt_send(data): sent if nextseqnum < base + N, else refuse_data(data)
abbrev pub gbn_send : ℕ → GbnSender → Data → SenderDid GbnSender
gbn_send N s d =
    cond (ltb s.nextseqnum (s.base + N))
    (sender_did
    (record {
      base = s.base;
      nextseqnum = s.nextseqnum + 1;
      sndpkt = store s.sndpkt s.nextseqnum (make_pkt s.nextseqnum d);
    })
    (make_pkt s.nextseqnum d ∷ []))
    (sender_did s [])

-- sndpkt[base] to sndpkt[nextseqnum - 1]
abbrev pub gbn_timeout : GbnSender → SenderDid GbnSender
gbn_timeout s = sender_did s (map s.sndpkt (up_from s.base (s.nextseqnum - s.base)))

-- base = getacknum(rcvpkt) + 1
abbrev pub gbn_sender_rcv : GbnSender → Rcvpkt ℕ → GbnSender
gbn_sender_rcv s corrupt = s
gbn_sender_rcv s (notcorrupt a) = record { base = a + 1; nextseqnum = s.nextseqnum; sndpkt = s.sndpkt }

-- sndpkt is an ACK: its number
pub record GbnReceiver : Type 0 where
  pub expectedseqnum : ℕ
  pub sndpkt : ℕ

abbrev pub gbn_receiver : GbnReceiver
gbn_receiver = record { expectedseqnum = 1; sndpkt = 0 }

-- notcorrupt and hasseqnum(rcvpkt, expectedseqnum), or the default: udt_send(sndpkt)
abbrev pub gbn_receiver_rcv : GbnReceiver → Rcvpkt Packet → ReceiverDid GbnReceiver
gbn_receiver_rcv r corrupt = receiver_did r [] (r.sndpkt ∷ [])
gbn_receiver_rcv r (notcorrupt p) =
    cond (eqb p.seqnum r.expectedseqnum)
    (receiver_did
    (record { expectedseqnum = r.expectedseqnum + 1; sndpkt = r.expectedseqnum })
    (p.payload ∷ [])
    (r.expectedseqnum ∷ []))
    (receiver_did r [] (r.sndpkt ∷ []))

-- ---- Selective Repeat

pub record SrSender : Type 0 where
  pub send_base : ℕ
  pub nextseqnum : ℕ
  pub sndpkt : ℕ → Packet
  pub marked_received : ℕ → Bool

abbrev pub sr_sender : (ℕ → Packet) → SrSender
sr_sender f = record { send_base = 0; nextseqnum = 0; sndpkt = f; marked_received = λ n. false }

-- 1. Data received from above: sent if the number is in the sender's window, else returned to the upper layer
abbrev pub sr_send : ℕ → SrSender → Data → SenderDid SrSender
sr_send N s d =
    cond (within s.send_base N s.nextseqnum)
    (sender_did
    (record {
      send_base = s.send_base;
      nextseqnum = s.nextseqnum + 1;
      sndpkt = store s.sndpkt s.nextseqnum (make_pkt s.nextseqnum d);
      marked_received = s.marked_received;
    })
    (make_pkt s.nextseqnum d ∷ []))
    (sender_did s [])

-- 2. Timeout of packet n, which alone is transmitted
abbrev pub sr_timeout : SrSender → ℕ → SenderDid SrSender
sr_timeout s n = sender_did s (s.sndpkt n ∷ [])

abbrev pub mark_received : SrSender → ℕ → SrSender
mark_received s n =
    record {
      send_base = s.send_base;
      nextseqnum = s.nextseqnum;
      sndpkt = s.sndpkt;
      marked_received = store s.marked_received n true;
    }

-- the unacknowledged packet with the smallest number; nextseqnum if all that were sent are acknowledged
abbrev pub smallest_unacknowledged : SrSender → ℕ
smallest_unacknowledged s =
    s.send_base + lead (map s.marked_received (up_from s.send_base (s.nextseqnum - s.send_base)))

abbrev pub move_send_base : SrSender → SrSender
move_send_base s =
    record {
      send_base = smallest_unacknowledged s;
      nextseqnum = s.nextseqnum;
      sndpkt = s.sndpkt;
      marked_received = s.marked_received;
    }

-- 3. ACK received: the packet is marked as received if it is in the window; if its number is send_base, the base is
-- moved
abbrev pub sr_sender_rcv : ℕ → SrSender → Rcvpkt ℕ → SrSender
sr_sender_rcv N s corrupt = s
sr_sender_rcv N s (notcorrupt a) =
    cond (within s.send_base N a)
    (cond (eqb a s.send_base) (move_send_base (mark_received s a)) (mark_received s a))
    s

pub record SrReceiver : Type 0 where
  pub rcv_base : ℕ
  pub buffer : ℕ → Option Data

abbrev pub sr_receiver : SrReceiver
sr_receiver = record { rcv_base = 0; buffer = λ n. None }

-- buffered if it was not previously received
abbrev pub buffered : Option Data → Data → Option Data
buffered (Some c) d = Some c
buffered None d = Some d

abbrev pub buffer_pkt : SrReceiver → Packet → SrReceiver
buffer_pkt r p = record {
  rcv_base = r.rcv_base;
  buffer = store r.buffer p.seqnum (buffered (r.buffer p.seqnum) p.payload);
}

abbrev pub then_next : Option Data → List Data → List Data
then_next None ds = []
then_next (Some d) ds = d ∷ ds

-- the buffered and consecutively numbered packets beginning with number n, up to k of them
abbrev pub consecutive : (ℕ → Option Data) → ℕ → ℕ → List Data
consecutive f n zero = []
consecutive f n (suc k) = then_next (f n) (consecutive f (suc n) k)

-- they are delivered, and the window is moved forward by their number
abbrev pub deliver_buffered : ℕ → SrReceiver → List ℕ → ReceiverDid SrReceiver
deliver_buffered N r ns =
    receiver_did
    (record { rcv_base = r.rcv_base + length (consecutive r.buffer r.rcv_base N); buffer = r.buffer })
    (consecutive r.buffer r.rcv_base N)
    ns

-- 1. in [rcv_base, rcv_base + N - 1]: an ACK; buffered; delivered if the number is rcv_base
abbrev pub sr_in_window : ℕ → SrReceiver → Packet → ReceiverDid SrReceiver
sr_in_window N r p =
    cond (eqb p.seqnum r.rcv_base)
    (deliver_buffered N (buffer_pkt r p) (p.seqnum ∷ []))
    (receiver_did (buffer_pkt r p) [] (p.seqnum ∷ []))

-- 2. in [rcv_base - N, rcv_base - 1]: an ACK. 3. Otherwise: ignored
abbrev pub sr_receiver_rcv : ℕ → SrReceiver → Rcvpkt Packet → ReceiverDid SrReceiver
sr_receiver_rcv N r corrupt = receiver_did r [] []
sr_receiver_rcv N r (notcorrupt p) =
    cond (within r.rcv_base N p.seqnum)
    (sr_in_window N r p)
    (cond (leb (r.rcv_base - N) p.seqnum && ltb p.seqnum r.rcv_base) (receiver_did r [] (p.seqnum ∷ []))
    (receiver_did r [] []))

-- ---- what of the ends stands for what of the book

-- rdt3.0: numbers modulo 2, and a chunk outstanding is waited for
abbrev pub rdt3_packet : Segment → Packet
rdt3_packet q = make_pkt (q.number % 2) q.payload

abbrev pub rdt3_waits : ℕ → List Chunk → Rdt3Sender
rdt3_waits n [] = wait_for_call (n % 2)
rdt3_waits n (c ∷ cs) = wait_for_ack (n % 2) (make_pkt (n % 2) c)

abbrev pub rdt3_sender_of : SenderState → Rdt3Sender
rdt3_sender_of s = rdt3_waits s.base s.chunks

abbrev pub rdt3_answer : Received → ReceiverDid ℕ
rdt3_answer a = receiver_did (a.after.base % 2) a.delivered (map (λ n. n % 2) a.acks)

-- Go-Back-N: the book's numbers are higher by 1
abbrev pub gbn_packet : Segment → Packet
gbn_packet q = make_pkt (suc q.number) q.payload

abbrev pub gbn_receiver_of : ReceiverState → GbnReceiver
gbn_receiver_of r = record { expectedseqnum = suc r.base; sndpkt = r.base }

abbrev pub gbn_answer : Received → ReceiverDid GbnReceiver
gbn_answer a = receiver_did (gbn_receiver_of a.after) a.delivered (map suc a.acks)

-- sndpkt holds the chunks, numbered from n on
abbrev pub SndpktHolds : (ℕ → Packet) → ℕ → List Chunk → Type 0
SndpktHolds f n cs = (i : ℕ) → i < length cs → f (n + i) ≡ make_pkt (n + i) (get_or cs i [])

pub record GbnSenderIs (b : GbnSender) (s : SenderState) : Type 0 where
  pub base_is : b.base ≡ suc s.base
  pub next_is : b.nextseqnum ≡ suc (next_number s)
  pub holds : SndpktHolds b.sndpkt (suc s.base) s.chunks

-- Selective Repeat: the same numbers; at most N outstanding, and send_base is not acknowledged
abbrev pub sr_packet : Segment → Packet
sr_packet q = make_pkt q.number q.payload

pub record SrSenderIs (N : ℕ) (b : SrSender) (s : SenderState) : Type 0 where
  pub base_is : b.send_base ≡ s.base
  pub next_is : b.nextseqnum ≡ next_number s
  pub holds : SndpktHolds b.sndpkt s.base s.chunks
  pub marks : (i : ℕ) → b.marked_received (s.base + i) ≡ get_or s.acknowledged i false
  pub as_many : length s.acknowledged ≡ length s.chunks
  pub fits : length s.chunks ≤ N
  pub base_unmarked : get_or s.acknowledged 0 false ≡ false

-- N places, and nothing is buffered past them or at rcv_base
pub record SrReceiverIs (N : ℕ) (b : SrReceiver) (r : ReceiverState) : Type 0 where
  pub base_is : b.rcv_base ≡ r.base
  pub places : length r.held ≡ N
  pub holds : (i : ℕ) → b.buffer (r.base + i) ≡ get_or r.held i None
  pub base_unbuffered : get_or r.held 0 None ≡ None

pub record SrAnswerIs (N : ℕ) (x : ReceiverDid SrReceiver) (y : Received) : Type 0 where
  pub after : SrReceiverIs N x.after y.after
  pub delivered : x.deliver_data ≡ y.delivered
  pub acks : x.udt_send ≡ y.acks
