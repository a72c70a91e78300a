-- Where the ends depart from Kurose and Ross: what each does, and the smallest input that shows it. Each is as the Rust does.
use mathlib.Core.Path.{◌≡◌, refl, ap, ◌∙◌}
use mathlib.Core.Logic.{◌≢◌}
use mathlib.Core.Bool.{Bool, true, false, cond}
use mathlib.Core.List.{[], ◌∷◌}
use Prim.Native.Nat.{ℕ, suc, ◌+◌, ◌-◌, ◌%◌, ◌≤◌, ◌<◌}
use native.Mathlib.Omega.{arith}
use lib.ListN.{length}
use lib.Dec.{leb, ltb, eqb}
use borrow.Author.Tests.{lt-ltb, le-ltb, le-leb, eq-eqb, ne_eqb}
use Rattle.protocol.specs.Machine.{Chunk, Segment, SenderState, ReceiverState, received, next_number, new_sender, new_receiver, send, acknowledge, receive}
use Rattle.protocol.specs.Trace
use Rattle.protocol.specs.PlainMachine.{Call}
use Rattle.protocol.specs.KuroseRoss.{Packet, make_pkt, corrupt, notcorrupt, sender_did, receiver_did, Rdt3Sender, wait_for_call, wait_for_ack, other, rdt3_timeout, rdt3_sender_rcv, rdt3_receiver_rcv, rdt3_packet, rdt3_sender_of, GbnSender, gbn_sender, gbn_send, gbn_sender_rcv, GbnReceiver, gbn_receiver, gbn_receiver_rcv, gbn_packet, GbnSenderIs, SrSender, sr_sender, mark_received, move_send_base, sr_sender_rcv, SrReceiver, sr_receiver_rcv, SrSenderIs}
use Rattle.protocol.specs.declared.ProtocolType.{ProtocolType}
use Rattle.protocol.specs.declared.ProtocolType.TheVariants.{StopAndWait, GoBackN, SelectiveRepeat}
use Rattle.protocol.proofs.KuroseRoss.{acknowledge_below, acknowledge_above, stop_and_wait_ignores}

-- a segment without payload
abbrev pub empty : ℕ → Segment
empty n = record { number = n; payload = [] }

-- ---- corrupt packets, and timeouts past the retry limit

-- here no end does anything on a corrupt packet, nor the Stop-and-Wait sender at a timeout past its retry limit
pub without_effect : (p : ProtocolType) (w : ℕ) (v : Trace.World) (c : Call) → Trace.step p w v (Trace.other c) ≡ v
unfolding Trace.step
without_effect p w v c = refl

-- the book's senders and its Selective Repeat receiver do nothing either
pub rdt3_sender_corrupt : (s : Rdt3Sender) → rdt3_sender_rcv s corrupt ≡ s
rdt3_sender_corrupt (wait_for_call n) = refl
rdt3_sender_corrupt (wait_for_ack n p) = refl

pub gbn_sender_corrupt : (s : GbnSender) → gbn_sender_rcv s corrupt ≡ s
gbn_sender_corrupt s = refl

pub sr_sender_corrupt : (N : ℕ) (s : SrSender) → sr_sender_rcv N s corrupt ≡ s
sr_sender_corrupt N s = refl

pub sr_receiver_corrupt : (N : ℕ) (r : SrReceiver) → sr_receiver_rcv N r corrupt ≡ receiver_did r [] []
sr_receiver_corrupt N r = refl

-- its other receivers answer
pub rdt3_receiver_corrupt : (n : ℕ) → rdt3_receiver_rcv n corrupt ≡ receiver_did n [] (other n ∷ [])
rdt3_receiver_corrupt n = refl

pub gbn_receiver_corrupt : (r : GbnReceiver) → gbn_receiver_rcv r corrupt ≡ receiver_did r [] (r.sndpkt ∷ [])
gbn_receiver_corrupt r = refl

-- smallest: a corrupt packet first
pub rdt3_receiver_corrupt_smallest : rdt3_receiver_rcv 0 corrupt ≡ receiver_did 0 [] (1 ∷ [])
rdt3_receiver_corrupt_smallest = refl

pub gbn_receiver_corrupt_smallest : gbn_receiver_rcv gbn_receiver corrupt ≡ receiver_did gbn_receiver [] (0 ∷ [])
gbn_receiver_corrupt_smallest = refl

-- the book's rdt3.0 sender has no retry limit
pub rdt3_no_retry_limit : (n : ℕ) (p : Packet) → rdt3_timeout (wait_for_ack n p) ≡ sender_did (wait_for_ack n p) (p ∷ [])
rdt3_no_retry_limit n p = refl

-- smallest: limit 0, an empty chunk outstanding, a timeout
pub rdt3_no_retry_limit_smallest : (rdt3_timeout (rdt3_sender_of (send new_sender []))).udt_send ≡ make_pkt 0 [] ∷ []
unfolding send
rdt3_no_retry_limit_smallest = refl

-- ---- rdt3.0

-- an ACK of another number of the same parity: the book goes on, the sender here waits
pub rdt3_ack_same_parity : (s : SenderState) (c : Chunk) (n : ℕ) → s.chunks ≡ c ∷ [] → n ≢ s.base → n % 2 ≡ s.base % 2
    → (acknowledge StopAndWait s n ≡ s) × (rdt3_sender_rcv (rdt3_sender_of s) (notcorrupt (n % 2)) ≡ wait_for_call (other (s.base % 2)))
rdt3_ack_same_parity s c n e h p =
    let l : length s.chunks ≡ 1 = ap length e in
    let x : eqb (n % 2) (s.base % 2) ≡ true = eq-eqb (n % 2) (s.base % 2) p in
    (stop_and_wait_ignores s n (omega arith) h, rw e (rw x))

-- smallest: ACK 2 while 0 is outstanding
pub rdt3_ack_same_parity_smallest : (acknowledge StopAndWait (send new_sender []) 2 ≡ send new_sender [])
    × (rdt3_sender_rcv (rdt3_sender_of (send new_sender [])) (notcorrupt (2 % 2)) ≡ wait_for_call 1)
unfolding acknowledge send
rdt3_ack_same_parity_smallest = (refl, refl)

-- a packet of another number of the same parity: the book delivers it, the receiver here never
pub rdt3_receive_same_parity : (w : ℕ) (r : ReceiverState) (q : Segment) → q.number ≢ r.base → q.number % 2 ≡ r.base % 2
    → ((receive StopAndWait w r q).delivered ≡ []) × ((rdt3_receiver_rcv (r.base % 2) (notcorrupt (rdt3_packet q))).deliver_data ≡ q.payload ∷ [])
unfolding receive
rdt3_receive_same_parity w r q h p =
    let e : eqb q.number r.base ≡ false = ne_eqb q.number r.base h in
    let x : eqb (q.number % 2) (r.base % 2) ≡ true = eq-eqb (q.number % 2) (r.base % 2) p in
    (rw e, rw x)

-- smallest: packet 2 first
pub rdt3_receive_same_parity_smallest : (receive StopAndWait 1 (new_receiver StopAndWait 1) (empty 2) ≡ received (new_receiver StopAndWait 1) [] (0 ∷ []))
    × (rdt3_receiver_rcv 0 (notcorrupt (rdt3_packet (empty 2))) ≡ receiver_did 1 ([] ∷ []) (0 ∷ []))
unfolding receive
rdt3_receive_same_parity_smallest = (refl, refl)

-- an odd number before the first: ACK 1 in the book, ACK 0 here
pub rdt3_before_first : (w : ℕ) (r : ReceiverState) (q : Segment) → r.base ≡ 0 → q.number % 2 ≡ 1
    → (receive StopAndWait w r q ≡ received r [] (0 ∷ [])) × (rdt3_receiver_rcv 0 (notcorrupt (rdt3_packet q)) ≡ receiver_did 0 [] (1 ∷ []))
unfolding receive
rdt3_before_first w r q z o =
    let h : q.number ≢ r.base = λ (h : q.number ≡ r.base). absurd (omega arith) in
    let e : eqb q.number r.base ≡ false = ne_eqb q.number r.base h in
    let e' : ltb q.number r.base ≡ false = le-ltb q.number r.base (omega arith) in
    let y : r.base - 1 ≡ 0 = omega arith in
    (rw (e, e', y), rw o)

-- smallest: packet 1 first
pub rdt3_before_first_smallest : (receive StopAndWait 1 (new_receiver StopAndWait 1) (empty 1) ≡ received (new_receiver StopAndWait 1) [] (0 ∷ []))
    × (rdt3_receiver_rcv 0 (notcorrupt (rdt3_packet (empty 1))) ≡ receiver_did 0 [] (1 ∷ []))
unfolding receive
rdt3_before_first_smallest = (refl, refl)

-- ---- Go-Back-N

-- an ACK older than the last: the book's base goes back
pub gbn_ack_older : (b : GbnSender) (s : SenderState) (n : ℕ) → GbnSenderIs b s → suc n < s.base
    → (acknowledge GoBackN s n ≡ s) × ((gbn_sender_rcv b (notcorrupt (suc n))).base < b.base)
gbn_ack_older b s n h l = (acknowledge_below GoBackN s n (omega arith), omega arith)

-- smallest: two empty chunks sent, both acknowledged, then the ACK of the first. The book's numbers are higher by 1: ACK 2, then ACK 1
abbrev pub two_acknowledged : SenderState
two_acknowledged = acknowledge GoBackN (send (send new_sender []) []) 1

abbrev pub gbn_two_acknowledged : (ℕ → Packet) → GbnSender
gbn_two_acknowledged f = gbn_sender_rcv (gbn_send 2 (gbn_send 2 (gbn_sender f) []).after []).after (notcorrupt 2)

pub gbn_ack_older_smallest : (f : ℕ → Packet)
    → (acknowledge GoBackN two_acknowledged 0 ≡ two_acknowledged)
    × ((gbn_two_acknowledged f).base ≡ 3)
    × ((gbn_sender_rcv (gbn_two_acknowledged f) (notcorrupt 1)).base ≡ 2)
unfolding acknowledge send
gbn_ack_older_smallest f = (refl, refl, refl)

-- an ACK of a number not sent: the book's base goes past nextseqnum
pub gbn_ack_unsent : (b : GbnSender) (s : SenderState) (n : ℕ) → GbnSenderIs b s → next_number s ≤ n
    → (acknowledge GoBackN s n ≡ s) × (b.nextseqnum < (gbn_sender_rcv b (notcorrupt (suc n))).base)
gbn_ack_unsent b s n h l = (acknowledge_above GoBackN s n l, omega arith)

-- smallest: ACK 0 to a new sender
pub gbn_ack_unsent_smallest : (f : ℕ → Packet) → (acknowledge GoBackN new_sender 0 ≡ new_sender) × ((gbn_sender_rcv (gbn_sender f) (notcorrupt 1)).base ≡ 2)
unfolding acknowledge
gbn_ack_unsent_smallest f = (refl, refl)

-- out of order before the first: ACK 0 in the book, whose first number is 1; no answer here
pub gbn_before_first : (w : ℕ) (r : ReceiverState) (q : Segment) → r.base ≡ 0 → q.number ≢ 0
    → (receive GoBackN w r q ≡ received r [] []) × (gbn_receiver_rcv gbn_receiver (notcorrupt (gbn_packet q)) ≡ receiver_did gbn_receiver [] (0 ∷ []))
unfolding receive
gbn_before_first w r q z o =
    let e : eqb q.number r.base ≡ false = ne_eqb q.number r.base (λ x. o (x ∙ z)) in
    let e' : eqb r.base 0 ≡ true = eq-eqb r.base 0 z in
    let x : eqb (suc q.number) 1 ≡ false = ne_eqb (suc q.number) 1 (λ y. o (omega arith)) in
    (rw (e, e'), rw x)

-- smallest: packet 1 first
pub gbn_before_first_smallest : (receive GoBackN 2 (new_receiver GoBackN 2) (empty 1) ≡ received (new_receiver GoBackN 2) [] [])
    × (gbn_receiver_rcv gbn_receiver (notcorrupt (gbn_packet (empty 1))) ≡ receiver_did gbn_receiver [] (0 ∷ []))
unfolding receive
gbn_before_first_smallest = (refl, refl)

-- ---- Selective Repeat

-- an ACK of a number in the window that was not sent yet: the book's text marks it
pub sr_ack_unsent : (N : ℕ) (b : SrSender) (s : SenderState) (n : ℕ) → SrSenderIs N b s → next_number s ≤ n → n < s.base + N
    → (acknowledge SelectiveRepeat s n ≡ s) × ((sr_sender_rcv N b (notcorrupt n)).marked_received n ≡ true)
sr_ack_unsent N b s n h l m =
    let e : leb b.send_base n ≡ true = le-leb b.send_base n (omega arith) in
    let e' : ltb n (b.send_base + N) ≡ true = lt-ltb n (b.send_base + N) (omega arith) in
    (acknowledge_above SelectiveRepeat s n l, rw (e, e') (go (eqb n b.send_base)))
  where
    x : eqb n n ≡ true
    x = eq-eqb n n refl

    go : (t : Bool)
        → (cond t (move_send_base (mark_received b n)) (mark_received b n)).marked_received n ≡ true
    go true = rw x
    go false = rw x

-- smallest: ACK 0 to a new sender
pub sr_ack_unsent_smallest : (f : ℕ → Packet)
    → (acknowledge SelectiveRepeat new_sender 0 ≡ new_sender) × ((sr_sender_rcv 1 (sr_sender f) (notcorrupt 0)).marked_received 0 ≡ true)
unfolding acknowledge
sr_ack_unsent_smallest f = (refl, refl)
