-- Where the ends follow Kurose and Ross, and where they depart.
use Rattle.std.specs.Prelude.{Option, None, Some}
use mathlib.Core.Path.{◌≡◌, refl, sym, ap, ap₂, ◌∙◌}
use mathlib.Core.Logic.{◌≢◌}
use mathlib.Core.Bool.{Bool, true, false, cond}
use mathlib.Core.List.{List, [], ◌∷◌, ◌++◌, map}
use Prim.Native.Nat.{ℕ, zero, suc, ◌+◌, ◌-◌, ◌%◌, ◌≤◌, ◌<◌, zero-le, suc-le-suc}
use native.Mathlib.Nat.{le_of_suc-le-suc, not-suc-le-zero}
use native.Mathlib.Omega.{arith}
use native.Mathlib.Decide.{ℕ_discrete, dec_lt}
use lib.ListN.{length, get_or, drop, set, replicate, length-append, length-drop, length-set, length-replicate, get_or-replicate, get_or-append, get_or-eq_default}
use lib.Seq.{get_or-drop, get_or-set_same, get_or-set_other, get_or-append-add, get_or_at}
use lib.Dec.{leb, ltb, eqb}
use borrow.Author.Tests.{leb-true, leb-false, ltb-true, ltb-false, lt-ltb, le-ltb, le-leb, lt-leb, eq-eqb, ne_eqb}
use Rattle.protocol.specs.Runs.{lead, up_from}
use Rattle.protocol.specs.Machine.{Chunk, Segment, SenderState, ReceiverState, next_number, new_sender, new_receiver, send, segment_at, segments_from, acknowledge, receive, hold, hold_at, deliver_run}
use Rattle.protocol.specs.Machine
use Rattle.protocol.specs.KuroseRoss.{Packet, make_pkt, notcorrupt, sender_did, receiver_did, wait_for_call, wait_for_ack, other, rdt3_send, rdt3_timeout, rdt3_sender_rcv, rdt3_receiver_rcv, rdt3_packet, rdt3_waits, rdt3_sender_of, rdt3_answer, store, GbnSender, gbn_sender, gbn_send, gbn_timeout, gbn_sender_rcv, gbn_receiver_rcv, gbn_packet, gbn_receiver_of, gbn_answer, SndpktHolds, GbnSenderIs, SrSender, sr_sender, smallest_unacknowledged, sr_send, sr_timeout, sr_sender_rcv, SrReceiver, sr_receiver, buffered, then_next, consecutive, sr_in_window, sr_receiver_rcv, sr_packet, SrSenderIs, SrReceiverIs, SrAnswerIs}
use Rattle.protocol.specs.declared.ProtocolType.{ProtocolType}
use Rattle.protocol.specs.declared.ProtocolType.TheVariants.{StopAndWait, GoBackN, SelectiveRepeat}
use Rattle.protocol.proofs.Marks.{lead_below, lead_stop, lead_least, get_d_more}

-- ---- ACKs that no sender takes

pub acknowledge_below : (p : ProtocolType) (s : SenderState) (n : ℕ) → n < s.base → acknowledge p s n ≡ s
unfolding acknowledge
acknowledge_below p s n l = let e : leb s.base n ≡ false = lt-leb s.base n l in rw e

pub acknowledge_above : (p : ProtocolType) (s : SenderState) (n : ℕ) → next_number s ≤ n → acknowledge p s n ≡ s
unfolding acknowledge
acknowledge_above p s n l =
    let e : leb s.base n ≡ true = le-leb s.base n (omega arith) in
    let e' : ltb n (next_number s) ≡ false = le-ltb n (next_number s) l in
    rw (e, e')

-- ---- rdt3.0

pub rdt3_start : rdt3_sender_of new_sender ≡ wait_for_call 0
rdt3_start = refl

pub rdt3_send_lem : (s : SenderState) (c : Chunk) → s.chunks ≡ []
    → rdt3_send (rdt3_sender_of s) c ≡ sender_did (rdt3_sender_of (send s c)) (rdt3_packet (record { number = next_number s; payload = c }) ∷ [])
unfolding send
rdt3_send_lem s c e =
    let z : s.base + 0 ≡ s.base = omega arith in
    rw e (ap (λ (n : ℕ). sender_did (wait_for_ack (s.base % 2) (make_pkt (s.base % 2) c)) (make_pkt (n % 2) c ∷ [])) (sym z))

-- while an ACK is waited for: the packet kept stays
pub rdt3_full : (s : SenderState) (c : Chunk) → 1 ≤ length s.chunks → rdt3_send (rdt3_sender_of s) c ≡ sender_did (rdt3_sender_of s) []
rdt3_full s c l = go s.base s.chunks l
  where
    go : (n : ℕ) (cs : List Chunk) → 1 ≤ length cs → rdt3_send (rdt3_waits n cs) c ≡ sender_did (rdt3_waits n cs) []
    go n [] l = absurd (omega arith)
    go n (d ∷ cs) l = refl

pub rdt3_timeout_lem : (s : SenderState) → length s.chunks ≤ 1
    → rdt3_timeout (rdt3_sender_of s) ≡ sender_did (rdt3_sender_of s) (map rdt3_packet (segments_from s s.base (length s.chunks)))
unfolding segments_from
rdt3_timeout_lem s l = go s.base s.chunks l
  where
    go : (n : ℕ) (cs : List Chunk) → length cs ≤ 1
        → rdt3_timeout (rdt3_waits n cs)
        ≡ sender_did (rdt3_waits n cs) (map rdt3_packet (map (segment_at (record { base = n; chunks = cs; acknowledged = s.acknowledged })) (up_from n (length cs))))
    go n [] h = refl
    go n (c ∷ []) h = let z : n - n ≡ 0 = omega arith in rw z
    go n (c ∷ d ∷ cs) h = absurd (not-suc-le-zero (le_of_suc-le-suc h))

-- the ACK of the chunk outstanding
pub rdt3_ack : (s : SenderState) → length s.chunks ≤ 1
    → rdt3_sender_rcv (rdt3_sender_of s) (notcorrupt (s.base % 2)) ≡ rdt3_sender_of (acknowledge StopAndWait s s.base)
unfolding acknowledge
rdt3_ack s l = go s.base s.chunks l
  where
    go : (n : ℕ) (cs : List Chunk) → length cs ≤ 1
        → rdt3_sender_rcv (rdt3_waits n cs) (notcorrupt (n % 2))
        ≡ rdt3_sender_of (acknowledge StopAndWait (record { base = n; chunks = cs; acknowledged = s.acknowledged }) n)
    go n [] h =
        let e : leb n n ≡ true = le-leb n n (omega arith) in
        let e' : ltb n (n + 0) ≡ false = le-ltb n (n + 0) (omega arith) in
        rw (e, e')
    go n (c ∷ []) h =
        let e : leb n n ≡ true = le-leb n n (omega arith) in
        let e' : ltb n (n + 1) ≡ true = lt-ltb n (n + 1) (omega arith) in
        let z : suc n - n ≡ 1 = omega arith in
        let x : eqb (n % 2) (n % 2) ≡ true = eq-eqb (n % 2) (n % 2) refl in
        let y : (n + 1) % 2 ≡ other (n % 2) = omega arith in
        rw (e, e', z, x) (ap wait_for_call (sym y))
    go n (c ∷ d ∷ cs) h = absurd (not-suc-le-zero (le_of_suc-le-suc h))

-- no ACK but that of the chunk outstanding is taken
pub stop_and_wait_ignores : (s : SenderState) (n : ℕ) → length s.chunks ≤ 1 → n ≢ s.base → acknowledge StopAndWait s n ≡ s
stop_and_wait_ignores s n l h = elim (dec_lt n s.base) [
  | yes e ↦ acknowledge_below StopAndWait s n e
  | no e ↦ acknowledge_above StopAndWait s n (omega arith)
]

-- with nothing outstanding, no ACK does anything
pub rdt3_ack_none : (s : SenderState) (n : ℕ) → s.chunks ≡ []
    → rdt3_sender_rcv (rdt3_sender_of s) (notcorrupt (n % 2)) ≡ rdt3_sender_of (acknowledge StopAndWait s n)
rdt3_ack_none s n e =
    let l : length s.chunks ≡ 0 = ap length e in
    rw (ignored (dec_lt n s.base) (omega arith)) (ap (λ cs. rdt3_sender_rcv (rdt3_waits s.base cs) (notcorrupt (n % 2))) e ∙ ap (rdt3_waits s.base) (sym e))
  where
    ignored : Dec (n < s.base) → length s.chunks ≤ 0 → acknowledge StopAndWait s n ≡ s
    ignored (yes k) l = acknowledge_below StopAndWait s n k
    ignored (no k) l = acknowledge_above StopAndWait s n (omega arith)

-- the ACK of a number of the other parity
pub rdt3_ack_other : (s : SenderState) (n : ℕ) → length s.chunks ≤ 1 → n % 2 ≢ s.base % 2
    → rdt3_sender_rcv (rdt3_sender_of s) (notcorrupt (n % 2)) ≡ rdt3_sender_of (acknowledge StopAndWait s n)
rdt3_ack_other s n l h =
    let e : eqb (n % 2) (s.base % 2) ≡ false = ne_eqb (n % 2) (s.base % 2) h in
    rw (stop_and_wait_ignores s n l (λ x. h (ap (λ (m : ℕ). m % 2) x))) (go s.chunks e)
  where
    go : (cs : List Chunk) → eqb (n % 2) (s.base % 2) ≡ false → rdt3_sender_rcv (rdt3_waits s.base cs) (notcorrupt (n % 2)) ≡ rdt3_waits s.base cs
    go [] e = refl
    go (c ∷ cs) e = rw e

-- the number expected
pub rdt3_receive : (w : ℕ) (r : ReceiverState) (q : Segment) → q.number ≡ r.base
    → rdt3_receiver_rcv (r.base % 2) (notcorrupt (rdt3_packet q)) ≡ rdt3_answer (receive StopAndWait w r q)
unfolding receive
rdt3_receive w r q h =
    let e : eqb q.number r.base ≡ true = eq-eqb q.number r.base h in
    let p : q.number % 2 ≡ r.base % 2 = omega arith in
    let x : eqb (q.number % 2) (r.base % 2) ≡ true = eq-eqb (q.number % 2) (r.base % 2) p in
    let y : (r.base + 1) % 2 ≡ other (r.base % 2) = omega arith in
    rw (e, x) (ap₂ (λ (m n : ℕ). receiver_did m (q.payload ∷ []) (n ∷ [])) (sym y) (sym p))

-- a number of the other parity, after the first was delivered
pub rdt3_receive_other : (w : ℕ) (r : ReceiverState) (q : Segment) → 0 < r.base → q.number % 2 ≢ r.base % 2
    → rdt3_receiver_rcv (r.base % 2) (notcorrupt (rdt3_packet q)) ≡ rdt3_answer (receive StopAndWait w r q)
unfolding receive
rdt3_receive_other w r q l h =
    let e : eqb q.number r.base ≡ false = ne_eqb q.number r.base (λ x. h (ap (λ (m : ℕ). m % 2) x)) in
    let x : eqb (q.number % 2) (r.base % 2) ≡ false = ne_eqb (q.number % 2) (r.base % 2) h in
    rw (e, x) (go (ltb q.number r.base))
  where
    go : (b : Bool) → receiver_did (r.base % 2) [] (other (r.base % 2) ∷ [])
        ≡ receiver_did (r.base % 2) [] (map (λ (n : ℕ). n % 2) (cond b (q.number ∷ []) ((r.base - 1) ∷ [])))
    go true = let y : other (r.base % 2) ≡ q.number % 2 = omega arith in rw y
    go false = let y : other (r.base % 2) ≡ (r.base - 1) % 2 = omega arith in rw y

-- ---- Go-Back-N

store_same : {X : Type 0} (f : ℕ → X) (n : ℕ) (x : X) (m : ℕ) → m ≡ n → store f n x m ≡ x
store_same f n x m h = let e : eqb m n ≡ true = eq-eqb m n h in rw e

store_other : {X : Type 0} (f : ℕ → X) (n : ℕ) (x : X) (m : ℕ) → m ≢ n → store f n x m ≡ f m
store_other f n x m h = let e : eqb m n ≡ false = ne_eqb m n h in rw e

-- one packet more is made
holds_more : (f : ℕ → Packet) (n a : ℕ) (cs : List Chunk) (c : Chunk) → a ≡ n + length cs → SndpktHolds f n cs
    → SndpktHolds (store f a (make_pkt a c)) n (cs ++ (c ∷ []))
holds_more f n a cs c e h i l = go (dec_lt i (length cs))
  where
    go : Dec (i < length cs) → store f a (make_pkt a c) (n + i) ≡ make_pkt (n + i) (get_or (cs ++ (c ∷ [])) i [])
    go (yes k) =
        let z : n + i ≢ a = λ (o : n + i ≡ a). absurd (omega arith) in
        store_other f a (make_pkt a c) (n + i) z ∙ h i k ∙ ap (make_pkt (n + i)) (sym (get_or-append cs (c ∷ []) [] i k))
    go (no k) =
        let x : length (cs ++ (c ∷ [])) ≡ length cs + 1 = length-append cs (c ∷ []) in
        let z : n + i ≡ a = omega arith in
        let y : length cs ≡ i = omega arith in
        store_same f a (make_pkt a c) (n + i) z ∙ ap₂ make_pkt (sym z) (sym (get_or_at cs c [] [] i y))

-- the first k are no longer needed
holds_rest : (f : ℕ → Packet) (n m k : ℕ) (cs : List Chunk) → m ≡ n + k → SndpktHolds f n cs → SndpktHolds f m (drop k cs)
holds_rest f n m k cs e h i l =
    let x : length (drop k cs) ≡ length cs - k = length-drop k cs in
    let z : n + (k + i) ≡ m + i = omega arith in
    rw (get_or-drop k cs i []) (rw z at (h (k + i) (omega arith)))

pub gbn_start : (f : ℕ → Packet) → GbnSenderIs (gbn_sender f) new_sender
gbn_start f = record { base_is = refl; next_is = refl; holds = λ i l. absurd (not-suc-le-zero l) }

pub gbn_send_lem : (N : ℕ) (b : GbnSender) (s : SenderState) (c : Chunk) → GbnSenderIs b s → length s.chunks < N
    → GbnSenderIs (gbn_send N b c).after (send s c)
unfolding send
gbn_send_lem N b s c h l =
    let e : ltb b.nextseqnum (b.base + N) ≡ true = lt-ltb b.nextseqnum (b.base + N) (omega arith) in
    let x : length (s.chunks ++ (c ∷ [])) ≡ length s.chunks + 1 = length-append s.chunks (c ∷ []) in
    rw e record {
      base_is = h.base_is;
      next_is = omega arith;
      holds = holds_more b.sndpkt (suc s.base) b.nextseqnum s.chunks c (omega arith) h.holds;
    }

pub gbn_sends : (N : ℕ) (b : GbnSender) (s : SenderState) (c : Chunk) → GbnSenderIs b s → length s.chunks < N
    → (gbn_send N b c).udt_send ≡ gbn_packet (record { number = next_number s; payload = c }) ∷ []
gbn_sends N b s c h l =
    let e : ltb b.nextseqnum (b.base + N) ≡ true = lt-ltb b.nextseqnum (b.base + N) (omega arith) in
    rw e (ap (λ (n : ℕ). make_pkt n c ∷ []) h.next_is)

-- a full window: refuse_data
pub gbn_full : (N : ℕ) (b : GbnSender) (s : SenderState) (c : Chunk) → GbnSenderIs b s → N ≤ length s.chunks → gbn_send N b c ≡ sender_did b []
gbn_full N b s c h l =
    let e : ltb b.nextseqnum (b.base + N) ≡ false = le-ltb b.nextseqnum (b.base + N) (omega arith) in
    rw e

gbn_resends : (b : GbnSender) (s : SenderState) (n k : ℕ) → GbnSenderIs b s → s.base ≤ n → n + k ≤ next_number s
    → map b.sndpkt (up_from (suc n) k) ≡ map gbn_packet (map (segment_at s) (up_from n k))
gbn_resends b s n zero h l m = refl
gbn_resends b s n (suc k) h l m =
    let z : suc s.base + (n - s.base) ≡ suc n = omega arith in
    let x : b.sndpkt (suc n) ≡ make_pkt (suc n) (get_or s.chunks (n - s.base) []) = rw z at (h.holds (n - s.base) (omega arith)) in
    ap₂ (λ (p : Packet) (ps : List Packet). p ∷ ps) x (gbn_resends b s (suc n) k h (omega arith) (omega arith))

pub gbn_timeout_lem : (b : GbnSender) (s : SenderState) → GbnSenderIs b s
    → gbn_timeout b ≡ sender_did b (map gbn_packet (segments_from s s.base (length s.chunks)))
unfolding segments_from
gbn_timeout_lem b s h =
    let k : b.nextseqnum - b.base ≡ length s.chunks = omega arith in
    ap (sender_did b) (ap₂ (λ (m n : ℕ). map b.sndpkt (up_from m n)) h.base_is k
    ∙ gbn_resends b s s.base (length s.chunks) h (omega arith) (omega arith))

-- the ACK of an outstanding number, or the last one again
pub gbn_ack : (b : GbnSender) (s : SenderState) (n : ℕ) → GbnSenderIs b s → s.base ≤ suc n → n < next_number s
    → GbnSenderIs (gbn_sender_rcv b (notcorrupt (suc n))) (acknowledge GoBackN s n)
unfolding acknowledge
gbn_ack b s n h l m = go (leb s.base n) refl
  where
    go : (t : Bool) → leb s.base n ≡ t → GbnSenderIs (gbn_sender_rcv b (notcorrupt (suc n))) (acknowledge GoBackN s n)
    go true e =
        let t : s.base ≤ n = leb-true s.base n e in
        let e' : ltb n (next_number s) ≡ true = lt-ltb n (next_number s) m in
        let x : length (drop (suc n - s.base) s.chunks) ≡ length s.chunks - (suc n - s.base) = length-drop (suc n - s.base) s.chunks in
        rw (e, e') record {
          base_is = omega arith;
          next_is = omega (arith, h);
          holds = holds_rest b.sndpkt (suc s.base) (suc (s.base + (suc n - s.base))) (suc n - s.base) s.chunks (omega arith) h.holds;
        }
    go false e =
        let t : n < s.base = leb-false s.base n e in
        rw e record { base_is = omega arith; next_is = h.next_is; holds = h.holds }

-- a packet in order
pub gbn_receive : (w : ℕ) (r : ReceiverState) (q : Segment) → q.number ≡ r.base
    → gbn_receiver_rcv (gbn_receiver_of r) (notcorrupt (gbn_packet q)) ≡ gbn_answer (receive GoBackN w r q)
unfolding receive
gbn_receive w r q h =
    let e : eqb q.number r.base ≡ true = eq-eqb q.number r.base h in
    let e' : eqb (suc q.number) (suc r.base) ≡ true = eq-eqb (suc q.number) (suc r.base) (ap suc h) in
    let x : suc r.base ≡ r.base + 1 = omega arith in
    let y : suc r.base + 1 ≡ suc (r.base + 1) = omega arith in
    rw (e, e') (cc)

-- any packet, once the first was delivered
pub gbn_receive_any : (w : ℕ) (r : ReceiverState) (q : Segment) → 0 < r.base
    → gbn_receiver_rcv (gbn_receiver_of r) (notcorrupt (gbn_packet q)) ≡ gbn_answer (receive GoBackN w r q)
unfolding receive
gbn_receive_any w r q l = elim (ℕ_discrete q.number r.base) [
  | yes h ↦ gbn_receive w r q h
  | no h ↦
      let e : eqb q.number r.base ≡ false = ne_eqb q.number r.base h in
      let e' : eqb (suc q.number) (suc r.base) ≡ false = ne_eqb (suc q.number) (suc r.base) (λ x. h (omega arith)) in
      let z : eqb r.base 0 ≡ false = ne_eqb r.base 0 (λ x. omega arith) in
      let y : suc (r.base - 1) ≡ r.base = omega arith in
      rw (e, e', z) (ap (λ (n : ℕ). receiver_did (gbn_receiver_of r) [] (n ∷ [])) (sym y))
]

-- ---- Selective Repeat: the sender

pub sr_start : (N : ℕ) (f : ℕ → Packet) → SrSenderIs N (sr_sender f) new_sender
sr_start N f =
    record {
      base_is = refl;
      next_is = refl;
      holds = λ i l. absurd (not-suc-le-zero l);
      marks = λ i. refl;
      as_many = refl;
      fits = zero-le;
      base_unmarked = refl;
    }

pub sr_send_lem : (N : ℕ) (b : SrSender) (s : SenderState) (c : Chunk) → SrSenderIs N b s → length s.chunks < N
    → SrSenderIs N (sr_send N b c).after (send s c)
unfolding send
sr_send_lem N b s c h l =
    let e : leb b.send_base b.nextseqnum ≡ true = le-leb b.send_base b.nextseqnum (omega arith) in
    let e' : ltb b.nextseqnum (b.send_base + N) ≡ true = lt-ltb b.nextseqnum (b.send_base + N) (omega arith) in
    let x : length (s.chunks ++ (c ∷ [])) ≡ length s.chunks + 1 = length-append s.chunks (c ∷ []) in
    let y : length (s.acknowledged ++ (false ∷ [])) ≡ length s.acknowledged + 1 = length-append s.acknowledged (false ∷ []) in
    rw (e, e') record {
      base_is = h.base_is;
      next_is = omega arith;
      holds = holds_more b.sndpkt s.base b.nextseqnum s.chunks c (omega arith) h.holds;
      marks = λ i. h.marks i ∙ sym (get_d_more s.acknowledged i);
      as_many = omega arith;
      fits = omega arith;
      base_unmarked = get_d_more s.acknowledged 0 ∙ h.base_unmarked;
    }

pub sr_sends : (N : ℕ) (b : SrSender) (s : SenderState) (c : Chunk) → SrSenderIs N b s → length s.chunks < N
    → (sr_send N b c).udt_send ≡ sr_packet (record { number = next_number s; payload = c }) ∷ []
sr_sends N b s c h l =
    let e : leb b.send_base b.nextseqnum ≡ true = le-leb b.send_base b.nextseqnum (omega arith) in
    let e' : ltb b.nextseqnum (b.send_base + N) ≡ true = lt-ltb b.nextseqnum (b.send_base + N) (omega arith) in
    rw (e, e') (ap (λ (n : ℕ). make_pkt n c ∷ []) h.next_is)

-- a full window: returned to the upper layer
pub sr_full : (N : ℕ) (b : SrSender) (s : SenderState) (c : Chunk) → SrSenderIs N b s → N ≤ length s.chunks → sr_send N b c ≡ sender_did b []
sr_full N b s c h l =
    let e : leb b.send_base b.nextseqnum ≡ true = le-leb b.send_base b.nextseqnum (omega arith) in
    let e' : ltb b.nextseqnum (b.send_base + N) ≡ false = le-ltb b.nextseqnum (b.send_base + N) (omega arith) in
    rw (e, e')

pub sr_timeout_lem : (N : ℕ) (b : SrSender) (s : SenderState) (n : ℕ) → SrSenderIs N b s → s.base ≤ n → n < next_number s
    → sr_timeout b n ≡ sender_did b (map sr_packet (segments_from s n 1))
unfolding segments_from
sr_timeout_lem N b s n h l m =
    let z : s.base + (n - s.base) ≡ n = omega arith in
    let x : b.sndpkt n ≡ make_pkt n (get_or s.chunks (n - s.base) []) = rw z at (h.holds (n - s.base) (omega arith)) in
    ap (λ (p : Packet). sender_did b (p ∷ [])) x

-- an array read from a on is the list
array_list : {X : Type 0} (d : X) (f : ℕ → X) (l : List X) (a : ℕ) → ((i : ℕ) → f (a + i) ≡ get_or l i d) → map f (up_from a (length l)) ≡ l
array_list d f [] a h = refl
array_list {X} d f (x ∷ l) a h =
    let z : a + 0 ≡ a = omega arith in
    let y : f a ≡ x = rw z at (h 0) in
    ap₂ (λ (x : X) (l : List X). x ∷ l) y (array_list d f l (suc a) (λ i. let e : suc a + i ≡ a + suc i = omega arith in rw e (h (suc i))))

array_set : {X : Type 0} (d : X) (f : ℕ → X) (l : List X) (a n : ℕ) (x : X) → a ≤ n → n - a < length l → ((i : ℕ) → f (a + i) ≡ get_or l i d)
    → (i : ℕ) → store f n x (a + i) ≡ get_or (set l (n - a) x) i d
array_set d f l a n x k m h i = elim (ℕ_discrete i (n - a)) [
  | yes e ↦ store_same f n x (a + i) (omega arith) ∙ sym (rw e (get_or-set_same l (n - a) x d m))
  | no e ↦
      let z : a + i ≢ n = λ (o : a + i ≡ n). e (omega arith) in
      store_other f n x (a + i) z ∙ h i ∙ sym (get_or-set_other l (n - a) i x d e)
]

get_d_array : {X : Type 0} (d : X) (f : ℕ → X) (a k i : ℕ) → i < k → get_or (map f (up_from a k)) i d ≡ f (a + i)
get_d_array d f a zero i l = absurd (not-suc-le-zero l)
get_d_array d f a (suc k) zero l = let z : a + 0 ≡ a = omega arith in sym (ap f z)
get_d_array d f a (suc k) (suc i) l =
    let z : suc a + i ≡ a + suc i = omega arith in
    get_d_array d f (suc a) k i (le_of_suc-le-suc l) ∙ ap f z

-- `smallest_unacknowledged` is what its name says: all from send_base up to it are marked, and it isn't, if it was sent
pub smallest_below : (s : SrSender) (n : ℕ) → s.send_base ≤ n → n < smallest_unacknowledged s → s.marked_received n ≡ true
smallest_below s n l m =
    let k : ℕ = s.nextseqnum - s.send_base in
    let marks : List Bool = map s.marked_received (up_from s.send_base k) in
    let x : lead marks ≤ length marks = lead_least marks (length marks) (get_or-eq_default marks false (omega arith)) in
    let y : length marks ≡ k = length_array s.marked_received s.send_base k in
    let z : s.send_base + (n - s.send_base) ≡ n = omega arith in
    rw z at (sym (get_d_array false s.marked_received s.send_base k (n - s.send_base) (omega arith)) ∙ lead_below marks (n - s.send_base) (omega arith))
  where
    length_array : (f : ℕ → Bool) (a k : ℕ) → length (map f (up_from a k)) ≡ k
    length_array f a zero = refl
    length_array f a (suc k) = ap suc (length_array f (suc a) k)

pub smallest_unmarked : (s : SrSender) → smallest_unacknowledged s < s.nextseqnum → s.marked_received (smallest_unacknowledged s) ≡ false
smallest_unmarked s l =
    let k : ℕ = s.nextseqnum - s.send_base in
    let marks : List Bool = map s.marked_received (up_from s.send_base k) in
    sym (get_d_array false s.marked_received s.send_base k (lead marks) (omega arith)) ∙ lead_stop marks

-- send_base is moved to the first that isn't marked
sr_moved : (N : ℕ) (b : SrSender) (s : SenderState) (f : ℕ → Bool) (l : List Bool) (a : ℕ) → SrSenderIs N b s → length l ≡ length s.chunks
    → ((i : ℕ) → f (s.base + i) ≡ get_or l i false) → a ≡ s.base + lead l
    → SrSenderIs N (record { send_base = a; nextseqnum = b.nextseqnum; sndpkt = b.sndpkt; marked_received = f })
    (record { base = s.base + lead l; chunks = drop (lead l) s.chunks; acknowledged = drop (lead l) l })
sr_moved N b s f l a h e m i =
    let k : lead l ≤ length l = lead_least l (length l) (get_or-eq_default l false (omega arith)) in
    let x : length (drop (lead l) s.chunks) ≡ length s.chunks - lead l = length-drop (lead l) s.chunks in
    let y : length (drop (lead l) l) ≡ length l - lead l = length-drop (lead l) l in
    let z : lead l + 0 ≡ lead l = omega arith in
    record {
      base_is = i;
      next_is = omega arith;
      holds = holds_rest b.sndpkt s.base (s.base + lead l) (lead l) s.chunks refl h.holds;
      marks = λ j. let o : s.base + lead l + j ≡ s.base + (lead l + j) = omega arith in rw o (m (lead l + j) ∙ sym (get_or-drop (lead l) l j false));
      as_many = omega arith;
      fits = omega arith;
      base_unmarked = get_or-drop (lead l) l 0 false ∙ rw z (lead_stop l);
    }

-- the ACK of a number sent: in the window it is marked, and at send_base the base is moved
pub sr_ack : (N : ℕ) (b : SrSender) (s : SenderState) (n : ℕ) → SrSenderIs N b s → n < next_number s
    → SrSenderIs N (sr_sender_rcv N b (notcorrupt n)) (acknowledge SelectiveRepeat s n)
unfolding acknowledge
sr_ack N b s n h l = go (leb s.base n) refl
  where
    go : (t : Bool) → leb s.base n ≡ t → SrSenderIs N (sr_sender_rcv N b (notcorrupt n)) (acknowledge SelectiveRepeat s n)
    go false e =
        let t : n < s.base = leb-false s.base n e in
        let e' : leb b.send_base n ≡ false = lt-leb b.send_base n (omega (arith, h)) in
        rw (e, e') h
    go true e =
        let t : s.base ≤ n = leb-true s.base n e in
        let e₁ : ltb n (next_number s) ≡ true = lt-ltb n (next_number s) l in
        let e₂ : leb b.send_base n ≡ true = le-leb b.send_base n (omega (arith, h)) in
        let e₃ : ltb n (b.send_base + N) ≡ true = lt-ltb n (b.send_base + N) (omega (arith, h)) in
        let m : List Bool = set s.acknowledged (n - s.base) true in
        let x : length m ≡ length s.chunks = length-set s.acknowledged (n - s.base) true ∙ h.as_many in
        let f : (i : ℕ) → store b.marked_received n true (s.base + i) ≡ get_or m i false =
        array_set false b.marked_received s.acknowledged s.base n true t (omega (arith, h)) h.marks in
        let marked : ℕ → Bool = store b.marked_received n true in
        rw (e, e₁, e₂, e₃) (elim (ℕ_discrete n b.send_base) [
          | yes y ↦
              let e₄ : eqb n b.send_base ≡ true = eq-eqb n b.send_base y in
              let k : b.nextseqnum - b.send_base ≡ length m = omega (arith, h) in
              let z : b.send_base + lead (map marked (up_from b.send_base (b.nextseqnum - b.send_base))) ≡ s.base + lead m =
              ap₂ (λ (u v : ℕ). u + lead (map marked (up_from u v))) h.base_is k
              ∙ ap (λ (u : List Bool). s.base + lead u) (array_list false marked m s.base f) in
              rw e₄ (sr_moved N b s marked m (b.send_base + lead (map marked (up_from b.send_base (b.nextseqnum - b.send_base)))) h x f z)
          | no y ↦
              let e₄ : eqb n b.send_base ≡ false = ne_eqb n b.send_base y in
              let o : 0 ≢ n - s.base = λ (o : 0 ≡ n - s.base). y (omega (arith, h)) in
              let z : lead m ≤ 0 = lead_least m 0 (get_or-set_other s.acknowledged (n - s.base) 0 true false o ∙ h.base_unmarked) in
              rw e₄ (sr_moved N b s marked m b.send_base h x f (omega (arith, h)))
        ])

-- the ACK of a number past the window: nothing
pub sr_ack_past : (N : ℕ) (b : SrSender) (s : SenderState) (n : ℕ) → SrSenderIs N b s → s.base + N ≤ n
    → SrSenderIs N (sr_sender_rcv N b (notcorrupt n)) (acknowledge SelectiveRepeat s n)
sr_ack_past N b s n h l =
    let e : leb b.send_base n ≡ true = le-leb b.send_base n (omega arith) in
    let e' : ltb n (b.send_base + N) ≡ false = le-ltb n (b.send_base + N) (omega arith) in
    rw (acknowledge_above SelectiveRepeat s n (omega arith), e, e') h

-- ---- Selective Repeat: the receiver

consecutive_run : (f : ℕ → Option Chunk) (l : List (Option Chunk)) (a : ℕ) → ((i : ℕ) → f (a + i) ≡ get_or l i None)
    → consecutive f a (length l) ≡ Machine.held_run l
consecutive_run f [] a h = refl
consecutive_run f (x ∷ l) a h =
    let z : a + 0 ≡ a = omega arith in
    let y : f a ≡ x = rw z at (h 0) in
    let ih = consecutive_run f l (suc a) (λ i. let e : suc a + i ≡ a + suc i = omega arith in rw e (h (suc i))) in
    ap₂ then_next y ih ∙ go x
  where
    go : (x : Option Chunk) → then_next x (Machine.held_run l) ≡ Machine.held_run (x ∷ l)
    go None = refl
    go (Some c) = refl

-- what is delivered ends where a place is empty
run_stops : (l : List (Option Chunk)) → get_or l (length (Machine.held_run l)) None ≡ None
run_stops [] = refl
run_stops (None ∷ l) = refl
run_stops (Some c ∷ l) = run_stops l

run_short : (l : List (Option Chunk)) → length (Machine.held_run l) ≤ length l
run_short [] = zero-le
run_short (None ∷ l) = zero-le
run_short (Some c ∷ l) = suc-le-suc (run_short l)

run_none : (l : List (Option Chunk)) → get_or l 0 None ≡ None → Machine.held_run l ≡ []
run_none [] h = refl
run_none (None ∷ l) h = refl
run_none (Some c ∷ l) h = let z : ◌≡◌ {A = ℕ} 0 1 = cc in absurd (omega arith)

buffered_hold : (o : Option Chunk) (c : Chunk) → buffered o c ≡ hold o c
buffered_hold None c = refl
buffered_hold (Some d) c = refl

none_free : (k i : ℕ) → get_or (replicate {A = Option Chunk} k None) i None ≡ None
none_free k i = elim (dec_lt i k) [
  | yes l ↦ get_or-replicate k i None None l
  | no l ↦ let x : length (replicate {A = Option Chunk} k None) ≡ k = length-replicate k None in get_or-eq_default (replicate k None) None (omega arith)
]

-- k places are freed at the front and as many added at the end
places_moved : (l : List (Option Chunk)) (k i : ℕ) → k ≤ length l → get_or (drop k l ++ replicate k None) i None ≡ get_or l (k + i) None
places_moved l k i h = elim (dec_lt (k + i) (length l)) [
  | yes m ↦
      let x : length (drop k l) ≡ length l - k = length-drop k l in
      get_or-append (drop k l) (replicate k None) None i (omega arith) ∙ get_or-drop k l i None
  | no m ↦
      let x : length (drop k l) ≡ length l - k = length-drop k l in
      let e : length (drop k l) + (i - length (drop k l)) ≡ i = omega arith in
      let y : get_or (drop k l ++ replicate k None) i None ≡ None =
      rw e at (get_or-append-add (drop k l) (replicate k None) (i - length (drop k l)) None ∙ none_free k (i - length (drop k l))) in
      y ∙ sym (get_or-eq_default l None (omega arith))
]

pub sr_receiver_start : (N : ℕ) → SrReceiverIs N sr_receiver (new_receiver SelectiveRepeat N)
sr_receiver_start N =
    record { base_is = refl; places = length-replicate N None; holds = λ i. sym (none_free N i); base_unbuffered = none_free N 0 }

-- what is delivered leaves the window, which is moved by as many
sr_delivered : (N : ℕ) (f : ℕ → Option Chunk) (l : List (Option Chunk)) (a n : ℕ) → length l ≡ N → ((i : ℕ) → f (n + i) ≡ get_or l i None)
    → a ≡ n + length (Machine.held_run l)
    → SrReceiverIs N (record { rcv_base = a; buffer = f })
    (record { base = n + length (Machine.held_run l); held = drop (length (Machine.held_run l)) l ++ replicate (length (Machine.held_run l)) None })
sr_delivered N f l a n e h i =
    let k : ℕ = length (Machine.held_run l) in
    let s : k ≤ length l = run_short l in
    let x : length (drop k l) ≡ length l - k = length-drop k l in
    let y : length (replicate {A = Option Chunk} k None) ≡ k = length-replicate k None in
    let z : k + 0 ≡ k = omega arith in
    record {
      base_is = i;
      places = length-append (drop k l) (replicate k None) ∙ omega arith;
      holds = λ j. let o : n + k + j ≡ n + (k + j) = omega arith in rw o (h (k + j) ∙ sym (places_moved l k j s));
      base_unbuffered = places_moved l k 0 s ∙ rw z (run_stops l);
    }

-- 1. in the window
sr_in_window_lem : (N : ℕ) (b : SrReceiver) (r : ReceiverState) (q : Segment) → SrReceiverIs N b r → r.base ≤ q.number → q.number < r.base + N
    → SrAnswerIs N (sr_in_window N b (sr_packet q)) (deliver_run (hold_at r q) q.number)
sr_in_window_lem N b r q h t u =
    let n : ℕ = q.number in
    let i : ℕ = n - r.base in
    let z : r.base + i ≡ n = omega (arith, h) in
    let o : Option Chunk = hold (get_or r.held i None) q.payload in
    let o' : Option Chunk = buffered (b.buffer n) q.payload in
    let same : o' ≡ o = ap (λ (x : Option Chunk). buffered x q.payload) (rw z at (h.holds i)) ∙ buffered_hold (get_or r.held i None) q.payload in
    let l : List (Option Chunk) = set r.held i o in
    let f : ℕ → Option Chunk = store b.buffer n o' in
    let x : length l ≡ N = length-set r.held i o ∙ h.places in
    let g : (j : ℕ) → f (r.base + j) ≡ get_or l j None = λ j.
    array_set None b.buffer r.held r.base n o' t (omega (arith, h)) h.holds j ∙ ap (λ (y : Option Chunk). get_or (set r.held i y) j None) same in
    elim (ℕ_discrete n b.rcv_base) [
      | yes y ↦
          let e : eqb n b.rcv_base ≡ true = eq-eqb n b.rcv_base y in
          let d : consecutive f b.rcv_base N ≡ Machine.held_run l = ap₂ (consecutive f) h.base_is (sym x) ∙ consecutive_run f l r.base g in
          let a : b.rcv_base + length (consecutive f b.rcv_base N) ≡ r.base + length (Machine.held_run l) =
          ap₂ (λ (u v : ℕ). u + v) h.base_is (ap length d) in
          rw e record
          { after = sr_delivered N f l (b.rcv_base + length (consecutive f b.rcv_base N)) r.base x g a; delivered = d; acks = refl }
      | no y ↦
          let e : eqb n b.rcv_base ≡ false = ne_eqb n b.rcv_base y in
          let k : 0 ≢ i = λ (k : 0 ≡ i). y (omega (arith, h)) in
          let d : Machine.held_run l ≡ [] = run_none l (get_or-set_other r.held i 0 o None k ∙ h.base_unbuffered) in
          let c : length (Machine.held_run l) ≡ 0 = ap length d in
          rw e record { after = sr_delivered N f l b.rcv_base r.base x g (omega (arith, h)); delivered = sym d; acks = refl }
    ]

-- every packet: in the window, in the window before it, or neither
pub sr_receive : (N : ℕ) (b : SrReceiver) (r : ReceiverState) (q : Segment) → SrReceiverIs N b r
    → SrAnswerIs N (sr_receiver_rcv N b (notcorrupt (sr_packet q))) (receive SelectiveRepeat N r q)
unfolding receive
sr_receive N b r q h = go (leb r.base q.number) refl (ltb q.number (r.base + N)) refl (leb r.base (q.number + N)) refl
  where
    go : (t : Bool) → leb r.base q.number ≡ t → (u : Bool) → ltb q.number (r.base + N) ≡ u → (v : Bool) → leb r.base (q.number + N) ≡ v
        → SrAnswerIs N (sr_receiver_rcv N b (notcorrupt (sr_packet q))) (receive SelectiveRepeat N r q)
    go true e true e' v e'' =
        let t : r.base ≤ q.number = leb-true r.base q.number e in
        let u : q.number < r.base + N = ltb-true q.number (r.base + N) e' in
        let e₁ : leb b.rcv_base q.number ≡ true = le-leb b.rcv_base q.number (omega (arith, h)) in
        let e₂ : ltb q.number (b.rcv_base + N) ≡ true = lt-ltb q.number (b.rcv_base + N) (omega (arith, h)) in
        rw (e, e', e₁, e₂) (sr_in_window_lem N b r q h t u)
    go true e false e' v e'' =
        let t : r.base ≤ q.number = leb-true r.base q.number e in
        let u : r.base + N ≤ q.number = ltb-false q.number (r.base + N) e' in
        let e₁ : leb b.rcv_base q.number ≡ true = le-leb b.rcv_base q.number (omega (arith, h)) in
        let e₂ : ltb q.number (b.rcv_base + N) ≡ false = le-ltb q.number (b.rcv_base + N) (omega (arith, h)) in
        let e₃ : ltb q.number b.rcv_base ≡ false = le-ltb q.number b.rcv_base (omega (arith, h)) in
        let e₄ : leb (b.rcv_base - N) q.number ≡ true = le-leb (b.rcv_base - N) q.number (omega (arith, h)) in
        rw (e, e', e₁, e₂, e₃, e₄) record { after = h; delivered = refl; acks = refl }
    go false e u e' true e'' =
        let t : q.number < r.base = leb-false r.base q.number e in
        let v : r.base ≤ q.number + N = leb-true r.base (q.number + N) e'' in
        let e₁ : leb b.rcv_base q.number ≡ false = lt-leb b.rcv_base q.number (omega (arith, h)) in
        let e₃ : ltb q.number b.rcv_base ≡ true = lt-ltb q.number b.rcv_base (omega (arith, h)) in
        let e₄ : leb (b.rcv_base - N) q.number ≡ true = le-leb (b.rcv_base - N) q.number (omega (arith, h)) in
        rw (e, e'', e₁, e₃, e₄) record { after = h; delivered = refl; acks = refl }
    go false e u e' false e'' =
        let t : q.number < r.base = leb-false r.base q.number e in
        let v : q.number + N < r.base = leb-false r.base (q.number + N) e'' in
        let e₁ : leb b.rcv_base q.number ≡ false = lt-leb b.rcv_base q.number (omega (arith, h)) in
        let e₄ : leb (b.rcv_base - N) q.number ≡ false = lt-leb (b.rcv_base - N) q.number (omega (arith, h)) in
        rw (e, e'', e₁, e₄) record { after = h; delivered = refl; acks = refl }
