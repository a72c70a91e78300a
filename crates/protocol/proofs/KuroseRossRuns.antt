-- In every fair list of events the Selective Repeat ends do what the book's do, and the others in every fair list that is `AllLikeBook`.
use mathlib.Core.Bool.{Bool, true, false}
use mathlib.Core.Path.{◌≡◌, refl, sym, ap, ap₂, ◌∙◌}
use mathlib.Core.List.{List, [], ◌∷◌, ◌++◌, map, map-append, append-nil, Memᴰ}
use Prim.Native.Nat.{ℕ, zero, suc, ◌+◌, ◌-◌, ◌%◌, ◌≤◌, ◌<◌}
use native.Mathlib.Omega.{arith}
use native.Mathlib.Decide.{ℕ_discrete, dec_lt}
use lib.ListN.{length}
use Rattle.protocol.specs.Runs.{up_from}
use Rattle.protocol.specs.Machine.{Chunk, Segment, SenderState, ReceiverState, Received, next_number, send, segments_from, acknowledge, receive}
use Rattle.protocol.specs.PlainMachine.{PlainState, plain_start, plain_step, send_chunk, handle_timeout, handle_data, handle_ack, WindowFits}
use Rattle.protocol.specs.Trace.{World, new_world, Event, sent, resent, received, acknowledged, other, step, run, Allowed, Admissible, call_of}
use Rattle.protocol.specs.KuroseRoss.{Data, Packet, corrupt, notcorrupt, ReceiverDid, rdt3_send, rdt3_timeout, rdt3_sender_rcv, rdt3_receiver_rcv, rdt3_packet, rdt3_waits, rdt3_sender_of, rdt3_answer, gbn_receiver_rcv, gbn_packet, gbn_receiver_of, gbn_answer, SrSender, sr_packet, SrSenderIs}
use Rattle.protocol.specs.KuroseRossRuns.{sr_timeouts, book, BookWorld, new_book_world, at_sender, at_receiver, book_step, book_run, SenderIs, ReceiverIs, WorldIs, InOrderOnly, NumberLikeBook, AckLikeBook, LikeBook, AllLikeBook}
use Rattle.protocol.specs.declared.ProtocolType.{ProtocolType}
use Rattle.protocol.specs.declared.ProtocolType.TheVariants.{StopAndWait, GoBackN, SelectiveRepeat}
use Rattle.protocol.proofs.Invariant.{is_selective, Invariant, at_start}
use Rattle.protocol.proofs.Safety.{step_ok, claimed}
use Rattle.protocol.proofs.KuroseRoss.{rdt3_send_lem, rdt3_timeout_lem, rdt3_ack, rdt3_ack_none, rdt3_ack_other, rdt3_receive, rdt3_receive_other, gbn_start, gbn_send_lem, gbn_sends, gbn_timeout_lem, gbn_ack, gbn_receive, gbn_receive_any, sr_start, sr_send_lem, sr_sends, sr_timeout_lem, sr_ack, sr_receiver_start, sr_receive}
use Rattle.protocol.proofs.KuroseRossDepartures.{rdt3_sender_corrupt}

-- ---- each end's event, whatever the protocol

record Sends (p : ProtocolType) (w : ℕ) (b : (book p w).Sender) (s : SenderState) (c : Chunk) : Type 0 where
  after : SenderIs p w ((book p w).rdt_send b c).after (send s c)
  packets : ((book p w).rdt_send b c).udt_send ≡ (book p w).packet (record { number = next_number s; payload = c }) ∷ []

sends : (p : ProtocolType) (w : ℕ) (b : (book p w).Sender) (s : SenderState) (c : Chunk) → WindowFits p w → SenderIs p w b s → length s.chunks < w
    → Sends p w b s c
sends StopAndWait w b s c o h l =
    let x = rdt3_send_lem s c (empty s.chunks (omega arith)) in
    record { after = ap (λ b. (rdt3_send b c).after) h ∙ ap (λ a. a.after) x; packets = ap (λ b. (rdt3_send b c).udt_send) h ∙ ap (λ a. a.udt_send) x }
  where
    empty : (cs : List Chunk) → length cs < 1 → cs ≡ []
    empty [] l = refl
    empty (c ∷ cs) l = absurd (omega arith)
sends GoBackN w b s c o h l = record { after = gbn_send_lem w b s c h l; packets = gbn_sends w b s c h l }
sends SelectiveRepeat w b s c o h l = record { after = sr_send_lem w b s c h l; packets = sr_sends w b s c h l }

sr_timeouts_lem : (w : ℕ) (b : SrSender) (s : SenderState) (n k : ℕ) → SrSenderIs w b s → s.base ≤ n → n + k ≤ next_number s
    → sr_timeouts b n k ≡ map sr_packet (segments_from s n k)
unfolding segments_from
sr_timeouts_lem w b s n zero h l m = refl
sr_timeouts_lem w b s n (suc k) h l m =
    ap₂ (λ (x y : List Packet). x ++ y) (ap (λ a. a.udt_send) (sr_timeout_lem w b s n h l (omega arith)))
    (sr_timeouts_lem w b s (suc n) k h (omega arith) (omega arith))

resends : (p : ProtocolType) (w : ℕ) (b : (book p w).Sender) (s : SenderState) (n k : ℕ) → WindowFits p w → SenderIs p w b s → length s.chunks ≤ w
    → s.base ≤ n → n + k ≤ next_number s → InOrderOnly p ((n ≡ s.base) × (k ≡ length s.chunks))
    → (book p w).timeouts b n k ≡ map (book p w).packet (segments_from s n k)
resends StopAndWait w b s n k o h c l m i =
    ap (λ b. (rdt3_timeout b).udt_send) h ∙ ap (λ a. a.udt_send) (rdt3_timeout_lem s (omega arith))
    ∙ ap₂ (λ (x y : ℕ). map rdt3_packet (segments_from s x y)) (sym i.0) (sym i.1)
resends GoBackN w b s n k o h c l m i =
    ap (λ a. a.udt_send) (gbn_timeout_lem b s h) ∙ ap₂ (λ (x y : ℕ). map gbn_packet (segments_from s x y)) (sym i.0) (sym i.1)
resends SelectiveRepeat w b s n k o h c l m i = sr_timeouts_lem w b s n k h l m

acknowledges : (p : ProtocolType) (w : ℕ) (b : (book p w).Sender) (s : SenderState) (n : ℕ) → WindowFits p w → SenderIs p w b s → length s.chunks ≤ w
    → n < next_number s → AckLikeBook p s n
    → SenderIs p w ((book p w).sender_rcv b (notcorrupt ((book p w).ack n))) (acknowledge p s n)
acknowledges StopAndWait w b s n o h c l i = ap (λ b. rdt3_sender_rcv b (notcorrupt (n % 2))) h ∙ go (ℕ_discrete n s.base)
  where
    go : Dec (n ≡ s.base) → rdt3_sender_rcv (rdt3_sender_of s) (notcorrupt (n % 2)) ≡ rdt3_sender_of (acknowledge StopAndWait s n)
    go (yes e) = rw e (rdt3_ack s (omega (arith, o, c)))
    go (no e) = outstanding s.chunks refl
      where
        outstanding : (cs : List Chunk) → s.chunks ≡ cs → rdt3_sender_rcv (rdt3_sender_of s) (notcorrupt (n % 2)) ≡ rdt3_sender_of (acknowledge StopAndWait s n)
        outstanding [] y = rdt3_ack_none s n y
        outstanding (d ∷ cs) y = rdt3_ack_other s n (omega (arith, o, c)) (λ x. e (i (λ z. let q : ◌≡◌ {A = ℕ} 0 1 = cc in omega arith) x))
acknowledges GoBackN w b s n o h c l i = gbn_ack b s n h i l
acknowledges SelectiveRepeat w b s n o h c l i = sr_ack w b s n h l

record Receives (p : ProtocolType) (w : ℕ) (x : ReceiverDid (book p w).Receiver) (y : Received) : Type 0 where
  after : ReceiverIs p w x.after y.after
  delivered : x.deliver_data ≡ y.delivered
  acks : x.udt_send ≡ map (book p w).ack y.acks

receives : (p : ProtocolType) (w : ℕ) (b : (book p w).Receiver) (r : ReceiverState) (q : Segment) → WindowFits p w → ReceiverIs p w b r → q.number < r.base + w
    → NumberLikeBook p r.base q.number → Receives p w ((book p w).receiver_rcv b (notcorrupt ((book p w).packet q))) (receive p w r q)
receives StopAndWait w b r q o h l i =
    let x = ap (λ b. rdt3_receiver_rcv b (notcorrupt (rdt3_packet q))) h ∙ go (ℕ_discrete q.number r.base) in
    record { after = ap (λ a. a.after) x; delivered = ap (λ a. a.deliver_data) x; acks = ap (λ a. a.udt_send) x }
  where
    go : Dec (q.number ≡ r.base) → rdt3_receiver_rcv (r.base % 2) (notcorrupt (rdt3_packet q)) ≡ rdt3_answer (receive StopAndWait w r q)
    go (yes e) = rdt3_receive w r q e
    go (no e) = rdt3_receive_other w r q (omega (arith, o, l)) (λ x. e (i x))
receives GoBackN w b r q o h l i =
    let x = ap (λ b. gbn_receiver_rcv b (notcorrupt (gbn_packet q))) h ∙ go (ℕ_discrete q.number r.base) in
    record { after = ap (λ a. a.after) x; delivered = ap (λ a. a.deliver_data) x; acks = ap (λ a. a.udt_send) x }
  where
    go : Dec (q.number ≡ r.base) → gbn_receiver_rcv (gbn_receiver_of r) (notcorrupt (gbn_packet q)) ≡ gbn_answer (receive GoBackN w r q)
    go (yes e) = gbn_receive w r q e
    go (no e) = gbn_receive_any w r q (first (dec_lt 0 r.base))
      where
        first : Dec (0 < r.base) → 0 < r.base
        first (yes k) = k
        first (no k) = let z : r.base ≡ 0 = omega arith in let y : q.number ≡ 0 = i z in absurd (e (omega arith))
receives SelectiveRepeat w b r q o h l i =
    let x = sr_receive w b r q h in
    record { after = x.after; delivered = x.delivered; acks = x.acks ∙ sym (map_id (receive SelectiveRepeat w r q).acks) }
  where
    map_id : (l : List ℕ) → map (λ n. n) l ≡ l
    map_id [] = refl
    map_id (n ∷ l) = ap (λ (t : List ℕ). n ∷ t) (map_id l)

corrupt_receives : (p : ProtocolType) (w : ℕ) (b : (book p w).Receiver) (r : ReceiverState) → ReceiverIs p w b r → InOrderOnly p ⊥
    → Receives p w ((book p w).receiver_rcv b corrupt) (record { after = r; delivered = []; acks = [] })
corrupt_receives StopAndWait w b r h i = absurd i
corrupt_receives GoBackN w b r h i = absurd i
corrupt_receives SelectiveRepeat w b r h i = record { after = h; delivered = refl; acks = refl }

corrupt_acknowledges : (p : ProtocolType) (w : ℕ) (b : (book p w).Sender) → (book p w).sender_rcv b corrupt ≡ b
corrupt_acknowledges StopAndWait w b = rdt3_sender_corrupt b
corrupt_acknowledges GoBackN w b = refl
corrupt_acknowledges SelectiveRepeat w b = refl

-- with nothing outstanding a timeout sends nothing
nothing_resent : (p : ProtocolType) (w : ℕ) (b : (book p w).Sender) (s : SenderState) → SenderIs p w b s
    → InOrderOnly p (s.chunks ≡ []) → (book p w).timeouts b 0 0 ≡ []
nothing_resent StopAndWait w b s h i = ap (λ b. (rdt3_timeout b).udt_send) h ∙ ap (λ cs. (rdt3_timeout (rdt3_waits s.base cs)).udt_send) i
nothing_resent GoBackN w b s h i =
    let l : length s.chunks ≡ 0 = ap length i in
    let k : b.nextseqnum - b.base ≡ 0 = omega arith in
    ap (λ (k : ℕ). map b.sndpkt (up_from b.base k)) k
nothing_resent SelectiveRepeat w b s h i = refl

-- ---- the two ends

sender_step : (p : ProtocolType) (w : ℕ) (b : BookWorld (book p w)) (v : World) (x : (book p w).Sender) (s : SenderState) (ps : List Packet) (qs : List Segment)
    → WorldIs p w b v → SenderIs p w x s → ps ≡ map (book p w).packet qs
    → WorldIs p w (at_sender (book p w) b x ps)
    (record { sender = s; receiver = v.receiver; delivered = v.delivered; segments = v.segments ++ qs; acks = v.acks })
sender_step p w b v x s ps qs h i e =
    record {
      sender_is = i;
      receiver_is = h.receiver_is;
      same_delivered = h.same_delivered;
      same_packets = ap₂ (λ (x y : List Packet). x ++ y) h.same_packets e ∙ sym (map-append (book p w).packet v.segments qs);
      same_acks = h.same_acks;
    }

sender_quiet : (p : ProtocolType) (w : ℕ) (b : BookWorld (book p w)) (v : World) (x : (book p w).Sender) (s : SenderState) (ps : List Packet)
    → WorldIs p w b v → SenderIs p w x s → ps ≡ []
    → WorldIs p w (at_sender (book p w) b x ps)
    (record { sender = s; receiver = v.receiver; delivered = v.delivered; segments = v.segments; acks = v.acks })
sender_quiet p w b v x s ps h i e =
    record {
      sender_is = i;
      receiver_is = h.receiver_is;
      same_delivered = h.same_delivered;
      same_packets = ap (λ (y : List Packet). b.packets ++ y) e ∙ append-nil b.packets ∙ h.same_packets;
      same_acks = h.same_acks;
    }

receiver_step : (p : ProtocolType) (w : ℕ) (b : BookWorld (book p w)) (v : World) (x : ReceiverDid (book p w).Receiver) (y : Received)
    → WorldIs p w b v → Receives p w x y
    → WorldIs p w (at_receiver (book p w) b x)
    (record { sender = v.sender; receiver = y.after; delivered = v.delivered ++ y.delivered; segments = v.segments; acks = v.acks ++ y.acks })
receiver_step p w b v x y h i =
    record {
      sender_is = h.sender_is;
      receiver_is = i.after;
      same_delivered = ap₂ (λ (x y : List Data). x ++ y) h.same_delivered i.delivered;
      same_packets = h.same_packets;
      same_acks = ap₂ (λ (x y : List ℕ). x ++ y) h.same_acks i.acks ∙ sym (map-append (book p w).ack v.acks y.acks);
    }

-- an ACK that was made is of a number that was sent
pub ack_sent : (selective : Bool) (w : ℕ) (v : World) (s : PlainState) (n : ℕ) → Invariant selective w v s → Memᴰ n v.acks → n < next_number v.sender
ack_sent selective w v s n i m =
    let y : n < length s.sent = go selective i in
    let e = (claimed selective w v s i).all_numbered in
    omega arith
  where
    go : (b : Bool) → Invariant b w v s → n < length s.sent
    go false i = let l : n < s.D = i.acks_noted.all n m in omega (arith, l, i.ends.D≤sent)
    go true i = i.own.noted_sent n (i.acks_noted.all n m)

pub step_like_book : (p : ProtocolType) (w : ℕ) (b : BookWorld (book p w)) (v : World) (s : PlainState) (e : Event) → WindowFits p w → Invariant (is_selective p) w v s
    → Allowed w v e → LikeBook p v e → WorldIs p w b v → WorldIs p w (book_step (book p w) b e) (step p w v e)
unfolding step
step_like_book p w b v s (sent c) o i a k h =
    let x = sends p w b.sender v.sender c o h.sender_is a in
    sender_step p w b v ((book p w).rdt_send b.sender c).after (send v.sender c) ((book p w).rdt_send b.sender c).udt_send
    (record { number = next_number v.sender; payload = c } ∷ []) h x.after x.packets
step_like_book p w b v s (resent n j) o i a k h =
    let x = (claimed (is_selective p) w v s i).all_numbered in
    sender_step p w b v b.sender v.sender ((book p w).timeouts b.sender n j) (segments_from v.sender n j) h h.sender_is
    (resends p w b.sender v.sender n j o h.sender_is (omega (arith, i.ends)) a.0 a.1 k)
step_like_book p w b v s (received q) o i a k h =
    let c = i.segments_carry.all q a in
    receiver_step p w b v ((book p w).receiver_rcv b.receiver (notcorrupt ((book p w).packet q))) (receive p w v.receiver q) h
    (receives p w b.receiver v.receiver q o h.receiver_is (omega (arith, c, i.ends)) k)
step_like_book p w b v s (acknowledged n) o i a k h =
    let x = (claimed (is_selective p) w v s i).all_numbered in
    sender_quiet p w b v ((book p w).sender_rcv b.sender (notcorrupt ((book p w).ack n))) (acknowledge p v.sender n) [] h
    (acknowledges p w b.sender v.sender n o h.sender_is (omega (arith, i.ends)) (ack_sent (is_selective p) w v s n i a) k) refl
step_like_book p w b v s (other (send_chunk c)) o i a k h = h
step_like_book p w b v s (other handle_timeout) o i a k h =
    sender_quiet p w b v b.sender v.sender ((book p w).timeouts b.sender 0 0) h h.sender_is
    (nothing_resent p w b.sender v.sender h.sender_is k)
step_like_book p w b v s (other (handle_data n)) o i a k h =
    rw (append-nil v.delivered, append-nil v.acks) at (receiver_step p w b v ((book p w).receiver_rcv b.receiver corrupt)
    (record { after = v.receiver; delivered = []; acks = [] }) h (corrupt_receives p w b.receiver v.receiver h.receiver_is k))
step_like_book p w b v s (other (handle_ack n)) o i a k h =
    sender_quiet p w b v ((book p w).sender_rcv b.sender corrupt) v.sender [] h (rw (corrupt_acknowledges p w b.sender) h.sender_is) refl

run_like_book : (p : ProtocolType) (w : ℕ) (b : BookWorld (book p w)) (v : World) (s : PlainState) (es : List Event) → WindowFits p w → Invariant (is_selective p) w v s
    → Admissible p w v es → AllLikeBook p w v es → WorldIs p w b v → WorldIs p w (book_run (book p w) b es) (run p w v es)
unfolding run
run_like_book p w b v s [] o i f k h = h
run_like_book p w b v s (e ∷ es) o i f k h =
    run_like_book p w (book_step (book p w) b e) (step p w v e) (plain_step p w s (call_of e)) es o (step_ok p w v s e o i f.0) f.1 k.1
    (step_like_book p w b v s e o i f.0 k.0 h)

pub start_like_book : (p : ProtocolType) (w : ℕ) (f : ℕ → Packet) → WorldIs p w (new_book_world (book p w) f) (new_world p w)
unfolding new_world
start_like_book StopAndWait w f =
    record { sender_is = refl; receiver_is = refl; same_delivered = refl; same_packets = refl; same_acks = refl }
start_like_book GoBackN w f =
    record { sender_is = gbn_start f; receiver_is = refl; same_delivered = refl; same_packets = refl; same_acks = refl }
start_like_book SelectiveRepeat w f =
    record { sender_is = sr_start w f; receiver_is = sr_receiver_start w; same_delivered = refl; same_packets = refl; same_acks = refl }

pub like_book : (p : ProtocolType) (w : ℕ) (f : ℕ → Packet) (es : List Event) → WindowFits p w → Admissible p w (new_world p w) es → AllLikeBook p w (new_world p w) es
    → WorldIs p w (book_run (book p w) (new_book_world (book p w) f) es) (run p w (new_world p w) es)
like_book p w f es o a k = run_like_book p w (new_book_world (book p w) f) (new_world p w) plain_start es o (at_start p w) a k (start_like_book p w f)

all_like_book : (w : ℕ) (v : World) (es : List Event) → AllLikeBook SelectiveRepeat w v es
all_like_book w v [] = tt
all_like_book w v (e ∷ es) = (one e, all_like_book w (step SelectiveRepeat w v e) es)
  where
    one : (e : Event) → LikeBook SelectiveRepeat v e
    one (sent c) = tt
    one (resent n k) = tt
    one (received q) = tt
    one (acknowledged n) = tt
    one (other (send_chunk c)) = tt
    one (other handle_timeout) = tt
    one (other (handle_data n)) = tt
    one (other (handle_ack n)) = tt

pub selective_repeat_like_book : (w : ℕ) (f : ℕ → Packet) (es : List Event) → Admissible SelectiveRepeat w (new_world SelectiveRepeat w) es
    → WorldIs SelectiveRepeat w (book_run (book SelectiveRepeat w) (new_book_world (book SelectiveRepeat w) f) es)
    (run SelectiveRepeat w (new_world SelectiveRepeat w) es)
selective_repeat_like_book w f es a =
    like_book SelectiveRepeat w f es tt a (all_like_book w (new_world SelectiveRepeat w) es)
