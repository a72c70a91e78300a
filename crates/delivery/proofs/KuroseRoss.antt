-- After any admissible list of calls over bytes that doesn't depart from Kurose and Ross, the ends hold what the book's machines hold.
use Prim.Native.Nat.{ℕ}
use mathlib.Core.Path.{◌≡◌, refl, sym, ap, ap₂, ◌∙◌}
use mathlib.Core.List.{List, [], ◌∷◌, map, flatten}
use Rattle.protocol.specs.declared.ProtocolType.{ProtocolType}
use Rattle.protocol.specs.declared.ProtocolType.TheVariants.{StopAndWait, GoBackN, SelectiveRepeat}
use Rattle.protocol.specs.Machine.{Segment, SenderState, ReceiverState}
use Rattle.protocol.specs.PlainMachine as plain
use Rattle.protocol.specs.PlainMachine.{PlainState, plain_start, plain_step, WindowFits}
use Rattle.protocol.specs.Trace as trace
use Rattle.protocol.specs.Trace.{Event, call_of, new_world}
use Rattle.protocol.specs.KuroseRoss.{Packet}
use Rattle.protocol.specs.KuroseRossRuns.{book, BookWorld, new_book_world, book_step, book_run, SenderIs, ReceiverIs, WorldIs, LikeBook}
use Rattle.protocol.proofs.Laws.{is_selective, Invariant, at_start, step_ok, step_like_book, start_like_book}
use Rattle.delivery.specs.Calls.{Call, World, step, run, Admissible, number_of}
use Rattle.delivery.specs.Ends.{ends, fresh_ends, Made}
use Rattle.delivery.specs.KuroseRoss.{segment_in, event_by, events_in, sender_in, receiver_in, world_in, CallsLikeBook, HoldsBook}
use Rattle.delivery.proofs.Datagrams.{DataBytes, AckBytes, Each, data_segment, ack_number}
use Rattle.delivery.proofs.Instances.{calls_follow}
use Rattle.delivery.proofs.Simulation.{Follows, one_step}
use Rattle.delivery.proofs.Demand3.{follows, fresh_start}

sender_view : (p : ProtocolType) (w : ℕ) (s : (ends p).Sender) (m : SenderState) → (follows p w).SenderIs s m → sender_in p s ≡ m
unfolding follows calls_follow
sender_view StopAndWait w s m h = h.is
sender_view GoBackN w s m h = h.is
sender_view SelectiveRepeat w s m h = h.is

receiver_view : (p : ProtocolType) (w : ℕ) (r : (ends p).Receiver) (m : ReceiverState) → (follows p w).ReceiverIs r m → receiver_in p r ≡ m
unfolding follows calls_follow
receiver_view StopAndWait w r m h = h.is
receiver_view GoBackN w r m h = h.is
receiver_view SelectiveRepeat w r m h = h.is

-- `LikeBook` looks at the two ends only
like_same : (p : ProtocolType) (v m : trace.World) (e : Event) → v.sender ≡ m.sender → v.receiver ≡ m.receiver → LikeBook p v e → LikeBook p m e
like_same p v m (trace.sent c) s r k = tt
like_same p v m (trace.resent n j) s r k = rw (← s) k
like_same p v m (trace.received q) s r k = rw (← r) k
like_same p v m (trace.acknowledged n) s r k = rw (← s) k
like_same p v m (trace.other (plain.send_chunk c)) s r k = tt
like_same p v m (trace.other plain.handle_timeout) s r k = rw (← s) k
like_same p v m (trace.other (plain.handle_data n)) s r k = k
like_same p v m (trace.other (plain.handle_ack n)) s r k = tt

packets_are : {X : Type 0} (f : Segment → X) (raws : List (List ℕ)) (qs : List Segment) → Each DataBytes raws qs → map f qs ≡ map (λ raw. f (segment_in raw)) raws
packets_are f [] [] h = refl
packets_are f [] (q ∷ qs) h = absurd h
packets_are f (raw ∷ raws) [] h = absurd h
packets_are f (raw ∷ raws) (q ∷ qs) h = ap₂ (λ x xs. x ∷ xs) (ap f (sym (data_segment raw q h.0))) (packets_are f raws qs h.1)

acks_are : {X : Type 0} (f : ℕ → X) (raws : List (List ℕ)) (ns : List ℕ) → Each AckBytes raws ns → map f ns ≡ map (λ raw. f (number_of raw)) raws
acks_are f [] [] h = refl
acks_are f [] (n ∷ ns) h = absurd h
acks_are f (raw ∷ raws) [] h = absurd h
acks_are f (raw ∷ raws) (n ∷ ns) h = ap₂ (λ x xs. x ∷ xs) (ap f (sym (ack_number raw n h.0))) (acks_are f raws ns h.1)

module _ (p : ProtocolType) (w : ℕ) (o : WindowFits p w) (rest : List ℕ) where
  -- from the machine's ends to the bytes
  holds : (b : BookWorld (book p w)) (v : World (ends p)) (m : trace.World) → Follows p w (ends p) (follows p w) rest v m → WorldIs p w b m → HoldsBook p w b v
  holds b v m f h =
      record {
        sender_is = rw (sender_view p w v.sender m.sender f.sender) h.sender_is;
        receiver_is = rw (receiver_view p w v.receiver m.receiver f.receiver) h.receiver_is;
        same_output = f.output ∙ ap flatten (sym h.same_delivered);
        same_packets = h.same_packets ∙ packets_are (book p w).packet v.sent m.segments f.sent;
        same_acks = h.same_acks ∙ acks_are (book p w).ack v.replies m.acks f.replies;
      }

  every_list_like_book : (b : BookWorld (book p w)) (v : World (ends p)) (m : trace.World) (s : PlainState) → Follows p w (ends p) (follows p w) rest v m → Invariant (is_selective p) w m s
      → WorldIs p w b m → (cs : List (Call (ends p).Timeout)) → Admissible (ends p) v cs → CallsLikeBook p v cs
      → HoldsBook p w (book_run (book p w) b (events_in (ends p) v cs)) (run (ends p) v cs)
  unfolding run events_in
  every_list_like_book b v m s f i h [] a k = holds b v m f h
  every_list_like_book b v m s f i h (c ∷ cs) a k =
      let one = one_step p w (ends p) (follows p w) rest v m f c a.0 in
      let like : LikeBook p m (event_by (ends p) v c) =
      like_same p (world_in p v) m (event_by (ends p) v c) (sender_view p w v.sender m.sender f.sender) (receiver_view p w v.receiver m.receiver f.receiver) k.0 in
      let next : WorldIs p w (book_step (book p w) b (event_by (ends p) v c)) (trace.step p w m one.event) =
      rw (← one.event_is) (step_like_book p w b m s one.event o i one.allowed (rw one.event_is like) h) in
      every_list_like_book (book_step (book p w) b (event_by (ends p) v c)) (step (ends p) v c) (trace.step p w m one.event) (plain_step p w s (call_of one.event))
      one.follows (step_ok p w m s one.event o i one.allowed) next cs a.1 k.1

-- sndpkt is what the book's sender holds at first
pub bytes_like_book : (p : ProtocolType) (w limit : ℕ) (sending receiving output : List ℕ) → Made p w sending receiving → (sndpkt : ℕ → Packet) → (cs : List (Call (ends p).Timeout))
    → Admissible (ends p) (fresh_ends p w limit sending receiving output) cs → CallsLikeBook p (fresh_ends p w limit sending receiving output) cs
    → HoldsBook p w (book_run (book p w) (new_book_world (book p w) sndpkt) (events_in (ends p) (fresh_ends p w limit sending receiving output) cs)) (run (ends p) (fresh_ends p w limit sending receiving output) cs)
bytes_like_book p w limit sending receiving output m sndpkt cs a k =
    every_list_like_book p w m.window _ (new_book_world (book p w) sndpkt) (fresh_ends p w limit sending receiving output) (new_world p w) plain_start
    (fresh_start p w limit sending receiving output m) (at_start p w) (start_like_book p w sndpkt) cs a k

-- Selective Repeat never departs
any_like_book : (v : World (ends SelectiveRepeat)) (cs : List (Call ℕ)) → CallsLikeBook SelectiveRepeat v cs
any_like_book v [] = tt
any_like_book v (c ∷ cs) = (one (event_by (ends SelectiveRepeat) v c), any_like_book (step (ends SelectiveRepeat) v c) cs)
  where
    one : (e : Event) → LikeBook SelectiveRepeat (world_in SelectiveRepeat v) e
    one (trace.sent c) = tt
    one (trace.resent n k) = tt
    one (trace.received q) = tt
    one (trace.acknowledged n) = tt
    one (trace.other (plain.send_chunk c)) = tt
    one (trace.other plain.handle_timeout) = tt
    one (trace.other (plain.handle_data n)) = tt
    one (trace.other (plain.handle_ack n)) = tt

pub selective_repeat_bytes_like_book : (w : ℕ) (sending receiving output : List ℕ) → Made SelectiveRepeat w sending receiving → (sndpkt : ℕ → Packet) → (cs : List (Call ℕ))
    → Admissible (ends SelectiveRepeat) (fresh_ends SelectiveRepeat w 0 sending receiving output) cs
    → HoldsBook SelectiveRepeat w (book_run (book SelectiveRepeat w) (new_book_world (book SelectiveRepeat w) sndpkt) (events_in (ends SelectiveRepeat) (fresh_ends SelectiveRepeat w 0 sending receiving output) cs))
    (run (ends SelectiveRepeat) (fresh_ends SelectiveRepeat w 0 sending receiving output) cs)
selective_repeat_bytes_like_book w sending receiving output m sndpkt cs a =
    bytes_like_book SelectiveRepeat w 0 sending receiving output m sndpkt cs a (any_like_book (fresh_ends SelectiveRepeat w 0 sending receiving output) cs)
