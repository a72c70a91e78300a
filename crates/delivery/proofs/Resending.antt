-- A resending of the ends is a resending of the machine.
use Prim.Native.Nat.{ℕ, suc, ◌+◌, ◌-◌, ◌≤◌}
use mathlib.Core.Path.{◌≡◌, refl, sym, ap, ◌∙◌, subst}
use mathlib.Core.List.Memᴰ
use mathlib.Core.List.{List, [], ◌∷◌, ◌++◌, map, Memᴰ}
use mathlib.Core.Bool.{Bool, true, false, cond, not, ◌&&◌}
use native.Mathlib.Omega.{arith}
use borrow.Author.Tests.{leb-true}
use lib.ListN.{length, get_or, take, drop}
use lib.Dec.{leb, ltb}
use Rattle.protocol.specs.declared.ProtocolType.{ProtocolType}
use Rattle.protocol.specs.Runs.{up_from}
use Rattle.protocol.specs.Machine.{Segment, SenderState, next_number, segments_from, receive}
use Rattle.protocol.specs.PlainMachine.{handle_timeout, PlainState, plain_step, plain_outstanding, WindowFits}
use Rattle.protocol.specs.Trace as trace
use Rattle.protocol.specs.Trace.{Event, call_of}
use Rattle.protocol.proofs.Laws.{is_selective, Invariant, Own, Every, every_nil, every_append, every_mono, every_head, every_tail, step_ok, claimed}
use Rattle.delivery.specs.Calls.{whole, flipped, Call, send, timeout, to_receiver, to_sender, Ends, World, datagrams, step, run, number_of, fed_by, fed_in}
use Rattle.delivery.specs.Demand3.{is_outstanding, outstanding_of, made_by, resend_start, ResendsAll}
use Rattle.delivery.proofs.Datagrams.{DataBytes, AckBytes, Each, each_length, datagrams_flatten, data_framed, data_number, data_numbers, numbers_from, count_from, ack_number}
use Rattle.delivery.proofs.Follow.{SentAgain, Follow}
use Rattle.delivery.proofs.Simulation.{data_added, acks_added, none_added, Follows, sender_kept, sent_again_lem, packet_taken, ack_taken}

pub false≠true : ◌≡◌ {A = Bool} false true → ⊥
false≠true e = let z : ◌≡◌ {A = ℕ} 0 1 = ap (λ (b : Bool). cond b 1 0) e in omega arith

none_left : {X Y : Type 0} (R : X → Y → Type 0) (xs : List X) (ys : List Y) → Each R xs ys → xs ≡ [] → ys ≡ []
none_left R [] [] h e = refl
none_left R [] (y ∷ ys) h e = absurd h
none_left R (x ∷ xs) ys h e = let z : ◌≡◌ {A = ℕ} (suc (length xs)) 0 = ap length e in absurd (omega arith)

-- what is acknowledged at the sender is what is noted there
abbrev SameMarks : SenderState → PlainState → Type 0
SameMarks m s = (i : ℕ) → get_or m.acknowledged i false ≡ get_or s.at_sender (s.A + i) false

same_marks : (selective : Bool) (w : ℕ) (m : trace.World) (s : PlainState) → Own selective w m.sender m.receiver s → SameMarks m.sender s
same_marks true w m s h = h.marks_is
same_marks false w m s h = λ i. h.no_marks i ∙ sym (h.none_noted (s.A + i))

-- outstanding to the plain machine is outstanding at the sender
same_test : (A base n len next : ℕ) (x y : Bool) → base ≡ A → next ≡ len → (A ≤ n → x ≡ y) → ((leb A n && ltb n len) && not x) ≡ ((leb base n && ltb n next) && not y)
same_test A base n len next x y e f h = go (leb A n) refl
  where
    go : (b : Bool) → leb A n ≡ b → ((leb A n && ltb n len) && not x) ≡ ((leb base n && ltb n next) && not y)
    go true k = rw (e, f, h (leb-true A n k)) refl
    go false k = rw (e, k) refl

module _ (selective : Bool) (w : ℕ) (m : trace.World) (s : PlainState) (i : Invariant selective w m s) where
  same_one : (n : ℕ) → is_outstanding s n ≡ trace.is_outstanding m.sender n
  same_one n =
      let b = i.ends.base_is in
      let marks = same_marks selective w m s i.own in
      same_test s.A m.sender.base n (length s.sent) (next_number m.sender) (get_or s.at_sender n false) (get_or m.sender.acknowledged (n - m.sender.base) false) b (claimed selective w m s i).all_numbered
      (λ h. let e : s.A + (n - m.sender.base) ≡ n = omega arith in
      ap (λ (k : ℕ). get_or s.at_sender k false) (sym e) ∙ sym (marks (n - m.sender.base)))

  pub same_outstanding : (ns : List ℕ) → outstanding_of s ns ≡ trace.outstanding_of m.sender ns
  same_outstanding [] = refl
  same_outstanding (n ∷ ns) = rw (same_one n, same_outstanding ns) refl

module _ (p : ProtocolType) (w : ℕ) (o : WindowFits p w) (E : Ends) (F : Follow p w E) (rest : List ℕ) where
  -- in the midst of a resending: what was made and not yet handed over, as bytes and as segments and numbers
  record Going (v : World E) (m : trace.World) (s : PlainState) (packets replies : List (List ℕ)) (qs : List Segment) (ns : List ℕ) : Type 0 where
    follows : Follows p w E F rest v m
    invariant : Invariant (is_selective p) w m s
    packets_are : Each DataBytes packets qs
    replies_are : Each AckBytes replies ns
    segments_made : Every (λ q. Memᴰ q m.segments) qs
    acks_made : Every (λ n. Memᴰ n m.acks) ns

  pub record ResentAs (v : World E) (m : trace.World) (numbers : List ℕ) (qs : List Segment) (ns : List ℕ) (cs : List (Call E.Timeout)) : Type 0 where
    pub events : List Event
    pub resending : trace.ResendsAll p w m numbers qs ns events
    pub same_fed : map call_of events ≡ fed_in E v cs
    pub follows : Follows p w E F rest (run E v cs) (trace.run p w m events)

  -- a timeout
  going_timeout : (v : World E) (m : trace.World) (s : PlainState) (packets replies : List (List ℕ)) (qs : List Segment) (ns : List ℕ) (t : E.Timeout) (buffer : List ℕ)
      → Going v m s packets replies qs ns → (e : (E.handle_timeout v.sender t buffer).is_done ≡ true)
      → (k : SentAgain E F.SenderIs (E.handle_timeout v.sender t buffer) m.sender)
      → Going (step E v (timeout t buffer)) (trace.step p w m (trace.resent k.first k.count)) (plain_step p w s (fed_by E v (timeout t buffer)))
      (packets ++ made_by E v (timeout t buffer)) replies (qs ++ segments_from m.sender k.first k.count) ns
  unfolding step trace.step fed_by
  going_timeout v m s packets replies qs ns t buffer g e k =
      record {
        follows = sent_again_lem p w E F rest v m g.follows t buffer k;
        invariant = rw e (step_ok p w m s (trace.resent k.first k.count) o g.invariant (k.low, k.high));
        packets_are = data_added packets qs _ k.packets _ g.packets_are k.wrote k.each;
        replies_are = g.replies_are;
        segments_made = every_append (every_mono (λ q h. Memᴰ.append_left _ h) g.segments_made) (record { all = λ q h. Memᴰ.append_right m.segments h });
        acks_made = g.acks_made;
      }

  -- one after which nothing is sent
  going_nothing : (v : World E) (m : trace.World) (s : PlainState) (packets replies : List (List ℕ)) (qs : List Segment) (ns : List ℕ) (t : E.Timeout) (buffer : List ℕ)
      → Going v m s packets replies qs ns → (E.handle_timeout v.sender t buffer).is_done ≡ false
      → Going (step E v (timeout t buffer)) m (plain_step p w s (fed_by E v (timeout t buffer))) (packets ++ made_by E v (timeout t buffer)) replies qs ns
  unfolding step fed_by plain_step
  going_nothing v m s packets replies qs ns t buffer g e =
      let k = F.not_resent v.sender m.sender t buffer g.follows.sender e in
      record {
        follows = sender_kept p w E F rest v m g.follows (E.handle_timeout v.sender t buffer) k;
        invariant = rw e g.invariant;
        packets_are = rw (none_added packets (E.handle_timeout v.sender t buffer).written k.nothing) g.packets_are;
        replies_are = g.replies_are;
        segments_made = g.segments_made;
        acks_made = g.acks_made;
      }

  going_packet : (v : World E) (m : trace.World) (s : PlainState) (raw : List ℕ) (packets replies : List (List ℕ)) (q : Segment) (qs : List Segment) (ns : List ℕ) (i : ℕ) (buffer : List ℕ)
      → Going v m s (raw ∷ packets) replies (q ∷ qs) ns → DataBytes (get_or v.sent i []) q → (E.handle_packet v.receiver (get_or v.sent i []) buffer).is_done ≡ true
      → Going (step E v (to_receiver (whole i) buffer)) (trace.step p w m (trace.received q)) (plain_step p w s (fed_by E v (to_receiver (whole i) buffer)))
      packets (replies ++ datagrams (E.handle_packet v.receiver (get_or v.sent i []) buffer).written) qs (ns ++ (receive p w m.receiver q).acks)
  unfolding step trace.step fed_by
  going_packet v m s raw packets replies q qs ns i buffer g d e =
      let k = F.received v.receiver m.receiver (get_or v.sent i []) buffer q g.follows.receiver d e in
      record {
        follows = packet_taken p w E F rest v m g.follows (get_or v.sent i []) buffer q d e;
        invariant = rw (e, data_number _ q d) (step_ok p w m s (trace.received q) o g.invariant (every_head g.segments_made));
        packets_are = g.packets_are.1;
        replies_are = acks_added replies ns _ k.replies _ g.replies_are k.wrote k.each;
        segments_made = every_tail g.segments_made;
        acks_made = every_append (every_mono (λ n h. Memᴰ.append_left _ h) g.acks_made) (record { all = λ n h. Memᴰ.append_right m.acks h });
      }

  going_ack : (v : World E) (m : trace.World) (s : PlainState) (raw : List ℕ) (packets replies : List (List ℕ)) (qs : List Segment) (n : ℕ) (ns : List ℕ) (i : ℕ)
      → Going v m s packets (raw ∷ replies) qs (n ∷ ns) → AckBytes (get_or v.replies i []) n → (E.handle_ack v.sender (get_or v.replies i [])).is_done ≡ true
      → Going (step E v (to_sender (whole i))) (trace.step p w m (trace.acknowledged n)) (plain_step p w s (fed_by E v (to_sender (whole i)))) packets replies qs ns
  unfolding step trace.step fed_by
  going_ack v m s raw packets replies qs n ns i g d e =
      record {
        follows = ack_taken p w E F rest v m g.follows (get_or v.replies i []) n d e;
        invariant = rw (e, ack_number _ n d) (step_ok p w m s (trace.acknowledged n) o g.invariant (every_head g.acks_made));
        packets_are = g.packets_are;
        replies_are = g.replies_are.1;
        segments_made = g.segments_made;
        acks_made = every_tail g.acks_made;
      }

  -- one event before the others
  timeout_before : (v : World E) (m : trace.World) (numbers : List ℕ) (qs : List Segment) (ns : List ℕ) (t : E.Timeout) (buffer : List ℕ) (cs : List (Call E.Timeout))
      (k : SentAgain E F.SenderIs (E.handle_timeout v.sender t buffer) m.sender) → (E.handle_timeout v.sender t buffer).is_done ≡ true → take k.count numbers ≡ up_from k.first k.count
      → ResentAs (step E v (timeout t buffer)) (trace.step p w m (trace.resent k.first k.count)) (drop k.count numbers) (qs ++ segments_from m.sender k.first k.count) ns cs
      → ResentAs v m numbers qs ns (timeout t buffer ∷ cs)
  unfolding fed_in fed_by run trace.run
  timeout_before v m numbers qs ns t buffer cs k e n rest =
      record {
        events = trace.resent k.first k.count ∷ rest.events;
        resending = (k.some, n, rest.resending);
        same_fed = rw (e, rest.same_fed) refl;
        follows = rest.follows;
      }

  nothing_before : (v : World E) (m : trace.World) (numbers : List ℕ) (qs : List Segment) (ns : List ℕ) (t : E.Timeout) (buffer : List ℕ) (cs : List (Call E.Timeout))
      → (E.handle_timeout v.sender t buffer).is_done ≡ false → ResentAs (step E v (timeout t buffer)) m numbers qs ns cs → ResentAs v m numbers qs ns (timeout t buffer ∷ cs)
  unfolding fed_in fed_by run trace.run trace.step
  nothing_before v m numbers qs ns t buffer cs e rest =
      record { events = trace.other handle_timeout ∷ rest.events; resending = rest.resending; same_fed = rw (e, rest.same_fed) refl; follows = rest.follows }

  packet_before : (v : World E) (m : trace.World) (numbers : List ℕ) (q : Segment) (qs : List Segment) (ns : List ℕ) (i : ℕ) (buffer : List ℕ) (cs : List (Call E.Timeout))
      → DataBytes (get_or v.sent i []) q → (E.handle_packet v.receiver (get_or v.sent i []) buffer).is_done ≡ true
      → ResentAs (step E v (to_receiver (whole i) buffer)) (trace.step p w m (trace.received q)) numbers qs (ns ++ (receive p w m.receiver q).acks) cs
      → ResentAs v m numbers (q ∷ qs) ns (to_receiver (whole i) buffer ∷ cs)
  unfolding fed_in fed_by run trace.run
  packet_before v m numbers q qs ns i buffer cs d e rest =
      record {
        events = trace.received q ∷ rest.events;
        resending = (refl, rest.resending);
        same_fed = rw (e, data_number _ q d, rest.same_fed) refl;
        follows = rest.follows;
      }

  ack_before : (v : World E) (m : trace.World) (numbers : List ℕ) (qs : List Segment) (n : ℕ) (ns : List ℕ) (i : ℕ) (cs : List (Call E.Timeout))
      → AckBytes (get_or v.replies i []) n → (E.handle_ack v.sender (get_or v.replies i [])).is_done ≡ true
      → ResentAs (step E v (to_sender (whole i))) (trace.step p w m (trace.acknowledged n)) (trace.outstanding_of (trace.step p w m (trace.acknowledged n)).sender numbers) qs ns cs
      → ResentAs v m numbers qs (n ∷ ns) (to_sender (whole i) ∷ cs)
  unfolding fed_in fed_by run trace.run trace.step
  ack_before v m numbers qs n ns i cs d e rest =
      record {
        events = trace.acknowledged n ∷ rest.events;
        resending = (refl, rest.resending);
        same_fed = rw (e, ack_number _ n d, rest.same_fed) refl;
        follows = rest.follows;
      }

  -- a timeout before the others, whatever it sends; `next` is what follows it
  timeout_first : (v : World E) (m : trace.World) (s : PlainState) (numbers : List ℕ) (packets replies : List (List ℕ)) (qs : List Segment) (ns : List ℕ) (t : E.Timeout) (buffer : List ℕ)
      (cs : List (Call E.Timeout)) → Going v m s packets replies qs ns
      → take (length (made_by E v (timeout t buffer))) numbers ≡ map number_of (made_by E v (timeout t buffer))
      → (next : (m' : trace.World) (qs' : List Segment) → Going (step E v (timeout t buffer)) m' (plain_step p w s (fed_by E v (timeout t buffer))) (packets ++ made_by E v (timeout t buffer)) replies qs' ns
      → ResentAs (step E v (timeout t buffer)) m' (drop (length (made_by E v (timeout t buffer))) numbers) qs' ns cs)
      → (b : Bool) → (E.handle_timeout v.sender t buffer).is_done ≡ b → ResentAs v m numbers qs ns (timeout t buffer ∷ cs)
  timeout_first v m s numbers packets replies qs ns t buffer cs g h next true e =
      let k = F.resent v.sender m.sender t buffer g.follows.sender e in
      let made : made_by E v (timeout t buffer) ≡ k.packets = rw k.wrote (datagrams_flatten k.packets (data_framed k.packets _ k.each)) in
      let count : length (made_by E v (timeout t buffer)) ≡ k.count = ap length made ∙ each_length DataBytes k.packets _ k.each ∙ count_from m.sender k.first k.count in
      timeout_before v m numbers qs ns t buffer cs k e
      (ap (λ (j : ℕ). take j numbers) (sym count) ∙ h ∙ ap (map number_of) made ∙ data_numbers k.packets _ k.each ∙ numbers_from m.sender k.first k.count)
      (subst (λ (j : ℕ). ResentAs (step E v (timeout t buffer)) (trace.step p w m (trace.resent k.first k.count)) (drop j numbers) (qs ++ segments_from m.sender k.first k.count) ns cs) count
      (next _ _ (going_timeout v m s packets replies qs ns t buffer g e k)))
  timeout_first v m s numbers packets replies qs ns t buffer cs g h next false e =
      let k = F.not_resent v.sender m.sender t buffer g.follows.sender e in
      nothing_before v m numbers qs ns t buffer cs e
      (subst (λ (made : List (List ℕ)). ResentAs (step E v (timeout t buffer)) m (drop (length made) numbers) qs ns cs) (none_added [] (E.handle_timeout v.sender t buffer).written k.nothing)
      (next m qs (going_nothing v m s packets replies qs ns t buffer g e)))

  resending_follows : (v : World E) (m : trace.World) (s : PlainState) (numbers : List ℕ) (packets replies : List (List ℕ)) (qs : List Segment) (ns : List ℕ)
      → Going v m s packets replies qs ns → (cs : List (Call E.Timeout))
      → ResendsAll p w E (record { world = v; plain = s; numbers = numbers; packets = packets; replies = replies }) cs → ResentAs v m numbers qs ns cs
  unfolding fed_in run trace.run
  resending_follows v m s numbers packets replies qs ns g [] h =
      record {
        events = [];
        resending = (h.0, none_left DataBytes packets qs g.packets_are h.1, none_left AckBytes replies ns g.replies_are h.2);
        same_fed = refl;
        follows = g.follows;
      }
  resending_follows v m s numbers packets replies qs ns g (send payload buffer ∷ cs) h = absurd h.0
  resending_follows v m s numbers packets replies qs ns g (timeout t buffer ∷ cs) h =
      timeout_first v m s numbers packets replies qs ns t buffer cs g h.0 (λ m' qs' next. resending_follows (step E v (timeout t buffer)) m' _ _ _ replies qs' ns next cs h.1) _ refl
  resending_follows v m s numbers [] replies qs ns g (to_receiver (whole i) buffer ∷ cs) h = absurd h.0.1
  resending_follows v m s numbers (raw ∷ packets) replies [] ns g (to_receiver (whole i) buffer ∷ cs) h = absurd g.packets_are
  resending_follows v m s numbers (raw ∷ packets) replies (q ∷ qs) ns g (to_receiver (whole i) buffer ∷ cs) h =
      let d : DataBytes (get_or v.sent i []) q = rw h.0.1 g.packets_are.0 in
      packet_before v m numbers q qs ns i buffer cs d h.0.2
      (resending_follows (step E v (to_receiver (whole i) buffer)) (trace.step p w m (trace.received q)) _ numbers packets _ qs (ns ++ (receive p w m.receiver q).acks)
      (going_packet v m s raw packets replies q qs ns i buffer g d h.0.2) cs h.1)
  resending_follows v m s numbers packets replies qs ns g (to_receiver (flipped i j b) buffer ∷ cs) h = absurd (false≠true h.0.0)
  resending_follows v m s numbers packets [] qs ns g (to_sender (whole i) ∷ cs) h = absurd h.0.1
  resending_follows v m s numbers packets (raw ∷ replies) qs [] g (to_sender (whole i) ∷ cs) h = absurd g.replies_are
  resending_follows v m s numbers packets (raw ∷ replies) qs (n ∷ ns) g (to_sender (whole i) ∷ cs) h =
      let d : AckBytes (get_or v.replies i []) n = rw h.0.1 g.replies_are.0 in
      let next = going_ack v m s raw packets replies qs n ns i g d h.0.2 in
      let same = same_outstanding (is_selective p) w (trace.step p w m (trace.acknowledged n)) (plain_step p w s (fed_by E v (to_sender (whole i)))) next.invariant numbers in
      ack_before v m numbers qs n ns i cs d h.0.2
      (subst (λ (l : List ℕ). ResentAs (step E v (to_sender (whole i))) (trace.step p w m (trace.acknowledged n)) l qs ns cs) same
      (resending_follows (step E v (to_sender (whole i))) (trace.step p w m (trace.acknowledged n)) (plain_step p w s (fed_by E v (to_sender (whole i)))) _ packets replies qs ns next cs h.1))
  resending_follows v m s numbers packets replies qs ns g (to_sender (flipped i j b) ∷ cs) h = absurd (false≠true h.0.0)

  -- from its start
  pub resent_as : (v : World E) (m : trace.World) (s : PlainState) → Follows p w E F rest v m → Invariant (is_selective p) w m s
      → (cs : List (Call E.Timeout)) → ResendsAll p w E (resend_start E v s) cs → ResentAs v m (trace.outstanding m.sender) [] [] cs
  resent_as v m s f i cs h =
      subst (λ (ns : List ℕ). ResentAs v m ns [] [] cs) (sym (claimed (is_selective p) w m s i).outstanding_is)
      (resending_follows v m s (plain_outstanding s) [] [] [] []
      (record { follows = f; invariant = i; packets_are = tt; replies_are = tt; segments_made = every_nil; acks_made = every_nil }) cs h)
