-- What the reverse line hands over: each copy is a call, with the sample that an accepted ACK gives.
use Rattle.std.specs.Prelude.{None, Option, Some}
use Prim.Native.Nat.{ℕ, ◌+◌, ◌-◌, ◌≤◌, ◌<◌}
use native.Mathlib.Omega.{arith}
use mathlib.Core.Path.{◌≡◌, refl, sym, ap, ◌∙◌, subst}
use mathlib.Core.Bool.{Bool, true, false, cond, not, true≢false, and-eq-true_iff}
use mathlib.Core.Logic.{◌⊎◌, inl, inr, ⊎_elim}
use mathlib.Core.List.{List, [], ◌∷◌, ◌++◌, append-nil, foldl}
use lib.Dec.{ltb, leb, eqb}
use lib.ListN.{take}
use borrow.Author.Tests.{ltb-true, leb-true}
use native.Mathlib.Nat.{le_trans}
use Rattle.packet.specs.Reading.{read_datagram}
use Rattle.rto.specs.History as rto
use Rattle.rto.specs.Rto.{update_rtt_unchecked}
use Rattle.rto.specs.declared.RtoEstimator.{RtoEstimator}
use Rattle.rto.specs.declared.UpdateResult.{UpdateResult}
use Rattle.rto.proofs.Laws.{update_accepted}
use Rattle.rows.specs.Rows.{is_set}
use Rattle.notes.specs.Notes.{SegMetas, meta_at, SampleExit, take_sample}
use Rattle.notes.proofs.Laws.{sample_first, sample_again, sample_within}
use Rattle.clock.specs.Clock.{by_sample, sample_rtt}
use Rattle.clock.specs.declared.Timing.{Timing}
use Rattle.clock.proofs.Laws.{can_sample}
use Rattle.path.specs.Direction.{Direction}
use Rattle.path.specs.Path.{left_by_take}
use Rattle.window.specs.Acknowledgement.{is_in_window, AckExit}
use Rattle.delivery.specs.Ends.{is_handled}
use Rattle.session.specs.Sending.{SenderEnd, window_in, window_of, handle_ack, handle_ack_unchecked, ack_answer_of}
use Rattle.session.specs.GoodSender.{SenderUnbroken}
use Rattle.session.specs.declared.SenderState.{SenderState}
use Rattle.session.specs.declared.SenderState.TheVariants as senderState
use Rattle.session.proofs.Laws.{ack_keeps_sender}
use Rattle.receiving.specs.Receiving.{Inbound, inbound}
use Rattle.acks.specs.Acks.{AckState, ack_number, sample_seq, on_accepted, counted, duplicate, is_accepted, by_number, on_ack}
use Rattle.acks.specs.Good.{CanOnAck}
use Rattle.acks.specs.Reverse.{serve_reverse, CanServeReverse}
use Rattle.acks.proofs.Laws.{acked, next_taken, can_hand_over, turn_good, serve_reverse_invariant}
use Rattle.run_history.specs.Calls.{return, is_number, one}
use Rattle.sending.specs.declared.Resends.{Resends}
use Rattle.run_history.specs.Calls.{Reply}
use Rattle.run_history.specs.Samples.{round_trip_by, first_sample}
use Rattle.run_history.specs.Answered.{Taken}
use Rattle.run_history.proofs.Noted.{noted_sampled, any_more}
use Rattle.run_history.proofs.Columns.{line_of, TakenFrom, taken_from, line_taken}
use Rattle.run_history.proofs.Holds.{LineHolds, Takes, Hands, hands_copy, take_holds}
use Rattle.run_history.proofs.Tells.{Origin, Moment, moment, Replied, reverse_copies, NotedBy, Told, Tested, Makes, told_more, no_reply, same_noted, none_chunked, same_chunked, none_sent, none_arrives, no_more}

-- ---- the segment whose round trip an accepted ACK ends was sent
base_or_number : (x : SenderState) (n : ℕ) → (sample_seq x n ≡ (window_in x).send_base) ⊎ (sample_seq x n ≡ n)
base_or_number (senderState.StopAndWait s) n = inl refl
base_or_number (senderState.GoBackN s) n = inl refl
base_or_number (senderState.SelectiveRepeat s) n = inr refl

accepted_only : (t : Bool) → is_accepted (ack_answer_of t) ≡ true → t ≡ true
accepted_only true e = refl
accepted_only false e = absurd (true≢false (sym e))

trip_sent : (v : SenderEnd) (raw : List ℕ) → SenderUnbroken v → (n : ℕ) → ack_number (read_datagram raw) ≡ Some n → is_accepted (handle_ack v raw).answer ≡ true → sample_seq v.sender.state n < (window_of v.sender).next_seq_num
unfolding handle_ack_unchecked
trip_sent v raw u n h a =
    let s = window_of v.sender in
    let in_window = accepted_only (is_in_window s n) (sym (ap (λ (x : AckExit SenderEnd). is_accepted x.answer) (acked v raw u n h)) ∙ a) in
    let both = (and-eq-true_iff (leb s.send_base n) (ltb n s.next_seq_num)).0 in_window in
    let low = leb-true s.send_base n both.0 in
    let high = ltb-true n s.next_seq_num both.1 in
    ⊎_elim (λ e. omega (arith, e, low, high)) (λ e. omega (arith, e, high)) (base_or_number v.sender.state n)

-- ---- a sample as the estimator's call
abbrev calls_of : Option (ℕ × Bool) → List rto.Call
calls_of None = []
calls_of (Some (age, again)) = rto.sample age again ∷ []

module _ (b : Origin) (f : Direction) (i : Inbound) (again : Resends) (written : ℕ) (rows : List (List ℕ)) where
  -- the receiving side as it was, with the reverse line
  abbrev pub return_moment : Direction → AckState → Moment
  return_moment d s = moment f (inbound i.side i.store i.output s.metas d) s.sender s.estimator s.received s.duplicates again written rows

  abbrev pub Returns : Direction → AckState → Type 0
  Returns d s = Told b (return_moment d s)

  module _ (timing : Timing) (now : ℕ) (raw : List ℕ) (d left : Direction) (from : TakenFrom d left) (took : (gs : List (List ℕ)) (places : List ℕ) → LineHolds gs places (line_of d) → Takes gs places raw (line_of left)) (s : AckState) where
    one_returned : (e : SenderEnd) (r : RtoEstimator) (m : SegMetas) (acks duplicates : ℕ) (xs : List Reply) (came : ℕ) → Replied b xs came (return_moment d s)
        → Replied b (xs ++ []) (came + 1) (moment f (inbound i.side i.store i.output m left) e r acks duplicates again written rows)
    one_returned e r m acks duplicates xs came q =
        subst (λ (l : List Reply). Replied b l (came + 1) (return_moment left s)) (sym (append-nil xs)) (record { acks_are = q.acks_are; line = line_taken d left from q.line })

    came : (xs : List Reply) (k : ℕ) (places : List ℕ) → Replied b xs k (return_moment d s) → LineHolds (reverse_copies b xs) places (line_of d) → Hands (reverse_copies b xs) (raw ∷ []) places (λ (ps : List ℕ). LineHolds (reverse_copies b (xs ++ [])) ps (line_of left))
    came xs k places q h = subst (λ (ys : List Reply). Hands (reverse_copies b xs) (raw ∷ []) places (λ (ps : List ℕ). LineHolds (reverse_copies b ys) ps (line_of left))) (sym (append-nil xs)) (hands_copy (took _ places h))

    -- no valid ACK
    dropped : ack_number (read_datagram raw) ≡ None → Makes b (return raw 0) (return_moment d s) (return_moment left s)
    dropped h =
        record {
          not_refused = λ t. absurd (true≢false (sym t ∙ ap is_number h));
          ends_are = rw h;
          chunks_are = same_chunked b (return_moment d s);
          sending = none_sent b (return_moment d s);
          arrives = λ xs k places q h. none_arrives b (line_of f) xs places h;
          returns = came;
          replying = one_returned s.sender s.estimator s.metas s.received s.duplicates;
          estimator_is = λ sampled again t. rw h;
          taken = λ sampled again t. rw h tt;
          datas_are = no_more _;
          repeats_are = no_more _;
          premature_are = λ test k. no_more _;
          acks_are = rw h (no_more s.received);
          duplicates_are = rw h (no_more s.duplicates);
        }

    handled : SenderUnbroken s.sender → (n : ℕ) → ack_number (read_datagram raw) ≡ Some n → is_handled (handle_ack s.sender raw).answer ≡ true
    unfolding handle_ack_unchecked
    handled u n h = ap (λ (x : AckExit SenderEnd). is_handled x.answer) (acked s.sender raw u n h) ∙ either (is_in_window (window_of s.sender.sender) n)
      where
        either : (t : Bool) → is_handled (ack_answer_of t) ≡ true
        either true = refl
        either false = refl

    module _ (u : SenderUnbroken s.sender) (n : ℕ) (h : ack_number (read_datagram raw) ≡ Some n) where
      -- with the sender after it, another estimator, other notes and another count of duplicates
      abbrev answered : RtoEstimator → SegMetas → ℕ → Moment
      answered e m k = moment f (inbound i.side i.store i.output m left) (handle_ack s.sender raw).after e (s.received + 1) k again written rows

      abbrev trips : ℕ → List ℕ
      trips age = round_trip_by (return_moment d s).ends (return raw age)

      acknowledged : (age : ℕ) (e : RtoEstimator) (m : SegMetas) (k : ℕ) → s.duplicates + one (not (is_accepted (handle_ack s.sender raw).answer)) ≡ k
          → ((sampled again : ℕ → Bool) → Tested sampled again (return_moment d s) → (foldl rto.step s.estimator (first_sample sampled again age (trips age)) ≡ e) × Taken s.estimator (first_sample sampled again age (trips age)))
          → Makes b (return raw age) (return_moment d s) (answered e m k)
      acknowledged age e m k dup est =
          record {
            not_refused = λ t. handled u n h;
            ends_are = rw h;
            chunks_are = none_chunked b (ack_keeps_sender s.sender raw).next;
            sending = none_sent b (return_moment d s);
            arrives = λ xs k places q h. none_arrives b (line_of f) xs places h;
            returns = came;
            replying = one_returned (handle_ack s.sender raw).after e m (s.received + 1) k;
            estimator_is = λ sampled again t. (est sampled again t).0;
            taken = λ sampled again t. (est sampled again t).1;
            datas_are = no_more _;
            repeats_are = no_more _;
            premature_are = λ test k. no_more _;
            acks_are = rw h;
            duplicates_are = rw h dup;
          }

      -- the next number stays
      as_next : (xs : List Reply) (ys : List ℕ) {m : SegMetas} → NotedBy (return_moment d s).events xs ys (window_of s.sender.sender).next_seq_num m → NotedBy (return_moment d s).events xs ys (window_of (handle_ack s.sender raw).after.sender).next_seq_num m
      as_next xs ys {m} q = subst (λ (k : ℕ). NotedBy (return_moment d s).events xs ys k m) (sym (ack_keeps_sender s.sender raw).next) q

      -- not accepted: no round trip ends
      module _ (a : is_accepted (handle_ack s.sender raw).answer ≡ false) where
        no_trips : trips 0 ≡ []
        no_trips = rw (h, a)

        duplicate_told : Returns d s → Told b (answered s.estimator s.metas (s.duplicates + 1))
        duplicate_told q =
            told_more q
            (acknowledged 0 s.estimator s.metas (s.duplicates + 1) (ap (λ (x : Bool). s.duplicates + one (not x)) a) (λ sampled again t. rw no_trips (refl, tt)))
            tt (λ xs ys k. rw no_trips (as_next (xs ++ []) (ys ++ []) (same_noted (return_moment d s) xs ys k)))

    module _ (can : CanOnAck s now) where
      update_is : (l : ℕ) (re : Bool) → l ≤ now → rto.step s.estimator (rto.sample l re) ≡ update_rtt_unchecked s.estimator l re
      unfolding rto.step
      update_is l re h =
          let g = can.good.estimator in
          let counts = (can_sample s.estimator s.received g s.metas now can.good.notes can.few).counts in
          ap (λ (x : UpdateResult). x.estimator) (update_accepted s.estimator l re (record { state = g.state; times = g.times }) counts (le_trans h can.good.notes.within))

      update_taken : (l : ℕ) (re : Bool) → l ≤ now → rto.is_refused s.estimator (rto.sample l re) ≡ false
      unfolding rto.is_refused
      update_taken l re h =
          let g = can.good.estimator in
          let counts = (can_sample s.estimator s.received g s.metas now can.good.notes can.few).counts in
          ap (λ (x : UpdateResult). rto.update_refused x.answer) (update_accepted s.estimator l re (record { state = g.state; times = g.times }) counts (le_trans h can.good.notes.within))

      module _ (n : ℕ) (h : ack_number (read_datagram raw) ≡ Some n) (a : is_accepted (handle_ack s.sender raw).answer ≡ true) where
        abbrev seq : ℕ
        seq = sample_seq s.sender.sender.state n

        abbrev age : ℕ
        age = now - (meta_at s.metas seq).original_send_at

        sent_segment : seq < (window_of s.sender.sender).next_seq_num
        sent_segment = trip_sent s.sender raw can.good.sender n h a

        one_trip : round_trip_by (return_moment d s).ends (return raw age) ≡ seq ∷ []
        one_trip = rw (h, a)

        -- the sample is the estimator's call
        sample_called : (q : Returns d s) (sampled again : ℕ → Bool) → Tested sampled again (return_moment d s) → first_sample sampled again age (seq ∷ []) ≡ calls_of (take_sample s.metas seq now).sample
        sample_called q sampled again t = by_flag (is_set (meta_at s.metas seq).rtt_sampled) refl
          where
            x : (sampled seq ≡ is_set (meta_at s.metas seq).rtt_sampled) × (again seq ≡ is_set (meta_at s.metas seq).ever_retransmitted)
            x = t seq sent_segment

            by_flag : (c : Bool) → is_set (meta_at s.metas seq).rtt_sampled ≡ c → first_sample sampled again age (seq ∷ []) ≡ calls_of (take_sample s.metas seq now).sample
            by_flag true e = ap (λ (c : Bool). cond c [] (rto.sample age (again seq) ∷ [])) (x.0 ∙ e) ∙ ap (λ (y : SampleExit). calls_of y.sample) (sym (sample_again s.metas seq now e))
            by_flag false e =
                ap (λ (c : Bool). cond c [] (rto.sample age (again seq) ∷ [])) (x.0 ∙ e) ∙ ap (λ (c : Bool). rto.sample age c ∷ []) x.1
                ∙ ap (λ (y : SampleExit). calls_of y.sample) (sym (sample_first s.metas seq now (subst (λ (k : ℕ). seq < k) (sym q.noted.count) sent_segment) e))

        sample_taken : (x : Option (ℕ × Bool)) → (take_sample s.metas seq now).sample ≡ x → (foldl rto.step s.estimator (calls_of x) ≡ by_sample s.estimator x) × Taken s.estimator (calls_of x)
        sample_taken None e = (refl, tt)
        sample_taken (Some (l, re)) e = let w = sample_within s.metas seq now l re e in (update_is l re w, (update_taken l re w, tt))

        accepted_told : Returns d s → Returns left (on_accepted timing now n seq (counted s (handle_ack s.sender raw).after))
        unfolding on_accepted sample_rtt
        accepted_told q =
            let x = take_sample s.metas seq now in
            told_more q
            (acknowledged can.good.sender n h age (by_sample s.estimator x.sample) x.metas s.duplicates (ap (λ (c : Bool). s.duplicates + one (not c)) a ∙ no_more s.duplicates)
            (λ sampled again t. rw (one_trip, sample_called q sampled again t) (sample_taken x.sample refl)))
            tt
            (λ xs ys k. rw one_trip (as_next can.good.sender n h (xs ++ []) (ys ++ seq ∷ []) (no_reply (return_moment d s).events xs (ys ++ seq ∷ []) (noted_sampled k seq sent_segment (λ j. any_more (eqb j) ys seq) now))))

      pub return_told : Returns d s → Returns left (on_ack timing now raw s)
      unfolding on_ack
      return_told q = by_number_lem (ack_number (read_datagram raw)) refl
        where
          by_accepted : (n : ℕ) → ack_number (read_datagram raw) ≡ Some n → (t : Bool) → is_accepted (handle_ack s.sender raw).answer ≡ t
              → Returns left (cond t (on_accepted timing now n (sample_seq s.sender.sender.state n) (counted s (handle_ack s.sender raw).after)) (duplicate (counted s (handle_ack s.sender raw).after)))
          by_accepted n h true a = accepted_told n h a q
          by_accepted n h false a = duplicate_told can.good.sender n h a q

          by_number_lem : (x : Option ℕ) → ack_number (read_datagram raw) ≡ x → Returns left (by_number x timing now raw s)
          by_number_lem None h = told_more q (dropped h) tt (λ xs ys k. rw h (same_noted (return_moment d s) xs ys k))
          by_number_lem (Some n) h = by_accepted n h (is_accepted (handle_ack s.sender raw).answer) refl

  pub returns_told : (timing : Timing) (now : ℕ) (d : Direction) (s : AckState) → CanServeReverse d s now → Returns d s → Returns (serve_reverse timing now d s).reverse (serve_reverse timing now d s).state
  returns_told timing now d s can q =
      (serve_reverse_invariant timing now (λ (d : Direction) (s : AckState). CanServeReverse d s now × Returns d s)
      (λ d s n e h. (turn_good timing now d s h.0 n e, return_told timing now (take n (next_taken now d).out) d (left_by_take (next_taken now d)) (taken_from now d n e) (λ gs places k. take_holds now d n h.0.sound h.0.times e k) s (can_hand_over timing now d s h.0 n e) h.1)) d s (can, q)).1
