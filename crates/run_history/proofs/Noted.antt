-- The notes of a run say of each number sent what its events, replies and round trips say.
use Prim.Native.Nat.{ℕ, ◌+◌, ◌≤◌, ◌<◌}
use mathlib.Core.Path.{◌≡◌, refl, sym, ap, ◌∙◌, subst}
use mathlib.Core.Bool.{Bool, true, false, cond, not, ◌&&◌, ◌||◌}
use mathlib.Core.List.{List, [], ◌∷◌, ◌++◌}
use mathlib.Core.Logic.{◌⊎◌, inl, inr, ⊎_elim}
use native.Mathlib.Omega.{arith}
use native.Mathlib.Decide.{ℕ_discrete}
use borrow.Author.Tests.{lt-ltb, le-ltb, ltb-true, ltb-false, leb-true, leb-false, eqb-true, eqb-false, eq-eqb, ne_eqb}
use lib.Dec.{ltb, leb, eqb}
use lib.Ieee.{Float}
use lib.ListN.{length}
use Rattle.rows.specs.Rows.{is_set}
use Rattle.rows.proofs.Laws.{flag_back}
use Rattle.schedule.specs.State.{copies}
use Rattle.schedule.specs.declared.Deliveries.{Deliveries}
use Rattle.schedule.specs.declared.Deliveries.TheVariants.{Lost, One, Two}
use Rattle.events.specs.Events.{ForwardEvent, delays_of, forward_event}
use Rattle.notes.specs.SegMeta.{SegMeta, seg_meta, first_sent, with_sending, with_dropped, with_ack_scheduled, with_rtt_sampled, premature}
use Rattle.notes.specs.Notes.{SegMetas, meta_at, update, new_notes, sent, mark_ack_scheduled, is_premature, SampleExit, take_sample}
use Rattle.notes.specs.declared.Notes.{Notes}
use Rattle.notes.proofs.Laws.{update_notes, update_length, update_at, update_other, update_cases, new_count, sent_count, sent_length, sent_at, sent_other, again_is, dropped_is, mark_one, mark_length, mark_count, mark_covers, mark_above, sample_first, sample_again, premature_noted, premature_none}
use Rattle.submission.specs.Submission.{note_before, note_after}
use Rattle.channel.specs.declared.ChannelConfig.{ChannelConfig}
use Rattle.path.specs.Rolls.{packet_rolls}
use Rattle.run_history.specs.Calls.{Submission}
use Rattle.run_history.specs.Lines.{any, events_from}
use Rattle.run_history.specs.Premature.{is_first_granted}
use Rattle.run_history.specs.Samples.{is_again}
use Rattle.submission.proofs.Laws.{before_first, before_again, after_first, after_again}

-- of each number: the first datagram was granted a copy, an ACK of it was sent, it has given its sample, it was sent again
pub record Flags : Type 0 where
  pub granted : ℕ → Bool
  pub acked : ℕ → Bool
  pub sampled : ℕ → Bool
  pub again : ℕ → Bool

abbrev pub flags : (ℕ → Bool) → (ℕ → Bool) → (ℕ → Bool) → (ℕ → Bool) → Flags
flags granted acked sampled again = record { granted = granted; acked = acked; sampled = sampled; again = again }

-- as a note says it
pub record Says (f : Flags) (n : ℕ) (x : SegMeta) : Type 0 where
  pub dropped : is_set x.original_dropped ≡ not (f.granted n)
  pub scheduled : is_set x.ack_scheduled ≡ f.acked n
  pub rtt : is_set x.rtt_sampled ≡ f.sampled n
  pub resent : is_set x.ever_retransmitted ≡ f.again n

-- of a number not yet sent
pub record Blank (f : Flags) (n : ℕ) : Type 0 where
  pub granted : f.granted n ≡ false
  pub acked : f.acked n ≡ false
  pub sampled : f.sampled n ≡ false
  pub again : f.again n ≡ false

pub record Noted (f : Flags) (next : ℕ) (m : SegMetas) : Type 0 where
  pub count : m.notes.count ≡ next
  pub fits : next ≤ length m.rows
  pub says : (n : ℕ) → n < next → Says f n (meta_at m n)
  pub blank : (n : ℕ) → next ≤ n → Blank f n

-- ---- the same of a number
pub record Alike (f g : Flags) (n : ℕ) : Type 0 where
  pub granted : g.granted n ≡ f.granted n
  pub acked : g.acked n ≡ f.acked n
  pub sampled : g.sampled n ≡ f.sampled n
  pub again : g.again n ≡ f.again n

module _ {f g : Flags} {n : ℕ} (a : Alike f g n) where
  says_as : {x : SegMeta} → Says f n x → Says g n x
  says_as q = record { dropped = q.dropped ∙ ap not (sym a.granted); scheduled = q.scheduled ∙ sym a.acked; rtt = q.rtt ∙ sym a.sampled; resent = q.resent ∙ sym a.again }

  blank_as : Blank f n → Blank g n
  blank_as q = record { granted = a.granted ∙ q.granted; acked = a.acked ∙ q.acked; sampled = a.sampled ∙ q.sampled; again = a.again ∙ q.again }

not_not : (b : Bool) → not (not b) ≡ b
not_not true = refl
not_not false = refl

or_false : (b : Bool) → (b || false) ≡ b
or_false true = refl
or_false false = refl

or_true : (b : Bool) → (b || true) ≡ true
or_true true = refl
or_true false = refl

below_or : (n k : ℕ) → (n < k) ⊎ (k ≤ n)
below_or n k = go (ltb n k) refl
  where
    go : (b : Bool) → ltb n k ≡ b → (n < k) ⊎ (k ≤ n)
    go true e = inl (ltb-true n k e)
    go false e = inr (ltb-false n k e)

module _ {f : Flags} {next : ℕ} {m : SegMetas} (q : Noted f next m) where
  pub premature_is : (n : ℕ) → (f.granted n && f.acked n) ≡ is_premature m n
  premature_is n =
      ⊎_elim (λ h. sym (premature_noted m n (rw q.count h) ∙ rw ((q.says n h).dropped, (q.says n h).scheduled) (ap (λ (b : Bool). b && f.acked n) (not_not (f.granted n)))))
      (λ h. rw (q.blank n h).granted (sym (premature_none m n (rw q.count h)))) (below_or n next)

  pub noted_as : {g : Flags} → ((n : ℕ) → Alike f g n) → Noted g next m
  noted_as a = record { count = q.count; fits = q.fits; says = λ n h. says_as (a n) (q.says n h); blank = λ n h. blank_as (a n) (q.blank n h) }

  -- a change of one note
  pub noted_update : (seq : ℕ) → seq < next → (h : SegMeta → SegMeta) {g : Flags} → ((n : ℕ) → (n ≡ seq → ⊥) → Alike f g n) → (Says f seq (meta_at m seq) → Says g seq (h (meta_at m seq))) → Noted g next (update m seq h)
  noted_update seq l h {g} other this =
      record {
        count = rw (update_notes m seq h) q.count;
        fits = rw (update_length m seq h) q.fits;
        says = λ n k. elim (ℕ_discrete n seq) [
          | yes e ↦ subst (λ (i : ℕ). Says g i (meta_at (update m seq h) i)) (sym e) (subst (Says g seq) (sym (update_at m seq h (rw q.count l) (rw q.count q.fits))) (this (q.says seq l)))
          | no e ↦ subst (Says g n) (sym (ap seg_meta (update_other m seq h n e))) (says_as (other n e) (q.says n k))
        ];
        blank = λ n k. blank_as (other n (λ e. omega (arith, e, k, l))) (q.blank n k);
      }

  -- a datagram again
  module _ (seq : ℕ) (below : seq < next) {granted again : ℕ → Bool} (g : (n : ℕ) → granted n ≡ f.granted n) (a : (n : ℕ) → again n ≡ (f.again n || eqb n seq)) where
    pub noted_again : (now rto : ℕ) (ds : Deliveries) → Noted (flags granted f.acked f.sampled again) next (note_after (note_before m seq true now rto) seq true ds)
    noted_again now rto ds =
        rw (after_again (note_before m seq true now rto) seq ds, before_again m seq now rto, again_is m seq now rto)
        (noted_update seq below (with_sending now rto) (λ n e. record { granted = g n; acked = refl; sampled = refl; again = a n ∙ rw (ne_eqb n seq e) (or_false (f.again n)) })
        (λ x. record { dropped = x.dropped ∙ ap not (sym (g seq)); scheduled = x.scheduled; rtt = x.rtt; resent = flag_back true ∙ sym (a seq ∙ rw (eq-eqb seq seq refl) (or_true (f.again seq))) }))

  -- the end of a round trip
  module _ (seq : ℕ) (below : seq < next) {sampled : ℕ → Bool} (s : (n : ℕ) → sampled n ≡ (f.sampled n || eqb n seq)) where
    abbrev sampled_flags : Flags
    sampled_flags = flags f.granted f.acked sampled f.again

    other_sampled : (n : ℕ) → (n ≡ seq → ⊥) → Alike f sampled_flags n
    other_sampled n e = record { granted = refl; acked = refl; sampled = s n ∙ rw (ne_eqb n seq e) (or_false (f.sampled n)); again = refl }

    same_sampled : f.sampled seq ≡ true → (n : ℕ) → Alike f sampled_flags n
    same_sampled h n = elim (ℕ_discrete n seq) [
      | yes e ↦ record { granted = refl; acked = refl; sampled = s n ∙ rw (e, h) refl; again = refl }
      | no e ↦ other_sampled n e
    ]

    pub noted_sampled : (now : ℕ) → Noted sampled_flags next (take_sample m seq now).metas
    noted_sampled now = by_flag (is_set (meta_at m seq).rtt_sampled) refl
      where
        by_flag : (b : Bool) → is_set (meta_at m seq).rtt_sampled ≡ b → Noted sampled_flags next (take_sample m seq now).metas
        by_flag true e = subst (λ (x : SampleExit). Noted sampled_flags next x.metas) (sym (sample_again m seq now e)) (noted_as (same_sampled (sym (q.says seq below).rtt ∙ e)))
        by_flag false e =
            subst (λ (x : SampleExit). Noted sampled_flags next x.metas) (sym (sample_first m seq now (rw q.count below) e))
            (noted_update seq below with_rtt_sampled other_sampled
            (λ x. record { dropped = x.dropped; scheduled = x.scheduled; rtt = flag_back true ∙ sym (s seq ∙ rw (eq-eqb seq seq refl) (or_true (f.sampled seq))); resent = x.resent }))

  -- a first datagram: the next number
  module _ (now rto : ℕ) (ds : Deliveries) (row : next < length m.rows) {granted again : ℕ → Bool} (g : (n : ℕ) → granted n ≡ (f.granted n || (eqb next n && ltb 0 (copies ds)))) (a : (n : ℕ) → again n ≡ f.again n) where
    abbrev fresh : SegMetas
    fresh = sent m next now rto

    abbrev last : SegMetas
    last = update fresh next (with_dropped (eqb (copies ds) 0))

    abbrev first_flags : Flags
    first_flags = flags granted f.acked f.sampled again

    after_is : note_after (note_before m next false now rto) next false ds ≡ last
    after_is = after_first (note_before m next false now rto) next ds ∙ dropped_is _ next (eqb (copies ds) 0) ∙ ap (λ (x : SegMetas). update x next (with_dropped (eqb (copies ds) 0))) (before_first m next now rto)

    fresh_count : fresh.notes.count ≡ next + 1
    fresh_count = sent_count m next now rto (sym q.count)

    this : meta_at last next ≡ with_dropped (eqb (copies ds) 0) (first_sent now rto)
    this =
        update_at fresh next (with_dropped (eqb (copies ds) 0)) (rw fresh_count (omega arith)) (rw (fresh_count, sent_length m next now rto) (omega (arith, row)))
        ∙ ap (with_dropped (eqb (copies ds) 0)) (sent_at m next now rto (sym q.count) row)

    other : (n : ℕ) → (n ≡ next → ⊥) → meta_at last n ≡ meta_at m n
    other n h = ap seg_meta (update_other fresh next (with_dropped (eqb (copies ds) 0)) n h ∙ sent_other m next now rto n h)

    none_lost : (k : ℕ) → eqb k 0 ≡ not (ltb 0 k)
    none_lost k = go (eqb k 0) refl
      where
        go : (b : Bool) → eqb k 0 ≡ b → b ≡ not (ltb 0 k)
        go true e = let z = eqb-true k 0 e in ap not (sym (le-ltb 0 k (omega (arith, z))))
        go false e = let z = eqb-false k 0 e in ap not (sym (lt-ltb 0 k (omega (arith, z))))

    now_granted : granted next ≡ ltb 0 (copies ds)
    now_granted = g next ∙ rw ((q.blank next (omega arith)).granted, eq-eqb next next refl) refl

    same_first : (n : ℕ) → (n ≡ next → ⊥) → Alike f first_flags n
    same_first n h = record { granted = g n ∙ rw (ne_eqb next n (λ e. h (sym e))) (or_false (f.granted n)); acked = refl; sampled = refl; again = a n }

    says_first : Says first_flags next (with_dropped (eqb (copies ds) 0) (first_sent now rto))
    says_first =
        let b = q.blank next (omega arith) in
        record { dropped = flag_back (eqb (copies ds) 0) ∙ none_lost (copies ds) ∙ ap not (sym now_granted); scheduled = flag_back false ∙ sym b.acked; rtt = flag_back false ∙ sym b.sampled; resent = flag_back false ∙ sym (a next ∙ b.again) }

    pub noted_first : Noted first_flags (next + 1) (note_after (note_before m next false now rto) next false ds)
    noted_first =
        subst (Noted first_flags (next + 1)) (sym after_is)
        (record {
          count = ap (λ (x : Notes). x.count) (update_notes fresh next (with_dropped (eqb (copies ds) 0))) ∙ fresh_count;
          fits = rw (update_length fresh next (with_dropped (eqb (copies ds) 0)), sent_length m next now rto) (omega (arith, row));
          says = λ n h. elim (ℕ_discrete n next) [
            | yes e ↦ subst (λ (i : ℕ). Says first_flags i (meta_at last i)) (sym e) (subst (Says first_flags next) (sym this) says_first)
            | no e ↦ subst (Says first_flags n) (sym (other n e)) (says_as (same_first n e) (q.says n (below n next h e)))
          ];
          blank = λ n h. blank_as (same_first n (λ e. omega (arith, e, h))) (q.blank n (omega (arith, h)));
        })
      where
        below : (n k : ℕ) → n < k + 1 → (n ≡ k → ⊥) → n < k
        below n k h e = omega (arith, h, e)

  -- an ACK that was sent
  module _ (seq : ℕ) where
    abbrev covered : Bool → ℕ → Bool
    covered cumulative n = cond cumulative (leb n seq) (eqb n seq)

    room : (n : ℕ) → n < next → n < length m.rows
    room n h = let f = q.fits in omega (arith, f, h)

    marked : (cumulative : Bool) (n : ℕ) → n < next → covered cumulative n ≡ true → meta_at (mark_ack_scheduled m seq cumulative) n ≡ with_ack_scheduled (meta_at m n)
    marked true n h e = let k = leb-true n seq e in let c = q.count in mark_covers m seq n (omega (arith, k, c, h)) (room n h)
    marked false n h e =
        let k = eqb-true n seq e in
        let c = q.count in
        let f = q.fits in
        ap (λ (x : SegMetas). meta_at x n) (mark_one m seq) ∙ ap (meta_at (update m seq with_ack_scheduled)) k ∙ update_at m seq with_ack_scheduled (omega (arith, c, h, k)) (omega (arith, c, f)) ∙ ap (λ (i : ℕ). with_ack_scheduled (meta_at m i)) (sym k)

    unmarked : (cumulative : Bool) (n : ℕ) → n < next → covered cumulative n ≡ false → meta_at (mark_ack_scheduled m seq cumulative) n ≡ meta_at m n
    unmarked true n h e = let k = leb-false n seq e in ap seg_meta (mark_above m seq n (omega (arith, k)))
    unmarked false n h e = ap (λ (x : SegMetas). meta_at x n) (mark_one m seq) ∙ ap seg_meta (update_other m seq with_ack_scheduled n (eqb-false n seq e))

    module _ (cumulative : Bool) {acked : ℕ → Bool} (a : (n : ℕ) → acked n ≡ (f.acked n || (ltb n next && covered cumulative n))) where
      abbrev marked_flags : Flags
      marked_flags = flags f.granted acked f.sampled f.again

      says_marked : (n : ℕ) → n < next → Says marked_flags n (meta_at (mark_ack_scheduled m seq cumulative) n)
      says_marked n h = go (covered cumulative n) refl
        where
          go : (b : Bool) → covered cumulative n ≡ b → Says marked_flags n (meta_at (mark_ack_scheduled m seq cumulative) n)
          go true e =
              let x = q.says n h in
              subst (Says marked_flags n) (sym (marked cumulative n h e)) (record { dropped = x.dropped; scheduled = flag_back true ∙ sym (a n ∙ rw (lt-ltb n next h, e) (or_true (f.acked n))); rtt = x.rtt; resent = x.resent })
          go false e =
              let x = q.says n h in
              subst (Says marked_flags n) (sym (unmarked cumulative n h e)) (record { dropped = x.dropped; scheduled = x.scheduled ∙ sym (a n ∙ rw (lt-ltb n next h, e) (or_false (f.acked n))); rtt = x.rtt; resent = x.resent })

      pub noted_marked : Noted marked_flags next (mark_ack_scheduled m seq cumulative)
      noted_marked =
          record {
            count = mark_count m seq cumulative ∙ q.count;
            fits = rw (mark_length m seq cumulative) q.fits;
            says = says_marked;
            blank = λ n h. let b = q.blank n h in record { granted = b.granted; acked = a n ∙ rw (le-ltb n next h, b.acked) refl; sampled = b.sampled; again = b.again };
          }

pub noted_none : (rows : List (List ℕ)) → Noted (flags (λ n. false) (λ n. false) (λ n. false) (λ n. false)) 0 (new_notes rows)
noted_none rows = record { count = ap (λ (x : Notes). x.count) (new_count rows); fits = omega arith; says = λ n h. absurd (omega arith); blank = λ n h. record { granted = refl; acked = refl; sampled = refl; again = refl } }

-- ---- of events and replies
pub any_more : {A : Type 0} (test : A → Bool) (xs : List A) (x : A) → any test (xs ++ x ∷ []) ≡ (any test xs || test x)
unfolding any
any_more test [] x = or_false (test x)
any_more test (y ∷ xs) x = ap (λ (b : Bool). test y || b) (any_more test xs x) ∙ sym (or_assoc (test y) (any test xs) (test x))
  where
    or_assoc : (a b c : Bool) → ((a || b) || c) ≡ (a || (b || c))
    or_assoc true b c = refl
    or_assoc false b c = refl

granted_copies : (ds : Deliveries) → length (delays_of ds) ≡ copies ds
granted_copies Lost = refl
granted_copies (One d) = refl
granted_copies (Two d e) = refl

-- the event of a first datagram, and of one again
pub first_more : (events : List ForwardEvent) (seq fold : ℕ) (ds : Deliveries) (n : ℕ) → any (is_first_granted n) (events ++ forward_event seq false ds fold ∷ []) ≡ (any (is_first_granted n) events || (eqb seq n && ltb 0 (copies ds)))
first_more events seq fold ds n = any_more (is_first_granted n) events (forward_event seq false ds fold) ∙ ap (λ (k : ℕ). any (is_first_granted n) events || (eqb seq n && ltb 0 k)) (granted_copies ds)

pub again_more : (events : List ForwardEvent) (seq fold : ℕ) (ds : Deliveries) (n : ℕ) → any (is_first_granted n) (events ++ forward_event seq true ds fold ∷ []) ≡ any (is_first_granted n) events
again_more events seq fold ds n = any_more (is_first_granted n) events (forward_event seq true ds fold) ∙ or_false (any (is_first_granted n) events)

-- a datagram again by its event
abbrev pub is_event_again : ℕ → ForwardEvent → Bool
is_event_again n x = x.retransmission && eqb n x.seq

pub first_once : (events : List ForwardEvent) (seq fold : ℕ) (ds : Deliveries) (n : ℕ) → any (is_event_again n) (events ++ forward_event seq false ds fold ∷ []) ≡ any (is_event_again n) events
first_once events seq fold ds n = any_more (is_event_again n) events (forward_event seq false ds fold) ∙ or_false (any (is_event_again n) events)

pub again_twice : (events : List ForwardEvent) (seq fold : ℕ) (ds : Deliveries) (n : ℕ) → any (is_event_again n) (events ++ forward_event seq true ds fold ∷ []) ≡ (any (is_event_again n) events || eqb n seq)
again_twice events seq fold ds n = any_more (is_event_again n) events (forward_event seq true ds fold)

pub events_again : (c : ChannelConfig) (rolls : List Float) (at : ℕ) (xs : List Submission) (n : ℕ) → any (is_event_again n) (events_from c rolls at xs) ≡ any (is_again n) xs
unfolding any events_from
events_again c rolls at [] n = refl
events_again c rolls at (x ∷ xs) n = ap (λ (b : Bool). is_again n x || b) (events_again c rolls (at + packet_rolls) xs n)

-- to note a datagram again makes none premature
pub again_premature : (m : SegMetas) (seq now rto n : ℕ) → is_premature (note_before m seq true now rto) n ≡ is_premature m n
unfolding is_premature
again_premature m seq now rto n =
    rw (before_again m seq now rto, again_is m seq now rto, update_notes m seq (with_sending now rto))
    (ap (λ (b : Bool). ltb n m.notes.count && b) (⊎_elim (λ e. ap (λ (r : List ℕ). premature (seg_meta r)) e) (λ e. ap (λ (r : List ℕ). premature (seg_meta r)) e) (update_cases m seq (with_sending now rto) n)))
