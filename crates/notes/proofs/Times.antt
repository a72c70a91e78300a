-- `Timely` is kept by every call, and what it says of samples and deadlines.
use Rattle.std.specs.Prelude.{None, Option, Some}
use Prim.Native.Nat.{ℕ, ◌+◌, ◌-◌, ◌≤◌, ◌<◌, min, zero-le}
use mathlib.Core.Path.{◌≡◌, refl, sym, ap, ◌∙◌, subst}
use mathlib.Core.Bool.{Bool, true, false, cond}
use mathlib.Core.List.{List, []}
use mathlib.Core.Logic.{⊎_elim}
use native.Mathlib.Nat.{le_refl, le_trans, lt_of_lt_of_le}
use native.Mathlib.Omega.{arith}
use lib.Dec.{ltb, eqb}
use lib.ListN.{length, get_or, set, length-set}
use lib.Seq.{get_or-set_same, get_or-set_other}
use borrow.Author.Tests.{ltb-true, ltb-false, eqb-true, eqb-false}
use Rattle.bounds.specs.Bounds.{max_duration, max_time}
use Rattle.std.proofs.lemmas.Option.{some_pair_parts}
use Rattle.rows.specs.Rows.{is_set}
use Rattle.notes.specs.SegMeta.{SegMeta, seg_meta, note_row, first_sent, with_sending, with_dropped, with_ack_scheduled, with_rtt_sampled}
use Rattle.notes.specs.Notes.{SegMetas, seg_metas, meta_at, is_noted, update, new_notes, sent, sent_again, set_dropped, mark_ack_scheduled, rto_at_send, deadline_of, expiry, SampleExit, sample_of, take_sample, TimelyMeta, Timely}
use Rattle.notes.proofs.Updates.{update_notes, update_length, update_cases, sample_cases, mark_length, mark_covers, mark_above}

meta_later : {x : SegMeta} {now later : ℕ} → now ≤ later → TimelyMeta x now → TimelyMeta x later
meta_later h t = record { sent = t.sent; last = le_trans t.last h; rto = t.rto }

pub timely_later : {m : SegMetas} {now later : ℕ} → now ≤ later → later ≤ max_duration → Timely m now → Timely m later
timely_later h w t = record { fits = t.fits; within = w; at = λ i p. meta_later h (t.at i p) }

pub timely_new : (rows : List (List ℕ)) (now : ℕ) → now ≤ max_duration → Timely (new_notes rows) now
unfolding new_notes
timely_new rows now h = record { fits = zero-le; within = h; at = λ i p. absurd (omega arith) }

-- a change of one note that keeps its times in order
pub timely_update : (m : SegMetas) (seq now : ℕ) (f : SegMeta → SegMeta) → ((x : SegMeta) → TimelyMeta x now → TimelyMeta (f x) now) → Timely m now → Timely (update m seq f) now
timely_update m seq now f k t =
    record {
      fits = rw (update_notes m seq f, update_length m seq f) t.fits;
      within = t.within;
      at = λ i p. one i (rw (update_notes m seq f) at p);
    }
  where
    one : (i : ℕ) → i < m.notes.count → TimelyMeta (meta_at (update m seq f) i) now
    one i p =
        ⊎_elim (λ e. subst (λ (row : List ℕ). TimelyMeta (seg_meta row) now) (sym e) (t.at i p))
        (λ e. subst (λ (row : List ℕ). TimelyMeta (seg_meta row) now) (sym e) (k (meta_at m i) (t.at i p)))
        (update_cases m seq f i)

pub timely_again : (m : SegMetas) (seq now rto : ℕ) → rto ≤ max_duration → Timely m now → Timely (sent_again m seq now rto) now
unfolding sent_again
timely_again m seq now rto h t = timely_update m seq now (with_sending now rto) (λ x w. record { sent = le_trans w.sent w.last; last = le_refl now; rto = h }) t

pub timely_dropped : (m : SegMetas) (seq now : ℕ) (dropped : Bool) → Timely m now → Timely (set_dropped m seq dropped) now
unfolding set_dropped
timely_dropped m seq now dropped t = timely_update m seq now (with_dropped dropped) (λ x w. record { sent = w.sent; last = w.last; rto = w.rto }) t

-- the next number, in a row that is there
pub timely_sent : (m : SegMetas) (seq now rto : ℕ) → seq < length m.rows → rto ≤ max_duration → Timely m now → Timely (sent m seq now rto) now
unfolding sent
timely_sent m seq now rto l h t = go (eqb seq m.notes.count) (eqb-true _ _)
  where
    first : TimelyMeta (first_sent now rto) now
    first = record { sent = le_refl now; last = le_refl now; rto = h }

    below : (i : ℕ) → i < seq + 1 → (i ≡ seq → ⊥) → seq ≡ m.notes.count → i < m.notes.count
    below i p n e = omega arith

    one : (i : ℕ) → i < seq + 1 → seq ≡ m.notes.count → TimelyMeta (seg_meta (get_or (set m.rows seq (note_row (first_sent now rto))) i [])) now
    one i p e = by (eqb i seq) (eqb-true _ _) (eqb-false _ _)
      where
        by : (b : Bool) → (b ≡ true → i ≡ seq) → (b ≡ false → i ≡ seq → ⊥) → TimelyMeta (seg_meta (get_or (set m.rows seq (note_row (first_sent now rto))) i [])) now
        by true y n = rw (y refl, get_or-set_same m.rows seq (note_row (first_sent now rto)) [] l) first
        by false y n = rw (get_or-set_other m.rows seq i (note_row (first_sent now rto)) [] (n refl)) (t.at i (below i p (n refl) e))

    go : (b : Bool) → (b ≡ true → seq ≡ m.notes.count) → Timely (cond b (seg_metas (record { count = seq + 1; scheduled = m.notes.scheduled }) (set m.rows seq (note_row (first_sent now rto)))) m) now
    go true e = record { fits = rw (length-set m.rows seq (note_row (first_sent now rto))) (omega arith); within = t.within; at = λ i p. one i p (e refl) }
    go false e = t

meta_marked : {x : SegMeta} {now : ℕ} → TimelyMeta x now → TimelyMeta (with_ack_scheduled x) now
meta_marked w = record { sent = w.sent; last = w.last; rto = w.rto }

pub timely_mark : (m : SegMetas) (seq now : ℕ) (cumulative : Bool) → Timely m now → Timely (mark_ack_scheduled m seq cumulative) now
unfolding mark_ack_scheduled
timely_mark m seq now true t = record { fits = rw (mark_length m seq true) t.fits; within = t.within; at = one }
  where
    one : (i : ℕ) → i < m.notes.count → TimelyMeta (meta_at (mark_ack_scheduled m seq true) i) now
    one i p = go (ltb i (min (seq + 1) m.notes.count)) (ltb-true _ _) (ltb-false _ _)
      where
        go : (b : Bool) → (b ≡ true → i < min (seq + 1) m.notes.count) → (b ≡ false → min (seq + 1) m.notes.count ≤ i) → TimelyMeta (meta_at (mark_ack_scheduled m seq true) i) now
        go true y n = rw (mark_covers m seq i (y refl) (lt_of_lt_of_le p t.fits)) (meta_marked (t.at i p))
        go false y n = rw (mark_above m seq i (n refl)) (t.at i p)
timely_mark m seq now false t = timely_update m seq now with_ack_scheduled (λ x w. meta_marked w) t

pub timely_sample : (m : SegMetas) (seq now : ℕ) → Timely m now → Timely (take_sample m seq now).metas now
timely_sample m seq now t =
    ⊎_elim (λ e. subst (λ (x : SampleExit). Timely x.metas now) (sym e) t)
    (λ e. subst (λ (x : SampleExit). Timely x.metas now) (sym e) (timely_update m seq now with_rtt_sampled (λ x w. record { sent = w.sent; last = w.last; rto = w.rto }) t))
    (sample_cases m seq now)

-- ---- what it says
pub rto_within : (m : SegMetas) (seq now current : ℕ) → Timely m now → current ≤ max_duration → rto_at_send m seq current ≤ max_duration
unfolding rto_at_send
rto_within m seq now current t h = go (is_noted m seq) (ltb-true _ _)
  where
    go : (b : Bool) → (b ≡ true → seq < m.notes.count) → cond b (meta_at m seq).rto_at_send current ≤ max_duration
    go true y = (t.at seq (y refl)).rto
    go false y = h

-- a deadline is at most 86,400 s ahead, and within the bound of times
pub record ExpiryWithin (now deadline : ℕ) : Type 0 where
  pub ahead : deadline - now ≤ max_duration
  pub time : deadline ≤ max_time

pub expiry_within : (m : SegMetas) (seq now deadline : ℕ) → Timely m now → expiry m seq ≡ Some deadline → ExpiryWithin now deadline
unfolding expiry
expiry_within m seq now deadline t = go (is_noted m seq) (ltb-true _ _)
  where
    ends : (x : SegMeta) → TimelyMeta x now → deadline_of x ≡ deadline → ExpiryWithin now deadline
    ends x w e = let h = t.within in let a = w.last in let b = w.rto in record { ahead = omega arith; time = omega arith }

    go : (b : Bool) → (b ≡ true → seq < m.notes.count) → cond b (Some (deadline_of (meta_at m seq))) None ≡ Some deadline → ExpiryWithin now deadline
    go true y e = ends (meta_at m seq) (t.at seq (y refl)) cc
    go false y e = let z : ◌≡◌ {A = ℕ} 0 1 = cc in absurd (omega arith)

-- a sample is no longer than the run
pub sample_within : (m : SegMetas) (seq now sample : ℕ) (retransmitted : Bool) → (take_sample m seq now).sample ≡ Some (sample, retransmitted) → sample ≤ now
sample_within m seq now sample retransmitted e =
    ⊎_elim (λ p. let q : ◌≡◌ {A = Option (ℕ × Bool)} None (Some (sample, retransmitted)) = sym (ap (λ (x : SampleExit). x.sample) p) ∙ e in none q)
    (λ p. let q : sample_of (meta_at m seq) now ≡ Some (sample, retransmitted) = sym (ap (λ (x : SampleExit). x.sample) p) ∙ e in past (meta_at m seq).original_send_at (same q))
    (sample_cases m seq now)
  where
    none : ◌≡◌ {A = Option (ℕ × Bool)} None (Some (sample, retransmitted)) → sample ≤ now
    none q = let z : ◌≡◌ {A = ℕ} 0 1 = cc in absurd (omega arith)

    same : sample_of (meta_at m seq) now ≡ Some (sample, retransmitted) → now - (meta_at m seq).original_send_at ≡ sample
    same q = (some_pair_parts (now - (meta_at m seq).original_send_at) sample (is_set (meta_at m seq).ever_retransmitted) retransmitted q).0

    past : (at : ℕ) → now - at ≡ sample → sample ≤ now
    past at q = omega arith
