-- What each call leaves: the number of rows, the counts, the row that it is about, and every other row as it was.
use Rattle.std.specs.Prelude.{None}
use Prim.Native.Nat.{ℕ, ◌+◌, ◌≤◌, ◌<◌, min}
use mathlib.Core.Path.{◌≡◌, refl, sym, ap, ◌∙◌}
use mathlib.Core.Bool.{Bool, true, false, not, cond, ◌&&◌}
use mathlib.Core.List.{List, []}
use mathlib.Core.Logic.{◌≢◌, ◌⊎◌, inl, inr, ⊎_elim}
use native.Mathlib.Nat.{lt_of_lt_of_le}
use lib.Dec.{eqb}
use lib.ListN.{length, get_or, set, length-set, length-replicate}
use lib.Seq.{get_or-set_same, get_or-set_other}
use borrow.Author.Tests.{lt-ltb, le-ltb, eq-eqb}
use Rattle.rows.specs.Rows.{vacant, is_set}
use Rattle.rows.proofs.Laws.{set_cases}
use Rattle.notes.specs.SegMeta.{SegMeta, seg_meta, note_row, first_sent, with_sending, with_dropped, with_ack_scheduled, with_rtt_sampled}
use Rattle.notes.specs.Notes.{SegMetas, seg_metas, notes, meta_at, is_noted, update, new_notes, sent, sent_again, set_dropped, mark_ack_scheduled, marked_below, sample_exit, sample_of, take_sample}
use Rattle.notes.proofs.Marks.{marked_length, marked_at, marked_above}

-- ---- one segment's note is changed
module _ (m : SegMetas) (seq : ℕ) (f : SegMeta → SegMeta) where
  pub update_notes : (update m seq f).notes ≡ m.notes
  update_notes = go (is_noted m seq)
    where
      go : (b : Bool) → (cond b (seg_metas m.notes (set m.rows seq (note_row (f (meta_at m seq))))) m).notes ≡ m.notes
      go true = refl
      go false = refl

  pub update_length : length (update m seq f).rows ≡ length m.rows
  update_length = go (is_noted m seq)
    where
      go : (b : Bool) → length (cond b (seg_metas m.notes (set m.rows seq (note_row (f (meta_at m seq))))) m).rows ≡ length m.rows
      go true = length-set m.rows seq _
      go false = refl

  -- a number that isn't noted is left alone
  pub update_none : m.notes.count ≤ seq → update m seq f ≡ m
  update_none h = rw (le-ltb _ _ h)

  pub update_at : seq < m.notes.count → m.notes.count ≤ length m.rows → meta_at (update m seq f) seq ≡ f (meta_at m seq)
  update_at h l = rw (lt-ltb _ _ h) (ap seg_meta (get_or-set_same m.rows seq (note_row (f (meta_at m seq))) [] (lt_of_lt_of_le h l)))

  pub update_other : (i : ℕ) → i ≢ seq → get_or (update m seq f).rows i [] ≡ get_or m.rows i []
  update_other i n = go (is_noted m seq)
    where
      go : (b : Bool) → get_or (cond b (seg_metas m.notes (set m.rows seq (note_row (f (meta_at m seq))))) m).rows i [] ≡ get_or m.rows i []
      go true = get_or-set_other m.rows seq i _ [] n
      go false = refl

  -- either way
  pub update_cases : (i : ℕ) → (get_or (update m seq f).rows i [] ≡ get_or m.rows i []) ⊎ (get_or (update m seq f).rows i [] ≡ note_row (f (meta_at m i)))
  update_cases i = go (is_noted m seq)
    where
      go : (b : Bool) → (get_or (cond b (seg_metas m.notes (set m.rows seq (note_row (f (meta_at m seq))))) m).rows i [] ≡ get_or m.rows i [])
          ⊎ (get_or (cond b (seg_metas m.notes (set m.rows seq (note_row (f (meta_at m seq))))) m).rows i [] ≡ note_row (f (meta_at m i)))
      go true = ⊎_elim inl (λ p. inr (p.1 ∙ ap (λ (k : ℕ). note_row (f (meta_at m k))) (sym p.0))) (set_cases m.rows seq i (note_row (f (meta_at m seq))))
      go false = inl refl

-- ---- new
pub new_length : (rows : List (List ℕ)) → length (new_notes rows).rows ≡ length rows
unfolding new_notes
new_length rows = length-replicate (length rows) vacant

pub new_count : (rows : List (List ℕ)) → (new_notes rows).notes ≡ notes 0 0
unfolding new_notes
new_count rows = refl

-- ---- the first sending
module _ (m : SegMetas) (seq now rto : ℕ) where
  pub sent_is : seq ≡ m.notes.count → sent m seq now rto ≡ seg_metas (notes (seq + 1) m.notes.scheduled) (set m.rows seq (note_row (first_sent now rto)))
  unfolding sent
  sent_is e = rw (eq-eqb seq m.notes.count e)

  pub sent_length : length (sent m seq now rto).rows ≡ length m.rows
  unfolding sent
  sent_length = go (eqb seq m.notes.count)
    where
      go : (b : Bool) → length (cond b (seg_metas (notes (seq + 1) m.notes.scheduled) (set m.rows seq (note_row (first_sent now rto)))) m).rows ≡ length m.rows
      go true = length-set m.rows seq _
      go false = refl

  pub sent_count : seq ≡ m.notes.count → (sent m seq now rto).notes.count ≡ seq + 1
  sent_count e = ap (λ (x : SegMetas). x.notes.count) (sent_is e)

  pub sent_at : seq ≡ m.notes.count → seq < length m.rows → meta_at (sent m seq now rto) seq ≡ first_sent now rto
  sent_at e h = ap (λ (x : SegMetas). meta_at x seq) (sent_is e) ∙ ap seg_meta (get_or-set_same m.rows seq (note_row (first_sent now rto)) [] h)

  pub sent_other : (i : ℕ) → i ≢ seq → get_or (sent m seq now rto).rows i [] ≡ get_or m.rows i []
  unfolding sent
  sent_other i n = go (eqb seq m.notes.count)
    where
      go : (b : Bool) → get_or (cond b (seg_metas (notes (seq + 1) m.notes.scheduled) (set m.rows seq (note_row (first_sent now rto)))) m).rows i [] ≡ get_or m.rows i []
      go true = get_or-set_other m.rows seq i _ [] n
      go false = refl

-- ---- a later sending, and what became of the first
pub again_is : (m : SegMetas) (seq now rto : ℕ) → sent_again m seq now rto ≡ update m seq (with_sending now rto)
unfolding sent_again
again_is m seq now rto = refl

pub dropped_is : (m : SegMetas) (seq : ℕ) (dropped : Bool) → set_dropped m seq dropped ≡ update m seq (with_dropped dropped)
unfolding set_dropped
dropped_is m seq dropped = refl

-- ---- a scheduled ACK
pub mark_one : (m : SegMetas) (seq : ℕ) → mark_ack_scheduled m seq false ≡ update m seq with_ack_scheduled
unfolding mark_ack_scheduled
mark_one m seq = refl

module _ (m : SegMetas) (seq : ℕ) where
  pub mark_rows_are : (mark_ack_scheduled m seq true).rows ≡ marked_below (min (seq + 1) m.notes.count) m.rows
  unfolding mark_ack_scheduled
  mark_rows_are = refl

  pub mark_length : (cumulative : Bool) → length (mark_ack_scheduled m seq cumulative).rows ≡ length m.rows
  unfolding mark_ack_scheduled
  mark_length true = marked_length (min (seq + 1) m.notes.count) m.rows
  mark_length false = update_length m seq with_ack_scheduled

  pub mark_count : (cumulative : Bool) → (mark_ack_scheduled m seq cumulative).notes.count ≡ m.notes.count
  unfolding mark_ack_scheduled
  mark_count true = refl
  mark_count false = ap (λ x. x.count) (update_notes m seq with_ack_scheduled)

  -- every segment up to a cumulative ACK's number
  pub mark_covers : (i : ℕ) → i < min (seq + 1) m.notes.count → i < length m.rows → meta_at (mark_ack_scheduled m seq true) i ≡ with_ack_scheduled (meta_at m i)
  unfolding mark_ack_scheduled
  mark_covers i h l = ap seg_meta (marked_at (min (seq + 1) m.notes.count) i m.rows h l)

  pub mark_above : (i : ℕ) → min (seq + 1) m.notes.count ≤ i → get_or (mark_ack_scheduled m seq true).rows i [] ≡ get_or m.rows i []
  unfolding mark_ack_scheduled
  mark_above i h = marked_above (min (seq + 1) m.notes.count) i m.rows h

-- ---- a sample
module _ (m : SegMetas) (seq now : ℕ) where
  -- the first one of a segment
  pub sample_first : seq < m.notes.count → is_set (meta_at m seq).rtt_sampled ≡ false → take_sample m seq now ≡ sample_exit (update m seq with_rtt_sampled) (sample_of (meta_at m seq) now)
  unfolding take_sample
  sample_first h e = rw (lt-ltb _ _ h, e)

  pub sample_again : is_set (meta_at m seq).rtt_sampled ≡ true → take_sample m seq now ≡ sample_exit m None
  unfolding take_sample
  sample_again e = rw e (go (is_noted m seq))
    where
      go : (b : Bool) → cond (b && false) (sample_exit (update m seq with_rtt_sampled) (sample_of (meta_at m seq) now)) (sample_exit m None) ≡ sample_exit m None
      go true = refl
      go false = refl

  pub sample_none : m.notes.count ≤ seq → take_sample m seq now ≡ sample_exit m None
  unfolding take_sample
  sample_none h = rw (le-ltb _ _ h)

  pub sample_cases : (take_sample m seq now ≡ sample_exit m None) ⊎ (take_sample m seq now ≡ sample_exit (update m seq with_rtt_sampled) (sample_of (meta_at m seq) now))
  unfolding take_sample
  sample_cases = go (is_noted m seq && not (is_set (meta_at m seq).rtt_sampled))
    where
      go : (b : Bool) → (cond b (sample_exit (update m seq with_rtt_sampled) (sample_of (meta_at m seq) now)) (sample_exit m None) ≡ sample_exit m None)
          ⊎ (cond b (sample_exit (update m seq with_rtt_sampled) (sample_of (meta_at m seq) now)) (sample_exit m None) ≡ sample_exit (update m seq with_rtt_sampled) (sample_of (meta_at m seq) now))
      go true = inr refl
      go false = inl refl

  pub sample_notes : (take_sample m seq now).metas.notes ≡ m.notes
  sample_notes = ⊎_elim (λ e. ap (λ x. x.metas.notes) e) (λ e. ap (λ x. x.metas.notes) e ∙ update_notes m seq with_rtt_sampled) sample_cases

  pub sample_length : length (take_sample m seq now).metas.rows ≡ length m.rows
  sample_length = ⊎_elim (λ e. ap (λ x. length x.metas.rows) e) (λ e. ap (λ x. length x.metas.rows) e ∙ update_length m seq with_rtt_sampled) sample_cases
