-- What crates above may cite of the notes.
use Rattle.std.specs.Prelude.{None, Some}
use Prim.Native.Nat.{ℕ, ◌≤◌, ◌<◌}
use mathlib.Core.Path.{◌≡◌, refl}
use mathlib.Core.Bool.{false}
use borrow.Author.Tests.{lt-ltb, le-ltb}
use Rattle.notes.specs.SegMeta.{SegMeta, seg_meta, note_row, premature}
use Rattle.notes.specs.Notes.{SegMetas, meta_at, is_premature, rto_at_send, deadline_of, expiry}
pub use Rattle.notes.proofs.Marks.{marked_length, mark_same, marked_at, marked_above}
pub use Rattle.notes.proofs.Updates.{update_notes, update_length, update_none, update_at, update_other, update_cases, new_length, new_count, sent_is, sent_length, sent_count, sent_at, sent_other, again_is, dropped_is, mark_one, mark_rows_are, mark_length, mark_count, mark_covers, mark_above, sample_first, sample_again, sample_none, sample_cases, sample_notes, sample_length}
pub use Rattle.notes.proofs.Times.{timely_later, timely_new, timely_update, timely_again, timely_dropped, timely_sent, timely_mark, timely_sample, rto_within, ExpiryWithin, expiry_within, sample_within}
pub use Rattle.notes.proofs.Scheduled.{marked_flag, scheduled_new, scheduled_update, scheduled_again, scheduled_dropped, scheduled_sent, scheduled_mark, scheduled_sample}

-- a row gives the note back
pub meta_row : (x : SegMeta) → seg_meta (note_row x) ≡ x
meta_row x = refl

-- ---- what is read of a segment that is noted, and of one that isn't
module _ (m : SegMetas) (seq : ℕ) where
  module _ (h : seq < m.notes.count) where
    pub premature_noted : is_premature m seq ≡ premature (meta_at m seq)
    unfolding is_premature
    premature_noted = rw (lt-ltb _ _ h)

    pub rto_noted : (current : ℕ) → rto_at_send m seq current ≡ (meta_at m seq).rto_at_send
    unfolding rto_at_send
    rto_noted current = rw (lt-ltb _ _ h)

    pub expiry_noted : expiry m seq ≡ Some (deadline_of (meta_at m seq))
    unfolding expiry
    expiry_noted = rw (lt-ltb _ _ h)

  module _ (h : m.notes.count ≤ seq) where
    pub premature_none : is_premature m seq ≡ false
    unfolding is_premature
    premature_none = rw (le-ltb _ _ h)

    pub rto_none : (current : ℕ) → rto_at_send m seq current ≡ current
    unfolding rto_at_send
    rto_none current = rw (le-ltb _ _ h)

    pub expiry_none : expiry m seq ≡ None
    unfolding expiry
    expiry_none = rw (le-ltb _ _ h)
