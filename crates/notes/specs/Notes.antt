-- The reference's `meta: Vec<SegMeta>` and what its driver does with it (`app/transfer.rs`, `submit`,
-- `mark_ack_scheduled`, `is_premature`, `arm_oldest`, `sample_rtt`), in lent rows.
use Rattle.std.specs.Prelude.{ℕ, zero, suc, ◌+◌, ◌-◌, ◌≤◌, ◌<◌, min, max, ◌≡◌, Bool, not, cond, ◌&&◌, List, [], ◌∷◌}
use Rattle.std.specs.Prelude.{ltb, eqb, length, get_or, set, replicate, None, Option, Some}
use Rattle.bounds.specs.Bounds.{max_duration}
use Rattle.rows.specs.Rows.{vacant, is_set}
use Rattle.notes.specs.SegMeta.{SegMeta, seg_meta, note_row, first_sent, with_sending, with_dropped}
use Rattle.notes.specs.SegMeta.{with_ack_scheduled, with_rtt_sampled, premature}
use Rattle.notes.specs.declared.Notes.{Notes}

-- the notes: the first `count` rows are in use
pub record SegMetas : Type 0 where
  pub notes : Notes
  pub rows : List (List ℕ)

abbrev pub seg_metas : Notes → List (List ℕ) → SegMetas
seg_metas n rows = record { notes = n; rows = rows }

abbrev pub notes : ℕ → ℕ → Notes
notes count scheduled = record { count = count; scheduled = scheduled }

abbrev pub meta_at : SegMetas → ℕ → SegMeta
meta_at m seq = seg_meta (get_or m.rows seq [])

abbrev pub is_noted : SegMetas → ℕ → Bool
is_noted m seq = ltb seq m.notes.count

-- `get_mut`: a segment that isn't noted is left alone
abbrev pub update : SegMetas → ℕ → (SegMeta → SegMeta) → SegMetas
update m seq f =
    cond (is_noted m seq) (seg_metas m.notes (set m.rows seq (note_row (f (meta_at m seq))))) m

unfoldable pub new_notes : List (List ℕ) → SegMetas
new_notes rows = seg_metas (notes 0 0) (replicate (length rows) vacant)

-- ---- `submit`
-- the first sending: the next number is noted
unfoldable pub sent : SegMetas → ℕ → ℕ → ℕ → SegMetas
sent m seq now rto =
    cond (eqb seq m.notes.count)
    (seg_metas (notes (seq + 1) m.notes.scheduled) (set m.rows seq (note_row (first_sent now rto))))
    m

unfoldable pub sent_again : SegMetas → ℕ → ℕ → ℕ → SegMetas
sent_again m seq now rto = update m seq (with_sending now rto)

unfoldable pub set_dropped : SegMetas → ℕ → Bool → SegMetas
set_dropped m seq dropped = update m seq (with_dropped dropped)

-- ---- `mark_ack_scheduled`: a cumulative ACK covers every segment up to its number
abbrev pub marked_row : List ℕ → List ℕ
marked_row row = note_row (with_ack_scheduled (seg_meta row))

unfoldable pub marked_below : ℕ → List (List ℕ) → List (List ℕ)
marked_below zero rows = rows
marked_below (suc k) [] = []
marked_below (suc k) (row ∷ rows) = marked_row row ∷ marked_below k rows

abbrev pub marked_to : SegMetas → ℕ → SegMetas
marked_to m end =
    seg_metas (notes m.notes.count (max m.notes.scheduled end)) (marked_below end m.rows)

unfoldable pub mark_ack_scheduled : SegMetas → ℕ → Bool → SegMetas
mark_ack_scheduled m seq cumulative =
    cond cumulative (marked_to m (min (seq + 1) m.notes.count)) (update m seq with_ack_scheduled)

-- the first n rows have the mark: to set it again changes nothing
pub record AllMarked (n : ℕ) (rows : List (List ℕ)) : Type 0 where
  pub at : (i : ℕ) → i < n → marked_row (get_or rows i []) ≡ get_or rows i []

-- every segment below `scheduled` has it, so that a cumulative ACK needn't walk them
pub record ScheduledBelow (m : SegMetas) : Type 0 where
  pub noted : m.notes.scheduled ≤ m.notes.count
  pub marked : AllMarked m.notes.scheduled m.rows

-- ---- what is read
unfoldable pub is_premature : SegMetas → ℕ → Bool
is_premature m seq = is_noted m seq && premature (meta_at m seq)

-- `current` where nothing is noted
unfoldable pub rto_at_send : SegMetas → ℕ → ℕ → ℕ
rto_at_send m seq current = cond (is_noted m seq) (meta_at m seq).rto_at_send current

-- `arm_oldest`: when the segment's timer runs out
abbrev pub deadline_of : SegMeta → ℕ
deadline_of x = x.last_send_at + x.rto_at_send

unfoldable pub expiry : SegMetas → ℕ → Option ℕ
expiry m seq =
    cond (is_noted m seq) (Some (deadline_of (meta_at m seq))) None

-- ---- `sample_rtt`: of a segment that has given no sample yet
pub record SampleExit : Type 0 where
  pub metas : SegMetas
  pub sample : Option (ℕ × Bool)

abbrev pub sample_exit : SegMetas → Option (ℕ × Bool) → SampleExit
sample_exit m s = record { metas = m; sample = s }

abbrev pub sample_of : SegMeta → ℕ → Option (ℕ × Bool)
sample_of x now = Some (now - x.original_send_at, is_set x.ever_retransmitted)

unfoldable pub take_sample : SegMetas → ℕ → ℕ → SampleExit
take_sample m seq now =
    let x = meta_at m seq in
    cond (is_noted m seq && not (is_set x.rtt_sampled))
    (sample_exit (update m seq with_rtt_sampled) (sample_of x now))
    (sample_exit m None)

-- ---- times at a moment of the run
pub record TimelyMeta (x : SegMeta) (now : ℕ) : Type 0 where
  pub sent : x.original_send_at ≤ x.last_send_at
  pub last : x.last_send_at ≤ now
  pub rto : x.rto_at_send ≤ max_duration

pub record Timely (m : SegMetas) (now : ℕ) : Type 0 where
  pub fits : m.notes.count ≤ length m.rows
  pub within : now ≤ max_duration
  pub at : (i : ℕ) → i < m.notes.count → TimelyMeta (meta_at m i) now
