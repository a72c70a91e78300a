-- What is noted before and after the channel: the two cases of each, and what they keep.
use Prim.Native.Nat.{ℕ, ◌+◌, ◌≤◌, ◌<◌}
use mathlib.Core.Path.{◌≡◌, refl, ap, ◌∙◌}
use mathlib.Core.Bool.{Bool, true, false}
use lib.Dec.{eqb}
use lib.ListN.{length}
use Rattle.bounds.specs.Bounds.{max_duration}
use Rattle.schedule.specs.State.{copies}
use Rattle.schedule.specs.declared.Deliveries.{Deliveries}
use Rattle.notes.specs.SegMeta.{with_sending, with_dropped}
use Rattle.notes.specs.Notes.{SegMetas, sent, sent_again, set_dropped, Timely, ScheduledBelow}
use Rattle.notes.proofs.Laws.{update_notes, update_length, sent_length, sent_count, again_is, dropped_is, timely_again, timely_dropped, timely_sent, scheduled_again, scheduled_dropped, scheduled_sent}
use Rattle.submission.specs.Submission.{note_before, note_after}

module _ (m : SegMetas) (seq now rto : ℕ) where
  pub before_first : note_before m seq false now rto ≡ sent m seq now rto
  unfolding note_before
  before_first = refl

  pub before_again : note_before m seq true now rto ≡ sent_again m seq now rto
  unfolding note_before
  before_again = refl

  pub before_length : (again : Bool) → length (note_before m seq again now rto).rows ≡ length m.rows
  unfolding note_before
  before_length true = ap (λ (x : SegMetas). length x.rows) (again_is m seq now rto) ∙ update_length m seq (with_sending now rto)
  before_length false = sent_length m seq now rto

  pub before_timely : (again : Bool) → seq < length m.rows → rto ≤ max_duration → Timely m now → Timely (note_before m seq again now rto) now
  unfolding note_before
  before_timely true l h t = timely_again m seq now rto h t
  before_timely false l h t = timely_sent m seq now rto l h t

  pub before_scheduled : (again : Bool) → ScheduledBelow m → ScheduledBelow (note_before m seq again now rto)
  unfolding note_before
  before_scheduled true s = scheduled_again m seq now rto s
  before_scheduled false s = scheduled_sent m seq now rto s

  -- the next number is noted; a resending leaves the counts
  pub before_first_count : seq ≡ m.notes.count → (note_before m seq false now rto).notes.count ≡ seq + 1
  before_first_count e = ap (λ (x : SegMetas). x.notes.count) before_first ∙ sent_count m seq now rto e

  pub before_again_notes : (note_before m seq true now rto).notes ≡ m.notes
  before_again_notes = ap (λ (x : SegMetas). x.notes) (before_again ∙ again_is m seq now rto) ∙ update_notes m seq (with_sending now rto)

module _ (m : SegMetas) (seq : ℕ) (ds : Deliveries) where
  pub after_first : note_after m seq false ds ≡ set_dropped m seq (eqb (copies ds) 0)
  unfolding note_after
  after_first = refl

  pub after_again : note_after m seq true ds ≡ m
  unfolding note_after
  after_again = refl

  pub after_notes : (again : Bool) → (note_after m seq again ds).notes ≡ m.notes
  unfolding note_after
  after_notes true = refl
  after_notes false = ap (λ (x : SegMetas). x.notes) (dropped_is m seq (eqb (copies ds) 0)) ∙ update_notes m seq (with_dropped (eqb (copies ds) 0))

  pub after_length : (again : Bool) → length (note_after m seq again ds).rows ≡ length m.rows
  unfolding note_after
  after_length true = refl
  after_length false = ap (λ (x : SegMetas). length x.rows) (dropped_is m seq (eqb (copies ds) 0)) ∙ update_length m seq (with_dropped (eqb (copies ds) 0))

  pub after_timely : (again : Bool) (now : ℕ) → Timely m now → Timely (note_after m seq again ds) now
  unfolding note_after
  after_timely true now t = t
  after_timely false now t = timely_dropped m seq now (eqb (copies ds) 0) t

  pub after_scheduled : (again : Bool) → ScheduledBelow m → ScheduledBelow (note_after m seq again ds)
  unfolding note_after
  after_scheduled true s = s
  after_scheduled false s = scheduled_dropped m seq (eqb (copies ds) 0) s
