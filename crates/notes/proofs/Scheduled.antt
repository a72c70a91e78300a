-- "Every row below `scheduled` has the mark" is kept by every call.
use Prim.Native.Nat.{ℕ, ◌+◌, ◌≤◌, ◌<◌, min, max}
use mathlib.Core.Path.{◌≡◌, refl, sym, ap, subst}
use mathlib.Core.Bool.{Bool, true, false, cond}
use mathlib.Core.List.{List, []}
use mathlib.Core.Logic.{⊎_elim}
use native.Mathlib.Omega.{arith}
use lib.Dec.{ltb, eqb}
use lib.ListN.{length, get_or, set}
use lib.Seq.{get_or-set_other}
use borrow.Author.Tests.{ltb-true, ltb-false, eqb-true}
use Rattle.notes.specs.SegMeta.{SegMeta, seg_meta, note_row, first_sent, with_sending, with_dropped, with_ack_scheduled, with_rtt_sampled}
use Rattle.notes.specs.Notes.{SegMetas, seg_metas, notes, meta_at, update, new_notes, sent, sent_again, set_dropped, mark_ack_scheduled, marked_row, marked_below, ScheduledBelow, SampleExit, take_sample}
use Rattle.notes.proofs.Marks.{marked_at, marked_above}
use Rattle.notes.proofs.Updates.{update_notes, update_cases, sample_cases}

-- what the mark is
pub marked_flag : {row : List ℕ} → marked_row row ≡ row → (seg_meta row).ack_scheduled ≡ 1
marked_flag e = ap (λ (r : List ℕ). (seg_meta r).ack_scheduled) (sym e)

flag_marked : (x : SegMeta) → x.ack_scheduled ≡ 1 → note_row (with_ack_scheduled x) ≡ note_row x
flag_marked x e = rw e

pub scheduled_new : (rows : List (List ℕ)) → ScheduledBelow (new_notes rows)
unfolding new_notes
scheduled_new rows = record { noted = omega arith; marked = record { at = λ i p. absurd (omega arith) } }

pub scheduled_update : (m : SegMetas) (seq : ℕ) (f : SegMeta → SegMeta) → ((x : SegMeta) → x.ack_scheduled ≡ 1 → (f x).ack_scheduled ≡ 1) → ScheduledBelow m → ScheduledBelow (update m seq f)
scheduled_update m seq f k s =
    record {
      noted = rw (update_notes m seq f) s.noted;
      marked = record { at = λ i p. one i (rw (update_notes m seq f) at p) };
    }
  where
    one : (i : ℕ) → i < m.notes.scheduled → marked_row (get_or (update m seq f).rows i []) ≡ get_or (update m seq f).rows i []
    one i p =
        ⊎_elim (λ e. subst (λ (row : List ℕ). marked_row row ≡ row) (sym e) (s.marked.at i p))
        (λ e. subst (λ (row : List ℕ). marked_row row ≡ row) (sym e) (flag_marked (f (meta_at m i)) (k (meta_at m i) (marked_flag (s.marked.at i p)))))
        (update_cases m seq f i)

pub scheduled_again : (m : SegMetas) (seq now rto : ℕ) → ScheduledBelow m → ScheduledBelow (sent_again m seq now rto)
unfolding sent_again
scheduled_again m seq now rto s = scheduled_update m seq (with_sending now rto) (λ x e. e) s

pub scheduled_dropped : (m : SegMetas) (seq : ℕ) (dropped : Bool) → ScheduledBelow m → ScheduledBelow (set_dropped m seq dropped)
unfolding set_dropped
scheduled_dropped m seq dropped s = scheduled_update m seq (with_dropped dropped) (λ x e. e) s

-- a new note stands above them
pub scheduled_sent : (m : SegMetas) (seq now rto : ℕ) → ScheduledBelow m → ScheduledBelow (sent m seq now rto)
unfolding sent
scheduled_sent m seq now rto s = go (eqb seq m.notes.count) (eqb-true _ _)
  where
    apart : (i : ℕ) → i < m.notes.scheduled → seq ≡ m.notes.count → i ≡ seq → ⊥
    apart i p e h = let n = s.noted in omega arith

    go : (b : Bool) → (b ≡ true → seq ≡ m.notes.count) → ScheduledBelow (cond b (seg_metas (notes (seq + 1) m.notes.scheduled) (set m.rows seq (note_row (first_sent now rto)))) m)
    go true e =
        let h = e refl in
        let n = s.noted in
        record {
          noted = omega arith;
          marked = record { at = λ i p. rw (get_or-set_other m.rows seq i (note_row (first_sent now rto)) [] (apart i p h)) (s.marked.at i p) };
        }
    go false e = s

pub scheduled_mark : (m : SegMetas) (seq : ℕ) (cumulative : Bool) → m.notes.count ≤ length m.rows → ScheduledBelow m → ScheduledBelow (mark_ack_scheduled m seq cumulative)
unfolding mark_ack_scheduled
scheduled_mark m seq true l s = record { noted = most m.notes.scheduled m.notes.count s.noted; marked = record { at = one } }
  where
    end : ℕ
    end = min (seq + 1) m.notes.count

    most : (k n : ℕ) → k ≤ n → max k (min (seq + 1) n) ≤ n
    most k n h = omega arith

    inside : (i n k : ℕ) → i < min (seq + 1) n → n ≤ k → i < k
    inside i n k p h = omega arith

    before : (i k e : ℕ) → i < max k e → e ≤ i → i < k
    before i k e p h = omega arith

    one : (i : ℕ) → i < max m.notes.scheduled end → marked_row (get_or (marked_below end m.rows) i []) ≡ get_or (marked_below end m.rows) i []
    one i p = go (ltb i end) (ltb-true _ _) (ltb-false _ _)
      where
        go : (b : Bool) → (b ≡ true → i < end) → (b ≡ false → end ≤ i) → marked_row (get_or (marked_below end m.rows) i []) ≡ get_or (marked_below end m.rows) i []
        go true y n = rw (marked_at end i m.rows (y refl) (inside i m.notes.count (length m.rows) (y refl) l))
        go false y n = rw (marked_above end i m.rows (n refl)) (s.marked.at i (before i m.notes.scheduled end p (n refl)))
scheduled_mark m seq false l s = scheduled_update m seq with_ack_scheduled (λ x e. refl) s

pub scheduled_sample : (m : SegMetas) (seq now : ℕ) → ScheduledBelow m → ScheduledBelow (take_sample m seq now).metas
scheduled_sample m seq now s =
    ⊎_elim (λ e. subst (λ (x : SampleExit). ScheduledBelow x.metas) (sym e) s)
    (λ e. subst (λ (x : SampleExit). ScheduledBelow x.metas) (sym e) (scheduled_update m seq with_rtt_sampled (λ x e. e) s))
    (sample_cases m seq now)
