-- The RTOs that the notes hold, and the estimator's: none is above a limit.
use Rattle.std.specs.Prelude.{None, Option, Some}
use Prim.Native.Nat.{ℕ, ◌+◌, ◌≤◌, ◌<◌, min, max}
use native.Mathlib.Omega.{arith}
use native.Mathlib.Nat.{lt_of_lt_of_le}
use mathlib.Core.Path.{◌≡◌, refl, sym, subst}
use mathlib.Core.Bool.{Bool, true, false, cond}
use mathlib.Core.Logic.{⊎_elim}
use mathlib.Core.List.{List, []}
use lib.Dec.{ltb, eqb}
use lib.Ieee.{Float}
use lib.ListN.{length, get_or, set, take, length-set}
use lib.Seq.{get_or-set_same, get_or-set_other}
use borrow.Author.Tests.{ltb-true, ltb-false, eqb-true, eqb-false}
use Rattle.packet.specs.Format.{new_packet, made}
use Rattle.packet.specs.declared.PacketType.TheVariants as packetType
use Rattle.rto.specs.Rto.{accept_sample, reject_sample, on_timeout_unchecked}
use Rattle.rto.specs.declared.RtoEstimator.{RtoEstimator}
use Rattle.schedule.specs.State.{copies}
use Rattle.schedule.specs.declared.Deliveries.{Deliveries}
use Rattle.notes.specs.SegMeta.{SegMeta, seg_meta, note_row, first_sent, with_sending, with_dropped, with_ack_scheduled, with_rtt_sampled}
use Rattle.notes.specs.Notes.{SegMetas, seg_metas, meta_at, update, sent, mark_ack_scheduled, rto_at_send, is_noted, SampleExit, take_sample}
use Rattle.notes.specs.declared.Notes.{Notes}
use Rattle.notes.proofs.Laws.{update_notes, update_length, update_cases, again_is, dropped_is, mark_one, mark_length, mark_count, mark_covers, mark_above, sample_cases}
use Rattle.path.specs.Direction.{Direction}
use Rattle.clock.specs.Clock.{by_sample, sample_rtt}
use Rattle.submission.specs.Submission.{note_before, note_after}
use Rattle.receiving.specs.Receiving.{Inbound, ForwardExit, received, on_forward, serve_forward}
use Rattle.receiving.proofs.Kept.{forward_either, metas_either}
use Rattle.receiving.proofs.Laws.{next_taken, serve_keeps}

-- ---- the estimator
pub record Limited (top : ℕ) (e : RtoEstimator) : Type 0 where
  pub limit : e.config.max_rto ≤ top
  pub rto : e.current_rto ≤ top

clamped : (x a b top : ℕ) → b ≤ top → min (max x a) b ≤ top
clamped x a b top h = omega arith

by_sample_lem : (top : ℕ) (e : RtoEstimator) (x : Option (ℕ × Bool)) → Limited top e → Limited top (by_sample e x)
unfolding accept_sample reject_sample
by_sample_lem top e None l = l
by_sample_lem top e (Some (d, true)) l = record { limit = l.limit; rto = l.rto }
by_sample_lem top e (Some (d, false)) l = record { limit = l.limit; rto = clamped _ e.config.min_rto e.config.max_rto top l.limit }

pub sampled_limited : (top : ℕ) (e : RtoEstimator) (m : SegMetas) (seq now : ℕ) → Limited top e → Limited top (sample_rtt e m seq now).estimator
unfolding sample_rtt
sampled_limited top e m seq now l = by_sample_lem top e (take_sample m seq now).sample l

pub backed_limited : (top : ℕ) (e : RtoEstimator) → Limited top e → Limited top (on_timeout_unchecked e)
unfolding on_timeout_unchecked
backed_limited top e l = record { limit = l.limit; rto = clamped _ e.config.min_rto e.config.max_rto top l.limit }

-- ---- the notes
pub record Short (top : ℕ) (m : SegMetas) : Type 0 where
  pub fits : m.notes.count ≤ length m.rows
  pub at : (i : ℕ) → i < m.notes.count → (meta_at m i).rto_at_send ≤ top

module _ (top : ℕ) (m : SegMetas) (s : Short top m) where
  pub short_rto : (seq rto : ℕ) → rto ≤ top → rto_at_send m seq rto ≤ top
  unfolding rto_at_send
  short_rto seq rto h = by_noted (is_noted m seq) (ltb-true seq m.notes.count)
    where
      by_noted : (b : Bool) → (b ≡ true → seq < m.notes.count) → cond b (meta_at m seq).rto_at_send rto ≤ top
      by_noted true n = s.at seq (n refl)
      by_noted false n = h

  short_update : (seq : ℕ) (f : SegMeta → SegMeta) → ((x : SegMeta) → x.rto_at_send ≤ top → (f x).rto_at_send ≤ top) → Short top (update m seq f)
  short_update seq f k =
      record {
        fits = rw (update_notes m seq f, update_length m seq f) s.fits;
        at = λ i p.
            let q = s.at i (subst (λ (n : Notes). i < n.count) (update_notes m seq f) p) in
            ⊎_elim (λ e. subst (λ (row : List ℕ). (seg_meta row).rto_at_send ≤ top) (sym e) q) (λ e. subst (λ (row : List ℕ). (seg_meta row).rto_at_send ≤ top) (sym e) (k (meta_at m i) q)) (update_cases m seq f i);
      }

  pub short_mark : (seq : ℕ) (cumulative : Bool) → Short top (mark_ack_scheduled m seq cumulative)
  short_mark seq false = subst (Short top) (sym (mark_one m seq)) (short_update seq with_ack_scheduled (λ x h. h))
  short_mark seq true =
      record {
        fits = rw (mark_count m seq true, mark_length m seq true) s.fits;
        at = λ i p. by_test_lem i (subst (λ (n : ℕ). i < n) (mark_count m seq true) p) (ltb i (min (seq + 1) m.notes.count)) (ltb-true _ _) (ltb-false _ _);
      }
    where
      by_test_lem : (i : ℕ) → i < m.notes.count → (b : Bool) → (b ≡ true → i < min (seq + 1) m.notes.count) → (b ≡ false → min (seq + 1) m.notes.count ≤ i) → (meta_at (mark_ack_scheduled m seq true) i).rto_at_send ≤ top
      by_test_lem i p true y n = subst (λ (x : SegMeta). x.rto_at_send ≤ top) (sym (mark_covers m seq i (y refl) (lt_of_lt_of_le p s.fits))) (s.at i p)
      by_test_lem i p false y n = subst (λ (row : List ℕ). (seg_meta row).rto_at_send ≤ top) (sym (mark_above m seq i (n refl))) (s.at i p)

  pub short_sampled : (e : RtoEstimator) (seq now : ℕ) → Short top (sample_rtt e m seq now).metas
  unfolding sample_rtt
  short_sampled e seq now =
      ⊎_elim (λ f. subst (λ (x : SampleExit). Short top x.metas) (sym f) s) (λ f. subst (λ (x : SampleExit). Short top x.metas) (sym f) (short_update seq with_rtt_sampled (λ x h. h))) (sample_cases m seq now)

  short_sent : (seq now rto : ℕ) → rto ≤ top → seq < length m.rows → Short top (sent m seq now rto)
  unfolding sent
  short_sent seq now rto h l = by_next (eqb seq m.notes.count) (eqb-true _ _)
    where
      below : (i : ℕ) → i < seq + 1 → (i ≡ seq → ⊥) → seq ≡ m.notes.count → i < m.notes.count
      below i p n e = omega arith

      one : (i : ℕ) → i < seq + 1 → seq ≡ m.notes.count → (b : Bool) → (b ≡ true → i ≡ seq) → (b ≡ false → i ≡ seq → ⊥) → (seg_meta (get_or (set m.rows seq (note_row (first_sent now rto))) i [])).rto_at_send ≤ top
      one i p e true y n = rw (y refl, get_or-set_same m.rows seq (note_row (first_sent now rto)) [] l) h
      one i p e false y n = rw (get_or-set_other m.rows seq i (note_row (first_sent now rto)) [] (n refl)) (s.at i (below i p (n refl) e))

      by_next : (b : Bool) → (b ≡ true → seq ≡ m.notes.count) → Short top (cond b (seg_metas (record { count = seq + 1; scheduled = m.notes.scheduled }) (set m.rows seq (note_row (first_sent now rto)))) m)
      by_next true e = record { fits = rw (length-set m.rows seq (note_row (first_sent now rto))) (omega arith); at = λ i p. one i p (e refl) (eqb i seq) (eqb-true _ _) (eqb-false _ _) }
      by_next false e = s

  -- a packet sent, again or for the first time
  pub short_again : (seq now rto : ℕ) → rto ≤ top → Short top (note_before m seq true now rto)
  unfolding note_before
  short_again seq now rto h = subst (Short top) (sym (again_is m seq now rto)) (short_update seq (with_sending now rto) (λ x k. h))

  pub short_first : (seq now rto : ℕ) → rto ≤ top → seq < length m.rows → Short top (note_before m seq false now rto)
  unfolding note_before
  short_first seq now rto h l = short_sent seq now rto h l

  pub short_after : (seq : ℕ) (again : Bool) (ds : Deliveries) → Short top (note_after m seq again ds)
  unfolding note_after
  short_after seq true ds = s
  short_after seq false ds = subst (Short top) (sym (dropped_is m seq (eqb (copies ds) 0))) (short_update seq (with_dropped (eqb (copies ds) 0)) (λ x h. h))

-- ---- the datagrams of the forward line mark the segments that an ACK is scheduled for
module _ (top : ℕ) (rolls : List Float) (total now : ℕ) where
  forward_short : (raw : List ℕ) (b : Inbound) → Short top b.metas → Short top (on_forward rolls total now raw b).inbound.metas
  unfolding received
  forward_short raw b s =
      forward_either rolls total now raw b (λ (x : ForwardExit). Short top x.inbound.metas) (λ h. s) (λ h. s)
      (λ h n e. metas_either rolls now n (made (new_packet n packetType.Ack) []) (received total now raw b) (Short top) (short_mark top _ s _ _) s)

  pub serve_short : (f : Direction) (c : Inbound) → Short top c.metas → Short top (serve_forward rolls total now f c).inbound.metas
  serve_short f c s = serve_keeps rolls total now (λ g d. Short top d.metas) (λ g d n e q. forward_short (take n (next_taken now g).out) d q) f c s
