-- The timers after a submission.
use Rattle.std.specs.Prelude.{None, Some}
use Prim.Native.Nat.{ℕ, ◌+◌, ◌-◌, ◌≤◌, ◌<◌}
use native.Mathlib.Omega.{arith}
use mathlib.Core.Path.{◌≡◌, refl, ap, ◌∙◌}
use mathlib.Core.Bool.{Bool, true, false, cond}
use mathlib.Core.List.{List}
use lib.Dec.{ltb, eqb}
use lib.Ieee.{Float}
use lib.ListN.{length}
use borrow.Author.Tests.{ltb-true, ltb-false}
use Rattle.bounds.specs.Bounds.{max_datagram, max_duration}
use Rattle.schedule.specs.State.{copies}
use Rattle.schedule.specs.declared.Deliveries.{Deliveries}
use Rattle.path.proofs.Laws.{granted}
use Rattle.multi_timer.specs.Map.{lookup, put}
use Rattle.multi_timer.proofs.Laws.{lookup_put, Within, start_full_within}
use Rattle.notes.specs.SegMeta.{SegMeta, with_sending, with_dropped}
use Rattle.notes.specs.Notes.{SegMetas, sent, update, rto_at_send}
use Rattle.notes.proofs.Laws.{rto_noted, rto_none, sent_at, sent_count, sent_length, update_at, update_notes, again_is, dropped_is}
use Rattle.clock.specs.Clock.{timers_of, Submission}
use Rattle.clock.specs.Timers.{GoodTimers}
use Rattle.clock.specs.declared.Timing.{Timing}
use Rattle.clock.specs.declared.Timing.TheVariants.{Single, PerNumber, Edition}
use Rattle.clock.proofs.Laws.{running, submit_entries, submit_single_entries, submit_edition_entries, submit_window, arm_timers}
use Rattle.session.specs.Sending.{SenderEnd, is_due}
use Rattle.submission.specs.Submission.{Outgoing, note_before, note_after, submit, GoodOutgoing, CanSubmit}
use Rattle.submission.proofs.Metas.{before_first, before_again, after_first, after_again}
use Rattle.submission.proofs.Keeps.{armed}
use Rattle.submission.proofs.Answers.{metas_of, by_outgoing, submit_going}

-- ---- the RTO noted of the number is the current one
module _ (m : SegMetas) (seq now rto : ℕ) (ds : Deliveries) (fits : m.notes.count ≤ length m.rows) where
  first_rto : seq ≡ m.notes.count → seq < length m.rows → rto_at_send (note_after (note_before m seq false now rto) seq false ds) seq rto ≡ rto
  first_rto e l =
      ap (λ (y : SegMetas). rto_at_send y seq rto) (ap (λ (y : SegMetas). note_after y seq false ds) (before_first m seq now rto) ∙ after_first (sent m seq now rto) seq ds ∙ dropped_is (sent m seq now rto) seq (eqb (copies ds) 0))
      ∙ rto_noted (update (sent m seq now rto) seq (with_dropped (eqb (copies ds) 0))) seq (rw (update_notes (sent m seq now rto) seq (with_dropped (eqb (copies ds) 0))) below) rto
      ∙ ap (λ (y : SegMeta). y.rto_at_send) (update_at (sent m seq now rto) seq (with_dropped (eqb (copies ds) 0)) below within ∙ ap (with_dropped (eqb (copies ds) 0)) (sent_at m seq now rto e l))
    where
      below : seq < (sent m seq now rto).notes.count
      below = rw (sent_count m seq now rto e) (omega arith)

      within : (sent m seq now rto).notes.count ≤ length (sent m seq now rto).rows
      within = rw (sent_count m seq now rto e, sent_length m seq now rto) (omega arith)

  again_rto : rto_at_send (note_after (note_before m seq true now rto) seq true ds) seq rto ≡ rto
  again_rto = ap (λ (y : SegMetas). rto_at_send y seq rto) (after_again (note_before m seq true now rto) seq ds ∙ before_again m seq now rto ∙ again_is m seq now rto) ∙ go (ltb seq m.notes.count) (ltb-true _ _) (ltb-false _ _)
    where
      go : (b : Bool) → (b ≡ true → seq < m.notes.count) → (b ≡ false → m.notes.count ≤ seq) → rto_at_send (update m seq (with_sending now rto)) seq rto ≡ rto
      go true y n =
          rto_noted (update m seq (with_sending now rto)) seq (rw (update_notes m seq (with_sending now rto)) (y refl)) rto
          ∙ ap (λ (z : SegMeta). z.rto_at_send) (update_at m seq (with_sending now rto) (y refl) fits)
      go false y n = rto_none (update m seq (with_sending now rto)) seq (rw (update_notes m seq (with_sending now rto)) (n refl)) rto

module _ (rolls : List Float) (x : Submission) (wire : List ℕ) (o : Outgoing) where
  -- a number of the window can be submitted, where the timer set has as many entries as the window
  pub can_submit : (timing : Timing) {low high : ℕ} → GoodOutgoing o rolls x.time → length wire ≤ max_datagram → x.rto ≤ max_duration → x.seq < length o.metas.rows → Within low high (running o.clock) → low ≤ x.seq → x.seq < high → (timing ≡ PerNumber → high - low ≤ length o.clock.keys) → CanSubmit timing rolls x wire o
  can_submit timing {low} {high} g s h n w l u k = record { good = g; short = s; rto = h; row = n; entry = λ e. start_full_within (timers_of o.clock) o.clock.keys o.clock.deadlines low high x.seq g.clock.state w l u (k e) }

  -- of a first sending of the next number, and of every resending
  pub submit_rto : (timing : Timing) → CanSubmit timing rolls x wire o → (x.retransmission ≡ false → x.seq ≡ o.metas.notes.count) → rto_at_send (metas_of rolls x o) x.seq x.rto ≡ x.rto
  submit_rto timing can next = go x.retransmission refl
    where
      go : (b : Bool) → x.retransmission ≡ b → rto_at_send (metas_of rolls x o) x.seq x.rto ≡ x.rto
      go true e = rw e (again_rto o.metas x.seq x.time x.rto (granted o.forward rolls) can.good.notes.fits)
      go false e = rw e (first_rto o.metas x.seq x.time x.rto (granted o.forward rolls) can.good.notes.fits (next e) can.row)

  -- ---- a timer for each number: its deadline is set, the others are as they were
  module _ (can : CanSubmit PerNumber rolls x wire o) (e : (submit PerNumber rolls x wire o).stop ≡ None) where
    pub number_running : running (submit PerNumber rolls x wire o).outgoing.clock ≡ put x.seq (x.time + rto_at_send (metas_of rolls x o) x.seq x.rto) (running o.clock)
    number_running = ap (λ (y : Outgoing). running y.clock) (submit_going PerNumber rolls x wire o e) ∙ submit_entries o.clock (metas_of rolls x o) x (armed PerNumber rolls x wire o can)

    pub number_lookup : (key : ℕ) → lookup key (running (submit PerNumber rolls x wire o).outgoing.clock) ≡ cond (eqb x.seq key) (Some (x.time + rto_at_send (metas_of rolls x o) x.seq x.rto)) (lookup key (running o.clock))
    number_lookup key = ap (lookup key) number_running ∙ lookup_put x.seq (x.time + rto_at_send (metas_of rolls x o) x.seq x.rto) key (running o.clock)

  -- one timer leaves the set alone
  pub single_running : running (submit Single rolls x wire o).outgoing.clock ≡ running o.clock
  single_running = by_outgoing Single rolls x wire o (λ (y : Outgoing). running y.clock ≡ running o.clock) refl (λ f. submit_single_entries o.clock (metas_of rolls x o) x)

  pub edition_running : running (submit Edition rolls x wire o).outgoing.clock ≡ running o.clock
  edition_running = by_outgoing Edition rolls x wire o (λ (y : Outgoing). running y.clock ≡ running o.clock) refl (λ f. submit_edition_entries o.clock (metas_of rolls x o) x)

  -- a number of the window: the timers' numbers stay in it
  pub submit_within : (timing : Timing) {low high : ℕ} → CanSubmit timing rolls x wire o → low ≤ x.seq → x.seq < high → Within low high (running o.clock) → Within low high (running (submit timing rolls x wire o).outgoing.clock)
  submit_within timing {low} {high} can l u w = by_outgoing timing rolls x wire o (λ (y : Outgoing). Within low high (running y.clock)) w (λ f. submit_window timing o.clock (metas_of rolls x o) x (armed timing rolls x wire o can) w l u)

  -- a due number: each number that has a timer is due
  pub submit_timers : (timing : Timing) (v : SenderEnd) → CanSubmit timing rolls x wire o → (timing ≡ PerNumber → is_due v x.seq ≡ true) → GoodTimers timing v o.clock → GoodTimers timing v (submit timing rolls x wire o).outgoing.clock
  submit_timers timing v can due g = by_outgoing timing rolls x wire o (λ (y : Outgoing). GoodTimers timing v y.clock) g (λ f. arm_timers timing v o.clock (metas_of rolls x o) x g (armed timing rolls x wire o can) due)
