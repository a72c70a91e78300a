-- The departures set no timer further ahead than the largest RTO.
use Rattle.std.specs.Prelude.{Option, Some}
use Prim.Native.Nat.{ℕ, ◌+◌, ◌≤◌}
use native.Mathlib.Omega.{arith}
use mathlib.Core.Path.{◌≡◌, refl, sym, subst}
use mathlib.Core.Bool.{Bool, true, false, cond}
use mathlib.Core.List.{List}
use lib.Ieee.{Float}
use Rattle.bounds.specs.Bounds.{max_duration}
use Rattle.multi_timer.specs.Map.{Entry, lookup}
use Rattle.chunks.specs.Chunks.{chunks_of}
use Rattle.delivery.specs.Calls.{number_of}
use Rattle.rto.specs.Rto.{on_timeout_unchecked}
use Rattle.rto.specs.declared.RtoEstimator.{RtoEstimator}
use Rattle.notes.specs.Notes.{SegMetas, Timely}
use Rattle.notes.proofs.Laws.{timely_again}
use Rattle.path.proofs.Laws.{granted}
use Rattle.clock.specs.Clock.{Submission}
use Rattle.clock.specs.declared.Timing.{Timing}
use Rattle.clock.specs.declared.Timing.TheVariants.{PerNumber}
use Rattle.clock.proofs.Laws.{running, estimator_rto}
use Rattle.session.specs.Sending.{oldest_outstanding, resent}
use Rattle.session.specs.declared.Timeout.{Timeout}
use Rattle.session.specs.declared.Timeout.TheVariants as timeout
use Rattle.submission.specs.Submission.{Outgoing, note_before, submit, CanSubmit}
use Rattle.submission.proofs.Laws.{metas_of, by_outgoing, armed, before_timely, after_timely}
use Rattle.sending.specs.Sending.{PumpState, can_pump, send_one, pump_sends}
use Rattle.sending.specs.Good.{CanPump}
use Rattle.sending.specs.Retransmit.{retransmit}
use Rattle.sending.proofs.Laws.{given, written, can_submit_next, pump_keeps}
use Rattle.timeouts.specs.Timeouts.{FireState, FireExit, with_clock, stopped, timed_out, timeout_of, fire_number, fire_numbers, expired, fire_timers}
use Rattle.timeouts.specs.Good.{GoodFire}
use Rattle.timeouts.proofs.Laws.{timed_out_turns, backed_off_estimator, cancelled, by_timers, numbers_keep, timers_by}
use Rattle.departures.specs.Departures.{pump_of, pumped, is_going_on, send_due, CanSendDue}
use Rattle.departures.proofs.Laws.{fired, can_pump_lem}
use Rattle.run_timers.proofs.Notes.{Limited, backed_limited, Short, short_again, short_first, short_after}
use Rattle.run_timers.proofs.Ahead.{Near, put_near, remove_near, armed_near, stopped_near, Ahead}

noted_again : (m : SegMetas) (seq now rto : ℕ) → rto ≤ max_duration → Timely m now → Timely (note_before m seq true now rto) now
unfolding note_before
noted_again m seq now rto h y = timely_again m seq now rto h y

module _ (top : ℕ) (t : Timing) (now : ℕ) (rolls : List Float) where
  abbrev OfFire : FireState → Type 0
  OfFire s = Ahead top t now s.estimator s.outgoing.clock s.outgoing.metas

  -- ---- packets again: the notes, and the single timer
  record Fires (s : FireState) : Type 0 where
    timely : Timely s.outgoing.metas now
    limited : Limited top s.estimator
    notes : Short top s.outgoing.metas
    near : (t ≡ PerNumber → ⊥) → Near top t now s.outgoing.clock

  record Sent (o : Outgoing) : Type 0 where
    timely : Timely o.metas now
    notes : Short top o.metas
    near : (t ≡ PerNumber → ⊥) → Near top t now o.clock

  again_sent : (seq rto : ℕ) (oldest : Option ℕ) (packet : List ℕ) (o : Outgoing) → rto ≤ max_duration → rto ≤ top → Sent o → Sent (submit t rolls (record { time = now; seq = seq; rto = rto; retransmission = true; oldest = oldest }) packet o).outgoing
  again_sent seq rto oldest packet o long short q =
      by_outgoing t rolls x packet o Sent (record { timely = noted; notes = listed; near = q.near })
      (λ f. record { timely = noted_after; notes = listed_after; near = λ other. armed_near top t o.clock (metas_of rolls x o) x noted_after listed_after short (λ e. absurd (other e)) (q.near other) })
    where
      x : Submission
      x = record { time = now; seq = seq; rto = rto; retransmission = true; oldest = oldest }

      noted : Timely (note_before o.metas seq true now rto) now
      noted = noted_again o.metas seq now rto long q.timely

      listed : Short top (note_before o.metas seq true now rto)
      listed = short_again top o.metas q.notes seq now rto short

      noted_after : Timely (metas_of rolls x o) now
      noted_after = after_timely (note_before o.metas seq true now rto) seq (granted o.forward rolls) true now noted

      listed_after : Short top (metas_of rolls x o)
      listed_after = short_after top (note_before o.metas seq true now rto) listed seq true (granted o.forward rolls)

  timed_out_fires : (limit : ℕ) (of : Timeout) (s : FireState) → (on_timeout_unchecked s.estimator).current_rto ≤ max_duration → Fires s → Fires (timed_out limit t rolls now of s).state
  unfolding retransmit
  timed_out_fires limit of s long h =
      timed_out_turns limit t rolls now of s Fires (record { timely = h.timely; limited = h.limited; notes = h.notes; near = h.near })
      (record { timely = h.timely; limited = backed_limited top s.estimator h.limited; notes = h.notes; near = h.near }) (λ r o p. record { timely = p.timely; limited = p.limited; notes = p.notes; near = p.near })
      (λ packet m r o p.
      let y = again_sent (number_of packet) (on_timeout_unchecked s.estimator).current_rto (oldest_outstanding (resent s.sender of).after.sender) packet o long p.limited.rto (record { timely = p.timely; notes = p.notes; near = p.near }) in
      record { timely = y.timely; limited = p.limited; notes = y.notes; near = y.near })

-- ---- a number's timer
module _ (top now limit : ℕ) (rolls : List Float) {samples : ℕ} where
  number_ahead : (n : ℕ) (s : FireState) → GoodFire PerNumber rolls samples now s → OfFire top PerNumber now rolls s → OfFire top PerNumber now rolls (fire_number limit rolls now n s).state
  unfolding fire_number
  number_ahead n s g h =
      let long = estimator_rto (on_timeout_unchecked s.estimator) samples (backed_off_estimator g) in
      let f = timed_out_fires top PerNumber now rolls limit (timeout.Number n) (cancelled s n) long (record { timely = g.outgoing.notes; limited = h.estimator; notes = h.notes; near = λ other. absurd (other refl) }) in
      let rto = (backed_limited top s.estimator h.estimator).rto in
      let others = remove_near top (now + top) n (running s.outgoing.clock) (h.near.numbers refl) in
      record {
        estimator = f.limited;
        notes = f.notes;
        near = record {
          timer = λ i. let z : ◌≡◌ {A = ℕ} 0 1 = cc in absurd (omega arith);
          numbers = λ i.
              by_timers g limit n (λ (es : List Entry). (k d : ℕ) → lookup k es ≡ Some d → d ≤ now + top) others
              (λ due. put_near top (now + top) n (now + (on_timeout_unchecked s.estimator).current_rto) _ (omega (arith, rto)) others);
        };
      }

-- ---- the timers of a moment, new chunks, and both
module _ (top : ℕ) (t : Timing) (now : ℕ) (rolls : List Float) where
  fire_ahead : (limit : ℕ) {samples : ℕ} (s : FireState) → GoodFire t rolls samples now s → OfFire top t now rolls s → OfFire top t now rolls (fire_timers limit t rolls now s).state
  fire_ahead limit {samples} s g h =
      timers_by limit t rolls now s (λ (x : FireExit). OfFire top t now rolls x.state) (λ c. record { estimator = h.estimator; notes = h.notes; near = h.near }) (λ c. h)
      (record { estimator = h.estimator; notes = h.notes; near = stopped_near top s.outgoing.clock h.near })
      (λ other.
      let f = timed_out_fires top t now rolls limit (timeout_of t) (with_clock s (stopped s.outgoing.clock)) (estimator_rto (on_timeout_unchecked s.estimator) samples (backed_off_estimator g))
      (record { timely = g.outgoing.notes; limited = h.estimator; notes = h.notes; near = λ i. stopped_near top s.outgoing.clock h.near }) in
      record { estimator = f.limited; notes = f.notes; near = f.near other })
      (λ e. subst (λ (u : Timing). OfFire top u now rolls (fire_numbers limit rolls now (expired s.outgoing.clock now) s).state) (sym e)
      (numbers_keep limit rolls samples now (OfFire top PerNumber now rolls) (λ n u k c q. number_ahead top now limit rolls n u k q) (λ u q. record { estimator = q.estimator; notes = q.notes; near = q.near }) (expired s.outgoing.clock now) s
      (subst (λ (u : Timing). GoodFire u rolls samples now s) e g) (subst (λ (u : Timing). OfFire top u now rolls s) e h)))

  module _ (size : ℕ) (file : List ℕ) (total : ℕ) (e : RtoEstimator) where
    abbrev OfPump : PumpState → Type 0
    OfPump s = Ahead top t now e s.outgoing.clock s.outgoing.metas

    chunk_ahead : (s : PumpState) → CanPump t rolls size file total e.current_rto now s → can_pump total s.sender.sender ≡ true → OfPump s → OfPump (send_one t rolls (chunks_of size file) e.current_rto now s).state
    unfolding send_one
    chunk_ahead s can free h =
        by_outgoing t rolls (given can free) (written can free) s.outgoing (λ (y : Outgoing). Ahead top t now e y.clock y.metas) (record { estimator = h.estimator; notes = listed; near = h.near })
        (λ f. record { estimator = h.estimator; notes = listed_after; near = armed_near top t s.outgoing.clock (metas_of rolls (given can free) s.outgoing) (given can free) noted_after listed_after h.estimator.rto (λ i. armed t rolls (given can free) (written can free) s.outgoing sub) h.near })
      where
        sub : CanSubmit t rolls (given can free) (written can free) s.outgoing
        sub = can_submit_next can free

        seq : ℕ
        seq = (given can free).seq

        listed : Short top (note_before s.outgoing.metas seq false now e.current_rto)
        listed = short_first top s.outgoing.metas h.notes seq now e.current_rto h.estimator.rto sub.row

        listed_after : Short top (metas_of rolls (given can free) s.outgoing)
        listed_after = short_after top (note_before s.outgoing.metas seq false now e.current_rto) listed seq false (granted s.outgoing.forward rolls)

        noted_after : Timely (metas_of rolls (given can free) s.outgoing) now
        noted_after =
            after_timely (note_before s.outgoing.metas seq false now e.current_rto) seq (granted s.outgoing.forward rolls) false now
            (before_timely s.outgoing.metas seq now e.current_rto false sub.row sub.rto sub.good.notes)

    pump_ahead : (s : PumpState) → CanPump t rolls size file total e.current_rto now s → OfPump s → OfPump (pump_sends t rolls (chunks_of size file) e.current_rto now s).state
    pump_ahead s can h = pump_keeps OfPump (λ y c free q. chunk_ahead y c free q) s can h

  pub departures_ahead : (limit : ℕ) {size : ℕ} {file : List ℕ} {total samples : ℕ} (s : FireState) → CanSendDue t rolls size file total now s → GoodFire t rolls samples now s → OfFire top t now rolls s
      → OfFire top t now rolls (send_due limit t rolls (chunks_of size file) now s).state
  unfolding send_due
  departures_ahead limit {size} {file} {total} s can g h = by_test_lem (is_going_on (fired limit can)) refl
    where
      by_test_lem : (b : Bool) → is_going_on (fired limit can) ≡ b
          → OfFire top t now rolls (cond b (pumped (fired limit can) (pump_sends t rolls (chunks_of size file) (fired limit can).state.estimator.current_rto now (pump_of (fired limit can).state))) (fired limit can)).state
      by_test_lem true e = pump_ahead size file total (fired limit can).state.estimator (pump_of (fired limit can).state) (can_pump_lem limit can e) (fire_ahead limit s g h)
      by_test_lem false e = fire_ahead limit s g h
