-- What every step keeps, also the last: the RTO's limits, and that at most one packet a second is sent again.
use Rattle.std.specs.Prelude.{None, Option, Some}
use Prim.Native.Nat.{ℕ, ◌*◌, ◌≤◌, ◌<◌, min}
use native.Mathlib.Omega.{arith}
use native.Mathlib.Nat.{le_trans}
use mathlib.Core.Path.{◌≡◌, refl, sym, subst}
use mathlib.Core.Bool.{Bool, true, false, cond, ◌||◌}
use mathlib.Core.List.{List}
use lib.Dec.{eqb}
use lib.Ieee.{Float}
use Rattle.bounds.specs.Bounds.{max_duration}
use Rattle.chunks.specs.Chunks.{chunks_of}
use Rattle.timer.specs.Timer.{expired_at}
use Rattle.rto.specs.declared.RtoEstimator.{RtoEstimator}
use Rattle.path.specs.declared.Stop.{Stop}
use Rattle.clock.specs.Clock.{timer_of}
use Rattle.clock.specs.declared.Timing.{Timing}
use Rattle.clock.specs.declared.Timing.TheVariants.{Edition}
use Rattle.session.specs.Sending.{has_outstanding}
use Rattle.sending.specs.Sending.{pump_sends}
use Rattle.sending.specs.Retransmit.{ceiling_met}
use Rattle.timeouts.specs.Timeouts.{FireState, FireExit, fire_timers}
use Rattle.timeouts.specs.Good.{GoodFire}
use Rattle.timeouts.proofs.Laws.{sender_unbroken, timers_met}
use Rattle.departures.specs.Departures.{pump_of, pumped, is_going_on, send_due}
use Rattle.step.specs.State.{Given, RunState, fire_of, with_arrivals, exhausted, at}
use Rattle.step.specs.Settle.{StepExit, step_exit, over, unless_stopped, settle}
use Rattle.step.specs.Step.{round_less, step}
use Rattle.step.specs.Good.{GoodPlan, GoodRun}
use Rattle.step.specs.declared.Plan.{Plan}
use Rattle.step.specs.declared.End.TheVariants as end
use Rattle.step.specs.declared.Course.TheVariants.{Going}
use Rattle.step.proofs.Laws.{arrives, step_is, settle_cases, after_both, both_exit, arrived_good, good_fire}
use Rattle.edition_clock.specs.Section5.{min_rto, max_rto}
use Rattle.edition_clock.specs.AlongARun.{WithinLimits}
use Rattle.edition_clock.proofs.Senders.{earliest_again}
use Rattle.edition_clock.proofs.Expiry.{not_expired, idle_expiry, expiry_resent, expiry_5_5}
use Rattle.edition_clock.proofs.Moments.{Moment, Kept, Along, doubled_low, expiry_served, retries_left}
use Rattle.edition_clock.proofs.Steps.{of_fire, of_run, arrived}

record Within (now : ℕ) (e : RtoEstimator) (again : ℕ) : Type 0 where
  low : min_rto ≤ e.current_rto
  high : e.current_rto ≤ max_rto
  paced : again * min_rto ≤ now

-- ---- the timers, also where their packet ends the run
module _ (limit now : ℕ) (from : Moment) (rolls : List Float) (received duplicates : ℕ) (patient : max_duration < limit * min_rto) where
  abbrev Held : FireExit → Type 0
  Held x = Within now x.state.estimator x.state.resends.retx_submitted

  fire_within : (top : ℕ) {samples : ℕ} (s : FireState) → GoodFire Edition rolls samples now s → Along limit now from (of_fire received duplicates s) → Held (fire_timers top Edition rolls now s)
  fire_within top s g h = by_ceiling (ceiling_met top s.resends) refl
    where
      same : Within now s.estimator s.resends.retx_submitted
      same = let k = h.kept in record { low = k.low; high = k.high; paced = k.paced }

      resent : (c : ceiling_met top s.resends ≡ false) (x : expired_at (timer_of s.outgoing.clock).deadline now ≡ true) (o : has_outstanding s.sender.sender ≡ true) → Held (fire_timers top Edition rolls now s)
      resent c x o =
          let k = h.kept in
          let few = retries_left h max_duration x g.outgoing.notes.within patient in
          let a = earliest_again limit s.sender (sender_unbroken g) o k.limit_is few in
          let rto = expiry_5_5 top rolls now s c x o a k.limits k.low in
          let most : min (2 * s.estimator.current_rto) max_rto ≤ max_rto = omega arith in
          record { low = rw rto (doubled_low s.estimator.current_rto k.low); high = rw rto most; paced = rw (expiry_resent top rolls now s c x o a) (expiry_served h x) }

      by_outstanding : ceiling_met top s.resends ≡ false → expired_at (timer_of s.outgoing.clock).deadline now ≡ true → (b : Bool) → has_outstanding s.sender.sender ≡ b → Held (fire_timers top Edition rolls now s)
      by_outstanding c x true o = resent c x o
      by_outstanding c x false o = subst Held (sym (idle_expiry top rolls now s c x o)) same

      by_expired : ceiling_met top s.resends ≡ false → (b : Bool) → expired_at (timer_of s.outgoing.clock).deadline now ≡ b → Held (fire_timers top Edition rolls now s)
      by_expired c true x = by_outstanding c x (has_outstanding s.sender.sender) refl
      by_expired c false x = subst Held (sym (not_expired top rolls now s c x)) same

      by_ceiling : (b : Bool) → ceiling_met top s.resends ≡ b → Held (fire_timers top Edition rolls now s)
      by_ceiling true c = subst Held (sym (timers_met top Edition rolls now s c)) same
      by_ceiling false c = by_expired c (expired_at (timer_of s.outgoing.clock).deadline now) refl

  -- new chunks change neither
  departures_within : (top : ℕ) (chunks : List (List ℕ)) (s : FireState) → Held (fire_timers top Edition rolls now s) → Held (send_due top Edition rolls chunks now s)
  unfolding send_due
  departures_within top chunks s h = by_test_lem (is_going_on (fire_timers top Edition rolls now s))
    where
      by_test_lem : (b : Bool) → Held (cond b (pumped (fire_timers top Edition rolls now s) (pump_sends Edition rolls chunks (fire_timers top Edition rolls now s).state.estimator.current_rto now (pump_of (fire_timers top Edition rolls now s).state))) (fire_timers top Edition rolls now s))
      by_test_lem true = record { low = h.low; high = h.high; paced = h.paced }
      by_test_lem false = h

-- ---- a step, however it goes on or ends
module _ (limit : ℕ) (patient : max_duration < limit * min_rto) {p : Plan} {g : Given} {s : RunState} (edition : p.timing ≡ Edition) (plan : GoodPlan p g) (good : GoodRun p g s) (k : Kept limit s.time (of_run s)) where
  abbrev Ok : StepExit → Type 0
  Ok x = WithinLimits x.state

  abbrev between : RunState
  between = with_arrivals (round_less s) (arrives p g s).state

  before_ok : WithinLimits s
  before_ok = record { low = k.low; high = k.high; paced = k.paced }

  between_ok : WithinLimits between
  between_ok = let b = (arrived limit patient edition plan good k).kept in record { low = b.low; high = b.high; paced = b.paced }

  both_ok : WithinLimits (after_both p g s)
  both_ok = let h = on_clock p.timing edition (good_fire (arrived_good good)) in record { low = h.low; high = h.high; paced = h.paced }
    where
      on_clock : (t : Timing) → t ≡ Edition → GoodFire t g.forward_rolls between.arrivals.received s.time (fire_of between)
          → Held limit s.time (of_run s) g.forward_rolls between.arrivals.received between.arrivals.duplicates patient (send_due p.max_retransmissions t g.forward_rolls (chunks_of p.chunk_size g.file) s.time (fire_of between))
      on_clock t e f =
          subst (λ (t : Timing). Held limit s.time (of_run s) g.forward_rolls between.arrivals.received between.arrivals.duplicates patient (send_due p.max_retransmissions t g.forward_rolls (chunks_of p.chunk_size g.file) s.time (fire_of between))) (sym e)
          (departures_within limit s.time (of_run s) g.forward_rolls between.arrivals.received between.arrivals.duplicates patient p.max_retransmissions (chunks_of p.chunk_size g.file) (fire_of between)
          (fire_within limit s.time (of_run s) g.forward_rolls between.arrivals.received between.arrivals.duplicates patient p.max_retransmissions (fire_of between)
          (subst (λ (t : Timing). GoodFire t g.forward_rolls between.arrivals.received s.time (fire_of between)) e f) (arrived limit patient edition plan good k)))

  later_ok : (u : RunState) (time moves rounds : ℕ) → WithinLimits u → u.time < time → WithinLimits (at u time moves rounds)
  later_ok u time moves rounds w h = record { low = w.low; high = w.high; paced = le_trans w.paced (omega arith) }

  exhausted_ok : (u : RunState) → WithinLimits u → WithinLimits (exhausted u)
  exhausted_ok u w = record { low = w.low; high = w.high; paced = w.paced }

  by_stop_lem : (st : Option Stop) (u : RunState) (rest : StepExit) → WithinLimits u → Ok rest → Ok (unless_stopped st u rest)
  by_stop_lem (None) u rest w h = h
  by_stop_lem (Some why) u rest w h = w

  either : (b : Bool) (x y : StepExit) → Ok x → Ok y → Ok (cond b x y)
  either true x y h i = h
  either false x y h i = i

  settled : Ok (settle p (after_both p g s))
  settled =
      settle_cases p (after_both p g s) Ok (λ time. both_ok) (λ t e h. exhausted_ok (after_both p g s) both_ok) (λ t e h i z. later_ok (after_both p g s) t _ _ both_ok h)
      (λ t e h i z. later_ok (after_both p g s) t _ _ both_ok h)

  pub step_within : WithinLimits (step p g s).state
  step_within =
      subst Ok (sym (step_is p g s))
      (either (eqb s.rounds 0) (over (exhausted s) end.Ended s.time) _ (exhausted_ok s before_ok)
      (by_stop_lem (arrives p g s).stop between _ between_ok
      (by_stop_lem (both_exit p g s).stop (after_both p g s) _ both_ok
      (either (after_both p g s).resends.exhausted (over (after_both p g s) end.Ended s.time) _ both_ok
      (either ((arrives p g s).progress || (both_exit p g s).progress) (step_exit (after_both p g s) Going) (settle p (after_both p g s)) both_ok settled)))))
