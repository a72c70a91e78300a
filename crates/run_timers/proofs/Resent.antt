-- On the source's timing a step that goes on sends a packet again where a timer has run out.
use Rattle.std.specs.Prelude.{Option, Some}
use Prim.Native.Nat.{ℕ, ◌≤◌, ◌<◌}
use native.Mathlib.Omega.{arith}
use mathlib.Core.Path.{◌≡◌, refl, sym, ap, ◌∙◌, subst}
use mathlib.Core.Bool.{Bool, true, false, cond, true≢false}
use mathlib.Core.List.{List, [], ◌∷◌}
use lib.Dec.{eqb, leb}
use lib.Ieee.{Float}
use borrow.Author.Tests.{eqb-false, leb-false}
use Rattle.timer.specs.Timer.{expired_at}
use Rattle.multi_timer.specs.Map.{Entry, keys_of, keep, due_keys, lookup, is_some}
use Rattle.multi_timer.specs.Map as map
use Rattle.path.specs.Path.{is_going}
use Rattle.rto.specs.Rto.{on_timeout_unchecked}
use Rattle.clock.specs.Clock.{ClockState, timer_of, cancel_number, numbers_due, single_due, due}
use Rattle.clock.specs.declared.Due.TheVariants as ran
use Rattle.clock.specs.declared.Timing.{Timing}
use Rattle.clock.specs.declared.Timing.TheVariants as timing
use Rattle.clock.proofs.Laws.{running}
use Rattle.delivery.specs.Calls.{number_of}
use Rattle.session.specs.Sending.{has_outstanding, oldest_outstanding, resent}
use Rattle.session.specs.declared.Timeout.{Timeout}
use Rattle.session.specs.declared.Timeout.TheVariants as timeout
use Rattle.submission.specs.Submission.{Outgoing}
use Rattle.sending.specs.Sending.{pump_sends}
use Rattle.sending.specs.Retransmit.{RetransmitExit, retransmit, ceiling_met, retransmit_all}
use Rattle.sending.specs.declared.Resends.{Resends}
use Rattle.sending.proofs.Laws.{retransmit_counts, resend_turns, all_stopped, all_going}
use Rattle.timeouts.specs.Timeouts.{FireState, FireExit, with_clock, stopped, timed_out, timeout_of, fire_number, fire_numbers, expired, fire_timers}
use Rattle.timeouts.proofs.Laws.{sender_unbroken, timed_out_by, fire_due, numbers_none, numbers_exhausted, numbers_going, numbers_stopped, timers_met, timers_due_lem}
use Rattle.arrivals.specs.Arrivals.{serve_arrivals}
use Rattle.departures.specs.Departures.{pump_of, pumped, is_going_on, send_due}
use Rattle.step.specs.State.{Given, chunks_for, RunState, fire_of, with_arrivals}
use Rattle.step.specs.Settle.{StepExit}
use Rattle.step.specs.Step.{round_less}
use Rattle.step.specs.Good.{GoodRun}
use Rattle.step.specs.declared.Plan.{Plan}
use Rattle.step.proofs.Laws.{arrives, can_arrive, arrived_good, good_fire, settle_cases, after_both, going_cases}
use Rattle.run_timers.specs.Again.{RanOut, arrived, AgainWhereDue}
use Rattle.run_timers.specs.Again.RanOut.{single, number}
use Rattle.run_timers.proofs.Single.{Runs, arrivals_run, First, all_again}

abbrev again_in : FireExit → ℕ
again_in x = x.state.resends.retx_submitted

-- ---- the count of what was sent again never falls, and a packet raises it
module _ (limit : ℕ) (rolls : List Float) (now : ℕ) where
  module _ (t : Timing) where
    all_more : (rto : ℕ) (oldest : Option ℕ) (packets : List (List ℕ)) (n : ℕ) (r : Resends) (o : Outgoing) → n ≤ r.retx_submitted → n ≤ (retransmit_all limit t rolls rto now oldest packets r o).resends.retx_submitted
    all_more rto oldest packets n r o h =
        resend_turns limit t rolls rto now oldest (λ (r : Resends) (o : Outgoing). n ≤ r.retx_submitted) (λ r o h. h) packets
        (λ packet m r o h. subst (λ (y : Resends). n ≤ y.retx_submitted) (sym (retransmit_counts t rolls rto now oldest (number_of packet) packet r o)) (omega (arith, h))) r o h

    all_one : (rto : ℕ) (oldest : Option ℕ) (packet : List ℕ) (packets : List (List ℕ)) (r : Resends) (o : Outgoing) → ceiling_met limit r ≡ false → r.retx_submitted < (retransmit_all limit t rolls rto now oldest (packet ∷ packets) r o).resends.retx_submitted
    all_one rto oldest packet packets r o c = by_stop_lem (is_going sends.stop) refl
      where
        sends : RetransmitExit
        sends = retransmit t rolls rto now oldest (number_of packet) packet r o

        one : r.retx_submitted < sends.resends.retx_submitted
        one = subst (λ (y : Resends). r.retx_submitted < y.retx_submitted) (sym (retransmit_counts t rolls rto now oldest (number_of packet) packet r o)) (omega arith)

        by_stop_lem : (b : Bool) → is_going sends.stop ≡ b → r.retx_submitted < (retransmit_all limit t rolls rto now oldest (packet ∷ packets) r o).resends.retx_submitted
        by_stop_lem true g = subst (λ (y : RetransmitExit). r.retx_submitted < y.resends.retx_submitted) (sym (all_going limit t rolls rto now oldest packet packets r o refl c g)) (all_more rto oldest packets _ sends.resends sends.outgoing one)
        by_stop_lem false g = subst (λ (y : RetransmitExit). r.retx_submitted < y.resends.retx_submitted) (sym (all_stopped limit t rolls rto now oldest packet packets r o refl c g)) one

    timed_out_more : (of : Timeout) (s : FireState) (n : ℕ) → n ≤ s.resends.retx_submitted → n ≤ again_in (timed_out limit t rolls now of s)
    timed_out_more of s n h = timed_out_by limit t rolls now of s (λ (x : FireExit). n ≤ again_in x) (λ e. h) (λ z. all_more _ _ (resent s.sender of).packets n s.resends s.outgoing h)

    timed_out_one : (of : Timeout) (s : FireState) (packet : List ℕ) (packets : List (List ℕ)) → (resent s.sender of).packets ≡ packet ∷ packets → ceiling_met limit s.resends ≡ false
        → s.resends.retx_submitted < again_in (timed_out limit t rolls now of s)
    timed_out_one of s packet packets are c =
        timed_out_by limit t rolls now of s (λ (x : FireExit). s.resends.retx_submitted < again_in x) (λ e. absurd (nothing (sym are ∙ e)))
        (λ z. subst (λ (ps : List (List ℕ)). s.resends.retx_submitted < (retransmit_all limit t rolls (on_timeout_unchecked s.estimator).current_rto now (oldest_outstanding (resent s.sender of).after.sender) ps s.resends s.outgoing).resends.retx_submitted) (sym are) (all_one (on_timeout_unchecked s.estimator).current_rto (oldest_outstanding (resent s.sender of).after.sender) packet packets s.resends s.outgoing c))
      where
        nothing : ◌≡◌ {A = List (List ℕ)} (packet ∷ packets) [] → ⊥
        nothing e = let z : ◌≡◌ {A = ℕ} 0 1 = cc in omega arith

  number_more : (m : ℕ) (s : FireState) (n : ℕ) → n ≤ s.resends.retx_submitted → n ≤ again_in (fire_number limit rolls now m s)
  unfolding fire_number
  number_more m s n h = timed_out_more timing.PerNumber (timeout.Number m) (with_clock s (cancel_number s.outgoing.clock m)) n h

  numbers_more : (ms : List ℕ) (s : FireState) (n : ℕ) → n ≤ s.resends.retx_submitted → n ≤ again_in (fire_numbers limit rolls now ms s)
  numbers_more [] s n h = subst (λ (x : FireExit). n ≤ again_in x) (sym (numbers_none limit rolls now s)) h
  numbers_more (m ∷ ms) s n h = by_ceiling (ceiling_met limit s.resends) refl (numbers_more ms (fire_number limit rolls now m s).state n (number_more m s n h))
    where
      by_stop_lem : ceiling_met limit s.resends ≡ false → (b : Bool) → is_going (fire_number limit rolls now m s).stop ≡ b → n ≤ again_in (fire_numbers limit rolls now ms (fire_number limit rolls now m s).state) → n ≤ again_in (fire_numbers limit rolls now (m ∷ ms) s)
      by_stop_lem c true i rest = subst (λ (x : FireExit). n ≤ again_in x) (sym (numbers_going limit rolls now m ms s c i)) rest
      by_stop_lem c false i rest = subst (λ (x : FireExit). n ≤ again_in x) (sym (numbers_stopped limit rolls now m ms s c i)) (number_more m s n h)

      by_ceiling : (b : Bool) → ceiling_met limit s.resends ≡ b → n ≤ again_in (fire_numbers limit rolls now ms (fire_number limit rolls now m s).state) → n ≤ again_in (fire_numbers limit rolls now (m ∷ ms) s)
      by_ceiling true c rest = subst (λ (x : FireExit). n ≤ again_in x) (sym (numbers_exhausted limit rolls now m ms s c)) h
      by_ceiling false c rest = by_stop_lem c (is_going (fire_number limit rolls now m s).stop) refl rest

  numbers_one : (m : ℕ) (ms : List ℕ) (s : FireState) → ceiling_met limit s.resends ≡ false → s.resends.retx_submitted < again_in (fire_number limit rolls now m s)
      → s.resends.retx_submitted < again_in (fire_numbers limit rolls now (m ∷ ms) s)
  numbers_one m ms s c h = by_stop_lem (is_going (fire_number limit rolls now m s).stop) refl
    where
      by_stop_lem : (b : Bool) → is_going (fire_number limit rolls now m s).stop ≡ b → s.resends.retx_submitted < again_in (fire_numbers limit rolls now (m ∷ ms) s)
      by_stop_lem true i = subst (λ (x : FireExit). s.resends.retx_submitted < again_in x) (sym (numbers_going limit rolls now m ms s c i)) (numbers_more ms (fire_number limit rolls now m s).state _ h)
      by_stop_lem false i = subst (λ (x : FireExit). s.resends.retx_submitted < again_in x) (sym (numbers_stopped limit rolls now m ms s c i)) h

-- ---- a timer that has run out is set
listed : (now : ℕ) (es : List Entry) (n : ℕ) (more : List ℕ) → due_keys now es ≡ n ∷ more → is_some (lookup n es) ≡ true
unfolding keys_of keep lookup
listed now [] n more e = let z : ◌≡◌ {A = ℕ} 0 1 = cc in absurd (omega arith)
listed now (x ∷ es) n more e = by_test_lem (leb x.deadline now) e (eqb x.key n) (eqb-false x.key n) (listed now es n more)
  where
    by_test_lem : (b : Bool) → keys_of (cond b (x ∷ keep (map.due now) es) (keep (map.due now) es)) ≡ n ∷ more → (k : Bool) → (k ≡ false → x.key ≡ n → ⊥) → (due_keys now es ≡ n ∷ more → is_some (lookup n es) ≡ true) → is_some (cond k (Some x.deadline) (lookup n es)) ≡ true
    by_test_lem b e true h rest = refl
    by_test_lem true e false h rest = let k : x.key ≡ n = cc in absurd (h refl k)
    by_test_lem false e false h rest = rest e

-- ---- what is due
due_single : (t : Timing) (c : ClockState) (now : ℕ) (waits : Bool) → t ≡ timing.Single → expired_at (timer_of c).deadline now ≡ true → waits ≡ true → ran.Single ≡ due t c now waits
unfolding due
due_single timing.Single c now waits i e o = sym (ap (λ (b : Bool). single_due b waits ran.Nothing) e ∙ ap (λ (b : Bool). single_due true b ran.Nothing) o)
due_single timing.PerNumber c now waits i e o = let z : ◌≡◌ {A = ℕ} 0 1 = cc in absurd (omega arith)
due_single timing.Edition c now waits i e o = let z : ◌≡◌ {A = ℕ} 0 1 = cc in absurd (omega arith)

due_numbers : (t : Timing) (c : ClockState) (now : ℕ) (waits : Bool) (n : ℕ) (more : List ℕ) → t ≡ timing.PerNumber → expired c now ≡ n ∷ more → ran.Numbers ≡ due t c now waits
unfolding due
due_numbers timing.Single c now waits n more i e = let z : ◌≡◌ {A = ℕ} 0 1 = cc in absurd (omega arith)
due_numbers timing.PerNumber c now waits n more i e = sym (ap numbers_due e)
due_numbers timing.Edition c now waits n more i e = let z : ◌≡◌ {A = ℕ} 0 1 = cc in absurd (omega arith)

-- ---- a step
module _ (p : Plan) (g : Given) (s : RunState) (good : GoodRun p g s) where
  abbrev found : FireState
  found = fire_of (with_arrivals (round_less s) (arrives p g s).state)

  abbrev fired : FireExit
  fired = fire_timers p.max_retransmissions p.timing g.forward_rolls s.time found

  abbrev Rises : Type 0
  Rises = ceiling_met p.max_retransmissions s.resends ≡ false → s.resends.retx_submitted < fired.state.resends.retx_submitted

  sent_resends : (after_both p g s).resends ≡ fired.state.resends
  unfolding send_due
  sent_resends = by_test_lem (is_going_on fired)
    where
      by_test_lem : (b : Bool) → (cond b (pumped fired (pump_sends p.timing g.forward_rolls (chunks_for p g) fired.state.estimator.current_rto s.time (pump_of fired.state))) fired).state.resends ≡ fired.state.resends
      by_test_lem true = refl
      by_test_lem false = refl

  both : Rises → (after_both p g s).resends.exhausted ≡ false → s.resends.retx_submitted < (after_both p g s).resends.retx_submitted
  both rises x = by_ceiling (ceiling_met p.max_retransmissions s.resends) refl
    where
      by_ceiling : (b : Bool) → ceiling_met p.max_retransmissions s.resends ≡ b → s.resends.retx_submitted < (after_both p g s).resends.retx_submitted
      by_ceiling true c = absurd (true≢false (sym (ap (λ (r : Resends). r.exhausted) sent_resends ∙ ap (λ (y : FireExit). y.state.resends.exhausted) (timers_met p.max_retransmissions p.timing g.forward_rolls s.time found c)) ∙ x))
      by_ceiling false c = subst (λ (r : Resends). s.resends.retx_submitted < r.retx_submitted) (sym sent_resends) (rises c)

  where_due : (RanOut p.timing s.time (arrived p g s) → Rises) → AgainWhereDue p g s
  where_due rises go out =
      going_cases p g s (λ (y : StepExit). s.resends.retx_submitted < y.state.resends.retx_submitted) (λ h i x q r. both (rises out) x)
      (λ h i x r e. settle_cases p (after_both p g s) (λ (y : StepExit). s.resends.retx_submitted < y.state.resends.retx_submitted) (λ time. both (rises out) x) (λ t e h. both (rises out) x) (λ t e h k z. both (rises out) x) (λ t e h k z. both (rises out) x)) go

  pub each_again : p.timing ≡ timing.PerNumber → AgainWhereDue p g s
  each_again i = where_due rises
    where
      after : GoodRun p g (with_arrivals (round_less s) (arrives p g s).state)
      after = arrived_good good

      rises : RanOut p.timing s.time (arrived p g s) → Rises
      rises (single other e o) c = absurd (other i)
      rises (number j n more e) c =
          let d = after.timers.due n (listed s.time (running found.outgoing.clock) n more e) in
          let one = subst (λ (x : FireExit). s.resends.retx_submitted < again_in x) (sym (fire_due p.max_retransmissions g.forward_rolls s.time n found (sender_unbroken (good_fire after)) (after.selective i) d c))
          (subst (λ (y : Resends). s.resends.retx_submitted < y.retx_submitted) (sym (retransmit_counts timing.PerNumber g.forward_rolls _ s.time _ n _ s.resends _)) (omega arith)) in
          subst (λ (x : FireExit). s.resends.retx_submitted < again_in x) (sym (timers_due_lem p.max_retransmissions p.timing g.forward_rolls s.time found c (due_numbers p.timing found.outgoing.clock s.time (has_outstanding found.sender.sender) n more i e)))
          (subst (λ (ns : List ℕ). s.resends.retx_submitted < (fire_numbers p.max_retransmissions g.forward_rolls s.time ns found).state.resends.retx_submitted) (sym e) (numbers_one p.max_retransmissions g.forward_rolls s.time n more found c one))

  pub single_again : (limit : ℕ) → p.max_retransmissions ≤ limit → p.timing ≡ timing.Single → Runs limit s.arrivals.sender s.arrivals.clock s.arrivals.inbound.metas.notes.count s.resends.retx_submitted → AgainWhereDue p g s
  single_again limit enough i q = where_due rises
    where
      after : GoodRun p g (with_arrivals (round_less s) (arrives p g s).state)
      after = arrived_good good

      still : let a = arrived p g s in Runs limit a.sender a.clock a.inbound.metas.notes.count s.resends.retx_submitted
      still =
          subst (λ (t : Timing). let a = (serve_arrivals t g.reverse_rolls p.total_chunks s.time s.arrivals).state in Runs limit a.sender a.clock a.inbound.metas.notes.count s.resends.retx_submitted) (sym i)
          (arrivals_run limit s.time s.resends.retx_submitted g.reverse_rolls p.total_chunks s.arrivals (can_arrive good) q)

      rises : RanOut p.timing s.time (arrived p g s) → Rises
      rises (number j n more e) c = let z : ◌≡◌ {A = ℕ} 0 1 = cc in absurd (omega arith)
      rises (single other e o) c =
          let below = leb-false p.max_retransmissions s.resends.retx_submitted c in
          let r = still.retries in
          let first : First limit found.sender = all_again limit found.sender (sender_unbroken (good_fire after)) o still.limit_is (omega (arith, below, r, enough)) in
          subst (λ (x : FireExit). s.resends.retx_submitted < again_in x) (sym (timers_due_lem p.max_retransmissions p.timing g.forward_rolls s.time found c (due_single p.timing found.outgoing.clock s.time (has_outstanding found.sender.sender) i e o)))
          (timed_out_one p.max_retransmissions g.forward_rolls s.time p.timing (timeout_of p.timing) (with_clock found (stopped found.outgoing.clock)) first.packet first.packets
          (ap (λ (t : Timing). (resent found.sender (timeout_of t)).packets) i ∙ first.are) c)
