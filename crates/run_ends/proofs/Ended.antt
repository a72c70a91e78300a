-- After every round that goes on nothing is left to send; why and when a run ended as the source's does.
use Rattle.std.specs.Prelude.{None, Ok, Option, Some}
use Prim.Native.Nat.{ℕ, ◌-◌, ◌≤◌, ◌<◌}
use native.Mathlib.Omega.{arith}
use mathlib.Core.Path.{◌≡◌, refl, sym, ap, ◌∙◌, subst}
use mathlib.Core.Bool.{Bool, true, false, cond, true≢false, false≢true, ◌&&◌, ◌||◌, and-eq-true_iff}
use mathlib.Core.Logic.{⊎_elim}
use mathlib.Core.List.{List, [], ◌∷◌}
use lib.Dec.{eqb, leb, ltb}
use lib.Ieee.{Float}
use borrow.Author.Tests.{leb-true, leb-false, ltb-true, ltb-false, eqb-true}
use Rattle.path.specs.Path.{is_going, take_ready, packet_buffer}
use Rattle.path.specs.Rolls.{Doubles}
use Rattle.path.specs.declared.Stop.{Stop}
use Rattle.rto.specs.Rto.{on_timeout_unchecked}
use Rattle.clock.specs.Clock.{cancel_number, due}
use Rattle.clock.specs.Estimator.{Factors}
use Rattle.clock.specs.declared.Due.TheVariants as ran
use Rattle.clock.specs.declared.Timing.{Timing}
use Rattle.clock.specs.declared.Timing.TheVariants.{PerNumber}
use Rattle.window.specs.State.{outstanding}
use Rattle.session.specs.Sending.{SenderEnd, window_of, has_outstanding, oldest_outstanding, resent}
use Rattle.session.specs.declared.Timeout.{Timeout}
use Rattle.session.specs.declared.Timeout.TheVariants as timeout
use Rattle.notes.specs.Notes.{is_premature}
use Rattle.delivery.specs.Calls.{number_of}
use Rattle.submission.specs.Submission.{Outgoing}
use Rattle.sending.specs.Sending.{pump_sends}
use Rattle.sending.specs.Retransmit.{RetransmitExit, retransmit, counted_again, ceiling_met, retransmit_all}
use Rattle.sending.specs.Retransmit as again
use Rattle.sending.specs.declared.Resends.{Resends}
use Rattle.sending.proofs.Laws.{retransmit_counts, all_none, all_met, all_stopped, all_going}
use Rattle.timeouts.specs.Timeouts.{FireState, FireExit, with_clock, stopped, timed_out, timeout_of, fire_number, fire_numbers, expired, fire_timers}
use Rattle.timeouts.proofs.Laws.{timed_out_by, numbers_none, numbers_exhausted, numbers_going, numbers_stopped, timers_by}
use Rattle.departures.specs.Departures.{pump_of, pumped, is_going_on, send_due}
use Rattle.step.specs.State.{Given, chunks_for, RunState, Lent, with_arrivals, fire_of, exhausted, at}
use Rattle.step.specs.Settle.{StepExit, step_exit, finishing_time, over, unless_stopped, move_to, settle}
use Rattle.step.specs.Step.{round_less, step}
use Rattle.step.specs.Good.{GoodPlan, GoodRun}
use Rattle.step.specs.declared.Plan.{Plan}
use Rattle.step.specs.declared.End.{End}
use Rattle.step.specs.declared.End.TheVariants as end
use Rattle.step.specs.declared.Course.TheVariants.{Going, Over}
use Rattle.step.proofs.Laws.{arrives, earliest, step_is, after_both, both_exit, arrived_good, can_send_due, step_good}
use Rattle.setup.specs.Setup.{CanStart}
use Rattle.setup.specs.declared.TransferConfig.{TransferConfig}
use Rattle.transfer.specs.Start.{plan_for, new_run, start_of}
use Rattle.transfer.specs.Run.{is_over, run}
use Rattle.transfer.specs.Transfer.{end_of, finished_at}
use Rattle.transfer.specs.declared.Ceilings.{Ceilings}
use Rattle.transfer.proofs.Laws.{run_over, start_plan, start_good}
use Rattle.edition_clock.specs.AlongARun.{Reached, start, next}
use Rattle.edition_clock.proofs.Run.{run_last}
use Rattle.run_ends.specs.Ended.{is_idle, next_time, NothingToSend, TimerPast, EndedWhy, EndedSo}
use Rattle.run_ends.specs.Ended.EndedWhy.{finished, resends_used, nothing_due, past_limit, rounds_used, timer_past, moments_used}
use Rattle.run_ends.proofs.Quiet.{or_right, none_sent, sent_left, Drained, arrivals_drained, line_later, SinglePast, timers_later}
use Rattle.path.specs.declared.Stop.TheVariants as stop

-- ---- exhausted only where the ceiling is met
module _ (limit : ℕ) where
  record Spent (r : Resends) : Type 0 where
    met : r.exhausted ≡ true → limit ≤ r.retx_submitted

  spent_met : (r : Resends) → ceiling_met limit r ≡ true → Spent (again.exhausted r)
  spent_met r m = record { met = λ e. leb-true limit r.retx_submitted m }

  spent_more : (r : Resends) (b : Bool) → Spent r → Spent (counted_again r b)
  spent_more r b q = record { met = λ e. let h = q.met e in omega (arith, h) }

  module _ (t : Timing) (rolls : List Float) (rto now : ℕ) (oldest : Option ℕ) where
    abbrev sends : List ℕ → Resends → Outgoing → RetransmitExit
    sends packet r o = retransmit t rolls rto now oldest (number_of packet) packet r o

    resend_spent : (packets : List (List ℕ)) (r : Resends) (o : Outgoing) → Spent r → Spent (retransmit_all limit t rolls rto now oldest packets r o).resends
    resend_spent [] r o q = subst (λ (y : RetransmitExit). Spent y.resends) (sym (all_none limit t rolls rto now oldest r o)) q
    resend_spent (packet ∷ packets) r o q = by_ceiling (ceiling_met limit r) refl (resend_spent packets (sends packet r o).resends (sends packet r o).outgoing one)
      where
        one : Spent (sends packet r o).resends
        one = subst Spent (sym (retransmit_counts t rolls rto now oldest (number_of packet) packet r o)) (spent_more r (is_premature o.metas (number_of packet)) q)

        After : RetransmitExit → Type 0
        After y = Spent y.resends

        by_stop_lem : ceiling_met limit r ≡ false → (g : Bool) → is_going (sends packet r o).stop ≡ g → After (retransmit_all limit t rolls rto now oldest packets (sends packet r o).resends (sends packet r o).outgoing)
            → After (retransmit_all limit t rolls rto now oldest (packet ∷ packets) r o)
        by_stop_lem m true g rest = subst After (sym (all_going limit t rolls rto now oldest packet packets r o refl m g)) rest
        by_stop_lem m false g rest = subst After (sym (all_stopped limit t rolls rto now oldest packet packets r o refl m g)) one

        by_ceiling : (b : Bool) → ceiling_met limit r ≡ b → After (retransmit_all limit t rolls rto now oldest packets (sends packet r o).resends (sends packet r o).outgoing)
            → After (retransmit_all limit t rolls rto now oldest (packet ∷ packets) r o)
        by_ceiling true m rest = subst After (sym (all_met limit t rolls rto now oldest packet packets r o m)) (spent_met r m)
        by_ceiling false m rest = by_stop_lem m (is_going (sends packet r o).stop) refl rest

  abbrev After : FireExit → Type 0
  After x = Spent x.state.resends

  module _ (rolls : List Float) (now : ℕ) where
    timed_out_spent : (t : Timing) (of : Timeout) (s : FireState) → Spent s.resends → After (timed_out limit t rolls now of s)
    timed_out_spent t of s q =
        timed_out_by limit t rolls now of s After (λ e. q)
        (λ h. resend_spent t rolls (on_timeout_unchecked s.estimator).current_rto now (oldest_outstanding (resent s.sender of).after.sender) (resent s.sender of).packets s.resends s.outgoing q)

    number_spent : (n : ℕ) (s : FireState) → Spent s.resends → After (fire_number limit rolls now n s)
    unfolding fire_number
    number_spent n s q = timed_out_spent PerNumber (timeout.Number n) (with_clock s (cancel_number s.outgoing.clock n)) q

    numbers_spent : (ns : List ℕ) (s : FireState) → Spent s.resends → After (fire_numbers limit rolls now ns s)
    numbers_spent [] s q = subst After (sym (numbers_none limit rolls now s)) q
    numbers_spent (n ∷ ns) s q = by_ceiling (ceiling_met limit s.resends) refl (numbers_spent ns (fire_number limit rolls now n s).state (number_spent n s q))
      where
        by_stop_lem : ceiling_met limit s.resends ≡ false → (b : Bool) → is_going (fire_number limit rolls now n s).stop ≡ b → After (fire_numbers limit rolls now ns (fire_number limit rolls now n s).state) → After (fire_numbers limit rolls now (n ∷ ns) s)
        by_stop_lem m true i rest = subst After (sym (numbers_going limit rolls now n ns s m i)) rest
        by_stop_lem m false i rest = subst After (sym (numbers_stopped limit rolls now n ns s m i)) (number_spent n s q)

        by_ceiling : (b : Bool) → ceiling_met limit s.resends ≡ b → After (fire_numbers limit rolls now ns (fire_number limit rolls now n s).state) → After (fire_numbers limit rolls now (n ∷ ns) s)
        by_ceiling true m rest = subst After (sym (numbers_exhausted limit rolls now n ns s m)) (spent_met s.resends m)
        by_ceiling false m rest = by_stop_lem m (is_going (fire_number limit rolls now n s).stop) refl rest

    timers_spent : (t : Timing) (s : FireState) → Spent s.resends → After (fire_timers limit t rolls now s)
    timers_spent t s q =
        timers_by limit t rolls now s After (λ m. spent_met s.resends m) (λ m. q) q (λ other. timed_out_spent t (timeout_of t) (with_clock s (stopped s.outgoing.clock)) q)
        (λ e. numbers_spent (expired s.outgoing.clock now) s q)

    due_spent : (t : Timing) (chunks : List (List ℕ)) (s : FireState) → Spent s.resends → After (send_due limit t rolls chunks now s)
    unfolding send_due
    due_spent t chunks s q = by_test_lem (is_going_on (fire_timers limit t rolls now s))
      where
        by_test_lem : (b : Bool) → After (cond b (pumped (fire_timers limit t rolls now s) (pump_sends t rolls chunks (fire_timers limit t rolls now s).state.estimator.current_rto now (pump_of (fire_timers limit t rolls now s).state))) (fire_timers limit t rolls now s))
        by_test_lem true = timers_spent t s q
        by_test_lem false = timers_spent t s q

-- ---- a step
module _ (p : Plan) (g : Given) (plan : GoodPlan p g) where
  abbrev SpentAt : RunState → Type 0
  SpentAt s = Spent p.max_retransmissions s.resends

  -- between steps: without a round left something was sent before
  record Between (s : RunState) : Type 0 where
    good : GoodRun p g s
    spent : SpentAt s
    sent : s.rounds ≡ 0 → 0 < p.rounds → NothingToSend p s

  -- why and when the step from s ended the run
  record Ends (s : RunState) (x : StepExit) : Type 0 where
    time : ℕ
    why : EndedWhy p s x.state time
    finishes : finished_at x.course ≡ finishing_time x.state time

  record Why (s : RunState) (x : StepExit) : Type 0 where
    goes : x.course ≡ Going → SpentAt x.state × NothingToSend p x.state
    ends : is_over x.course ≡ true → end_of x.course ≡ end.Ended → Ends s x

  still_going : {e : End} {time : ℕ} → Over e time ≡ Going → ⊥
  still_going e = let z : ◌≡◌ {A = ℕ} 0 1 = cc in omega arith

  module _ (s : RunState) (q : Between s) where
    over_why : (u : RunState) (time : ℕ) → EndedWhy p s u time → Why s (over u end.Ended time)
    over_why u time w = record { goes = λ e. absurd (still_going e); ends = λ o e. record { time = time; why = w; finishes = refl } }

    going_why : (u : RunState) → SpentAt u → NothingToSend p u → Why s (step_exit u Going)
    going_why u r n = record { goes = λ e. (r, n); ends = λ o e. absurd (false≢true o) }

    unless : (st : Option Stop) (u : RunState) (rest : StepExit) → (is_going st ≡ true → Why s rest) → Why s (unless_stopped st u rest)
    unless (None) u rest h = h refl
    unless (Some stop.RollsSpent) u rest h = record { goes = λ e. absurd (still_going e); ends = λ o e. let z : ◌≡◌ {A = ℕ} 0 1 = cc in absurd (omega arith) }
    unless (Some stop.EventsFull) u rest h = record { goes = λ e. absurd (still_going e); ends = λ o e. let z : ◌≡◌ {A = ℕ} 0 1 = cc in absurd (omega arith) }
    unless (Some stop.ScheduleFull) u rest h = record { goes = λ e. absurd (still_going e); ends = λ o e. let z : ◌≡◌ {A = ℕ} 0 1 = cc in absurd (omega arith) }

    either : (b : Bool) (x y : StepExit) → (b ≡ true → Why s x) → (b ≡ false → Why s y) → Why s (cond b x y)
    either true x y h k = h refl
    either false x y h k = k refl

    -- nothing is left to send, and nothing was due
    record QuietAt (u : RunState) : Type 0 where
      moves : u.moves ≡ s.moves
      now : u.time ≡ s.time
      left : NothingToSend p u
      drained : Drained u.time u.arrivals
      not_due : due p.timing u.arrivals.clock u.time (has_outstanding u.arrivals.sender.sender) ≡ ran.Nothing

    past_why : (u : RunState) (t : ℕ) → next_time p u ≡ Some t → QuietAt u → t ≤ u.time → TimerPast p u
    past_why u t e n h =
        ⊎_elim (λ f. let l = line_later u.arrivals.forward u.time n.drained.forward f in absurd (omega (arith, h, l)))
        (⊎_elim (λ f. let l = line_later u.arrivals.inbound.reverse u.time n.drained.reverse f in absurd (omega (arith, h, l)))
        (λ f. ⊎_elim (λ l. absurd (omega (arith, h, l))) timer (timers_later p.timing u.arrivals.clock u.time (has_outstanding u.arrivals.sender.sender) n.not_due t f)))
        (earliest p.timing u.arrivals.forward u.arrivals.inbound.reverse u.arrivals.clock e).one
      where
        timer : SinglePast p.timing u.arrivals.clock (has_outstanding u.arrivals.sender.sender) t → TimerPast p u
        timer x = let none = ltb-false 0 (outstanding (window_of u.arrivals.sender.sender)) x.none in record { single = x.single; none = omega (arith, none); deadline = t; set = x.at; past = h }

    same : {u : RunState} → TimerPast p u → TimerPast p (exhausted u)
    same x = record { single = x.single; none = x.none; deadline = x.deadline; set = x.set; past = x.past }

    move_why : (u : RunState) (d : Option ℕ) → next_time p u ≡ d → QuietAt u → SpentAt u → Why s (move_to p u d)
    move_why u None e n r = over_why u u.time (nothing_due n.left e)
    move_why u (Some t) e n r =
        either (leb t u.time) _ _ (λ h. over_why (exhausted u) u.time (timer_past n.left (same (past_why u t e n (leb-true t u.time h)))))
        (λ h. either (ltb p.max_virtual_time t) _ _ (λ k. over_why u p.max_virtual_time (past_limit n.left (record { deadline = t; next = e; past = ltb-true p.max_virtual_time t k })))
        (λ k. either (eqb u.moves 0) _ _ (λ m. over_why (at u t u.moves u.rounds) t (moments_used n.left (sym n.moves ∙ eqb-true u.moves 0 m) (let a = n.now in let b = leb-false t u.time h in omega (arith, a, b)) e))
        (λ m. going_why (at u t (u.moves - 1) p.rounds) r n.left)))

    settle_why : (u : RunState) → QuietAt u → SpentAt u → Why s (settle p u)
    unfolding settle
    settle_why u n r =
        either (u.arrivals.inbound.side.completed && is_idle p u) _ _ (λ h. let w = (and-eq-true_iff u.arrivals.inbound.side.completed (is_idle p u)).0 h in over_why u u.time (finished w.0 w.1))
        (λ h. move_why u (next_time p u) refl n r)

    both : SpentAt (after_both p g s)
    both = due_spent p.max_retransmissions g.forward_rolls s.time p.timing (chunks_for p g) (fire_of (with_arrivals (round_less s) (arrives p g s).state)) q.spent

    left : is_going (both_exit p g s).stop ≡ true → (after_both p g s).resends.exhausted ≡ false → NothingToSend p (after_both p g s)
    left on k = sent_left p.max_retransmissions (can_send_due (arrived_good q.good) plan) on k

    -- no progress: nothing was due
    quiet : is_going (arrives p g s).stop ≡ true → is_going (both_exit p g s).stop ≡ true → (after_both p g s).resends.exhausted ≡ false → (both_exit p g s).progress ≡ false → QuietAt (after_both p g s)
    quiet first on k e =
        let n = none_sent p.max_retransmissions g.forward_rolls s.time p.timing (chunks_for p g) (fire_of (with_arrivals (round_less s) (arrives p g s).state)) on k e in
        let d = arrivals_drained p.timing g.reverse_rolls p.total_chunks s.time s.arrivals first in
        record {
          moves = refl;
          now = refl;
          left = left on k;
          drained = record { forward = subst (λ (o : Outgoing). (take_ready o.forward s.time packet_buffer).result.answer ≡ Ok None) (sym n.outgoing) d.forward; reverse = d.reverse };
          not_due = ap (λ (v : SenderEnd). due p.timing (after_both p g s).arrivals.clock s.time (has_outstanding v.sender)) n.sender
              ∙ ap (λ (o : Outgoing). due p.timing o.clock s.time (has_outstanding (arrives p g s).state.sender.sender)) n.outgoing ∙ n.not_due;
        }

    step_why : Why s (step p g s)
    step_why =
        subst (Why s) (sym (step_is p g s))
        (either (eqb s.rounds 0) _ _ (λ h. over_why (exhausted s) s.time (rounds_used (eqb-true s.rounds 0 h) refl (q.sent (eqb-true s.rounds 0 h))))
        (λ h. unless (arrives p g s).stop (with_arrivals (round_less s) (arrives p g s).state) _
        (λ i. unless (both_exit p g s).stop (after_both p g s) _
        (λ on. either (after_both p g s).resends.exhausted _ _ (λ k. over_why (after_both p g s) s.time (resends_used k (both.met k)))
        (λ k. either ((arrives p g s).progress || (both_exit p g s).progress) _ _ (λ m. going_why (after_both p g s) both (left on k))
        (λ m. settle_why (after_both p g s) (quiet i on k (or_right (arrives p g s).progress (both_exit p g s).progress m)) both))))))

  -- ---- the run
  module _ (s : RunState) (begun : Between s) where
    between : {u : RunState} → Reached p g s u → Between u
    between start = begun
    between (next {u = u} r go) =
        let b = between r in
        let w = (step_why u b).goes go in
        record { good = step_good plan b.good go; spent = w.0; sent = λ z h. w.1 }

    run_sends : {u : RunState} → Reached p g s u → (step p g u).course ≡ Going → NothingToSend p (step p g u).state
    run_sends {u} r go = ((step_why u (between r)).goes go).1

    run_ended_why : end_of (run p g s).course ≡ end.Ended → EndedSo p g s (run p g s)
    run_ended_why e =
        let x = run_last p g s in
        let w = subst (λ (y : StepExit). is_over y.course ≡ true → end_of y.course ≡ end.Ended → Ends x.before y) (sym x.last) (step_why x.before (between x.reached)).ends (run_over p g s) e in
        record { step = x; time = w.time; why = w.why; finishes = w.finishes }

-- ---- of every call that isn't refused. Doubles and Factors say what the doubles given are by their types.
module _ (k : Ceilings) (c : TransferConfig) (g : Given) (l : Lent) (h : CanStart (start_of c g l)) (forward : Doubles g.forward_rolls) (reverse : Doubles g.reverse_rolls) (factors : Factors c.rto) where
  begun : Between (plan_for k c g) g (start_plan k c g l h) (new_run k c l)
  unfolding new_run
  begun = record { good = start_good k c g l h forward reverse factors; spent = record { met = λ e. absurd (true≢false (sym e)) }; sent = λ z n. absurd (omega (arith, z, n)) }

  -- after every step that goes on, every chunk was sent or the window has no space
  pub transfer_sends : {u : RunState} → Reached (plan_for k c g) g (new_run k c l) u → (step (plan_for k c g) g u).course ≡ Going → NothingToSend (plan_for k c g) (step (plan_for k c g) g u).state
  transfer_sends = run_sends (plan_for k c g) g (start_plan k c g l h) (new_run k c l) begun

  pub transfer_ended_why : end_of (run (plan_for k c g) g (new_run k c l)).course ≡ end.Ended → EndedSo (plan_for k c g) g (new_run k c l) (run (plan_for k c g) g (new_run k c l))
  transfer_ended_why = run_ended_why (plan_for k c g) g (start_plan k c g l h) (new_run k c l) begun
