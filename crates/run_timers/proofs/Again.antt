-- A step sends a packet again only where a timer has run out.
use Rattle.std.specs.Prelude.{None, Option, Some}
use Prim.Native.Nat.{ℕ, ◌<◌}
use native.Mathlib.Omega.{arith}
use mathlib.Core.Path.{◌≡◌, refl, sym, subst}
use mathlib.Core.Bool.{Bool, true, false, cond, ◌||◌}
use mathlib.Core.List.{List, [], ◌∷◌}
use lib.Dec.{eqb}
use Rattle.timer.specs.Timer.{expired_at}
use Rattle.path.specs.declared.Stop.{Stop}
use Rattle.clock.specs.Clock.{ClockState, timer_of, numbers_due, single_due, due}
use Rattle.clock.specs.declared.Due.{Due}
use Rattle.clock.specs.declared.Due.TheVariants as ran
use Rattle.clock.specs.declared.Timing.{Timing}
use Rattle.clock.specs.declared.Timing.TheVariants as timing
use Rattle.session.specs.Sending.{has_outstanding}
use Rattle.sending.specs.Sending.{pump_sends}
use Rattle.sending.specs.Retransmit.{ceiling_met}
use Rattle.timeouts.specs.Timeouts.{FireState, FireExit, expired, by_due, fire_timers}
use Rattle.timeouts.proofs.Laws.{numbers_timing, single_timing, timers_met, timers_due_lem}
use Rattle.departures.specs.Departures.{pump_of, pumped, is_going_on, send_due}
use Rattle.step.specs.State.{Given, chunks_for, RunState, fire_of, with_arrivals}
use Rattle.step.specs.Settle.{StepExit, unless_stopped}
use Rattle.step.specs.Step.{round_less}
use Rattle.step.specs.declared.Plan.{Plan}
use Rattle.step.proofs.Laws.{arrives, step_is, settle_cases, after_both, both_exit}
use Rattle.run_timers.specs.Again.{RanOut, arrived, AgainOnlyDue}
use Rattle.run_timers.specs.Again.RanOut.{single, number}

-- ---- what is due
both_true : (expired some : Bool) (idle : Due) → (idle ≡ ran.Single → ⊥) → single_due expired some idle ≡ ran.Single → (expired ≡ true) × (some ≡ true)
both_true true true idle h e = (refl, refl)
both_true true false idle h e = absurd (h e)
both_true false some idle h e = let z : ◌≡◌ {A = ℕ} 0 1 = cc in absurd (omega arith)

single_due_lem : (t : Timing) (c : ClockState) (now : ℕ) (some : Bool) → due t c now some ≡ ran.Single → (expired_at (timer_of c).deadline now ≡ true) × (some ≡ true)
unfolding due
single_due_lem timing.Single c now some e = both_true (expired_at (timer_of c).deadline now) some ran.Nothing (λ (f : ran.Nothing ≡ ran.Single). let z : ◌≡◌ {A = ℕ} 0 1 = cc in omega arith) e
single_due_lem timing.PerNumber c now some e = absurd (single_timing timing.PerNumber c now some e refl)
single_due_lem timing.Edition c now some e = both_true (expired_at (timer_of c).deadline now) some ran.Idle (λ (f : ran.Idle ≡ ran.Single). let z : ◌≡◌ {A = ℕ} 0 1 = cc in omega arith) e

record NonEmpty (ns : List ℕ) : Type 0 where
  first : ℕ
  more : List ℕ
  are : ns ≡ first ∷ more

numbers_due_lem : (t : Timing) (c : ClockState) (now : ℕ) (some : Bool) → due t c now some ≡ ran.Numbers → NonEmpty (expired c now)
unfolding due
numbers_due_lem timing.Single c now some e = absurd (not_alike (numbers_timing timing.Single c now some e))
  where
    not_alike : timing.Single ≡ timing.PerNumber → ⊥
    not_alike f = let z : ◌≡◌ {A = ℕ} 0 1 = cc in omega arith
numbers_due_lem timing.PerNumber c now some e = by_list (expired c now) e
  where
    by_list : (ns : List ℕ) → numbers_due ns ≡ ran.Numbers → NonEmpty ns
    by_list [] f = let z : ◌≡◌ {A = ℕ} 0 1 = cc in absurd (omega arith)
    by_list (n ∷ ns) f = record { first = n; more = ns; are = refl }
numbers_due_lem timing.Edition c now some e = absurd (not_alike (numbers_timing timing.Edition c now some e))
  where
    not_alike : timing.Edition ≡ timing.PerNumber → ⊥
    not_alike f = let z : ◌≡◌ {A = ℕ} 0 1 = cc in omega arith

-- ---- a step
module _ (p : Plan) (g : Given) (s : RunState) where
  abbrev found : FireState
  found = fire_of (with_arrivals (round_less s) (arrives p g s).state)

  abbrev Out : Type 0
  Out = RanOut p.timing s.time (arrived p g s)

  abbrev More : ℕ → Type 0
  More n = s.resends.retx_submitted < n → Out

  none : More s.resends.retx_submitted
  none h = absurd (omega arith)

  abbrev Fired : FireExit → Type 0
  Fired x = More x.state.resends.retx_submitted

  fires : Fired (fire_timers p.max_retransmissions p.timing g.forward_rolls s.time found)
  fires = by_ceiling (ceiling_met p.max_retransmissions s.resends) refl
    where
      by_due_lem : (d : Due) → d ≡ due p.timing found.outgoing.clock s.time (has_outstanding found.sender.sender) → Fired (by_due d p.max_retransmissions p.timing g.forward_rolls s.time found)
      by_due_lem ran.Nothing e = none
      by_due_lem ran.Idle e = none
      by_due_lem ran.Single e =
          λ h. let x = single_due_lem p.timing found.outgoing.clock s.time (has_outstanding found.sender.sender) (sym e) in
          single (single_timing p.timing found.outgoing.clock s.time (has_outstanding found.sender.sender) (sym e)) x.0 x.1
      by_due_lem ran.Numbers e =
          λ h. let x = numbers_due_lem p.timing found.outgoing.clock s.time (has_outstanding found.sender.sender) (sym e) in
          number (numbers_timing p.timing found.outgoing.clock s.time (has_outstanding found.sender.sender) (sym e)) x.first x.more x.are

      by_ceiling : (b : Bool) → ceiling_met p.max_retransmissions s.resends ≡ b → Fired (fire_timers p.max_retransmissions p.timing g.forward_rolls s.time found)
      by_ceiling true c = subst Fired (sym (timers_met p.max_retransmissions p.timing g.forward_rolls s.time found c)) none
      by_ceiling false c = subst Fired (sym (timers_due_lem p.max_retransmissions p.timing g.forward_rolls s.time found c refl)) (by_due_lem _ refl)

  -- new chunks are none sent again
  both : More (after_both p g s).resends.retx_submitted
  unfolding send_due
  both = by_test_lem (is_going_on fired)
    where
      fired : FireExit
      fired = fire_timers p.max_retransmissions p.timing g.forward_rolls s.time found

      by_test_lem : (b : Bool) → Fired (cond b (pumped fired (pump_sends p.timing g.forward_rolls (chunks_for p g) fired.state.estimator.current_rto s.time (pump_of fired.state))) fired)
      by_test_lem true = fires
      by_test_lem false = fires

  abbrev Left : StepExit → Type 0
  Left x = More x.state.resends.retx_submitted

  unless : (st : Option Stop) (u : RunState) (rest : StepExit) → More u.resends.retx_submitted → Left rest → Left (unless_stopped st u rest)
  unless (None) u rest l h = h
  unless (Some why) u rest l h = l

  either : (b : Bool) (x y : StepExit) → Left x → Left y → Left (cond b x y)
  either true x y h k = h
  either false x y h k = k

  pub again_only_due : AgainOnlyDue p g s
  again_only_due =
      subst Left (sym (step_is p g s))
      (either (eqb s.rounds 0) _ _ none
      (unless (arrives p g s).stop (with_arrivals (round_less s) (arrives p g s).state) _ none
      (unless (both_exit p g s).stop (after_both p g s) _ both
      (either (after_both p g s).resends.exhausted _ _ both
      (either ((arrives p g s).progress || (both_exit p g s).progress) _ _ both
      (settle_cases p (after_both p g s) Left (λ time. both) (λ t e h. both) (λ t e h k z. both) (λ t e h k z. both)))))))
