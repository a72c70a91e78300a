-- What the parts of a step keep, every step keeps that goes on or ends as the source's does; and so a run.
use Rattle.std.specs.Prelude.{None, Option, Some}
use Prim.Native.Nat.{ℕ, ◌<◌}
use native.Mathlib.Omega.{arith}
use mathlib.Core.Path.{◌≡◌, refl, sym, ap, ◌∙◌, subst}
use mathlib.Core.Bool.{Bool, true, false, cond, ◌||◌}
use mathlib.Core.List.{List}
use lib.Dec.{eqb}
use lib.Ieee.{Float}
use Rattle.chunks.specs.Chunks.{chunks_of}
use Rattle.path.specs.Path.{is_going}
use Rattle.path.specs.declared.Stop.{Stop}
use Rattle.clock.specs.declared.Timing.{Timing}
use Rattle.session.specs.GoodSender.{sender_broken}
use Rattle.sending.specs.Sending.{pump_sends}
use Rattle.sending.proofs.Laws.{pump_can}
use Rattle.timeouts.specs.Timeouts.{FireState}
use Rattle.timeouts.specs.Good.{GoodFire}
use Rattle.timeouts.proofs.Laws.{fire_timers_keeps}
use Rattle.arrivals.specs.Arrivals.{ArrivalState}
use Rattle.departures.specs.Departures.{pump_of, pumped, is_going_on, send_due, CanSendDue}
use Rattle.departures.proofs.Laws.{fired, can_pump_lem}
use Rattle.step.specs.State.{Given, RunState, with_arrivals}
use Rattle.step.specs.Settle.{StepExit, unless_stopped, settle}
use Rattle.step.specs.Step.{round_less, step}
use Rattle.step.specs.Good.{GoodPlan, GoodRun}
use Rattle.step.specs.declared.Plan.{Plan}
use Rattle.step.specs.declared.End.TheVariants as end
use Rattle.step.proofs.Laws.{arrives, step_is, settle_cases, after_both, both_exit, arrived_good, good_fire, can_send_due, step_good}
use Rattle.transfer.specs.Run.{is_over, run}
use Rattle.transfer.specs.Transfer.{end_of}
use Rattle.transfer.proofs.Laws.{run_over}
use Rattle.edition_clock.specs.AlongARun.{Reached, start, next}
use Rattle.edition_clock.proofs.Run.{run_last}
use Rattle.path.specs.declared.Stop.TheVariants as stop

-- ---- check 9 of the sender is false after the departures too
sent_unbroken : {t : Timing} {rolls : List Float} {size : ℕ} {file : List ℕ} {total samples now : ℕ} (top : ℕ) (s : FireState) → CanSendDue t rolls size file total now s → GoodFire t rolls samples now s
    → sender_broken (send_due top t rolls (chunks_of size file) now s).state.sender ≡ false
unfolding send_due
sent_unbroken {t} {rolls} {size} {file} {now = now} top s can g = by_test_lem (is_going_on (fired top can)) refl
  where
    by_test_lem : (b : Bool) → is_going_on (fired top can) ≡ b
        → sender_broken (cond b (pumped (fired top can) (pump_sends t rolls (chunks_of size file) (fired top can).state.estimator.current_rto now (pump_of (fired top can).state))) (fired top can)).state.sender ≡ false
    by_test_lem true e = (pump_can (can_pump_lem top can e)).good.sender.state
    by_test_lem false e = (fire_timers_keeps g top).sender.state

-- ---- of both lines, the ends and the timers, how many packets were sent again, and the time
abbrev pub Kept : Type 1
Kept = ArrivalState → ℕ → ℕ → Type 0

abbrev pub Holds : Kept → RunState → Type 0
Holds Q s = Q s.arrivals s.resends.retx_submitted s.time

-- it holds at a later moment too
abbrev pub Lasting : Kept → Type 0
Lasting Q = (a : ArrivalState) (again now later : ℕ) → now < later → Q a again now → Q a again later

module _ (Q : Kept) (lasting : Lasting Q) (p : Plan) (g : Given) where
  abbrev AtEnd : StepExit → Type 0
  AtEnd x = end_of x.course ≡ end.Ended → Holds Q x.state

  unless : (st : Option Stop) (u : RunState) (rest : StepExit) → (is_going st ≡ true → AtEnd rest) → AtEnd (unless_stopped st u rest)
  unless (None) u rest h = h refl
  unless (Some stop.RollsSpent) u rest h = λ e. let z : ◌≡◌ {A = ℕ} 0 1 = cc in absurd (omega arith)
  unless (Some stop.EventsFull) u rest h = λ e. let z : ◌≡◌ {A = ℕ} 0 1 = cc in absurd (omega arith)
  unless (Some stop.ScheduleFull) u rest h = λ e. let z : ◌≡◌ {A = ℕ} 0 1 = cc in absurd (omega arith)

  either : (b : Bool) (x y : StepExit) → AtEnd x → AtEnd y → AtEnd (cond b x y)
  either true x y h k = h
  either false x y h k = k

  settled : (u : RunState) → Holds Q u → AtEnd (settle p u)
  settled u q = settle_cases p u AtEnd (λ time i. q) (λ t e h i. q) (λ t e h k z i. lasting _ _ _ t h q) (λ t e h k z i. lasting _ _ _ t h q)

  step_at : (s : RunState) → Holds Q s → (is_going (both_exit p g s).stop ≡ true → Holds Q (after_both p g s)) → AtEnd (step p g s)
  step_at s q both =
      subst AtEnd (sym (step_is p g s))
      (either (eqb s.rounds 0) _ _ (λ i. q)
      (unless (arrives p g s).stop (with_arrivals (round_less s) (arrives p g s).state) _
      (λ first. unless (both_exit p g s).stop (after_both p g s) _
      (λ on. either (after_both p g s).resends.exhausted _ _ (λ i. both on)
      (either ((arrives p g s).progress || (both_exit p g s).progress) _ _ (λ i. both on) (settled (after_both p g s) (both on)))))))

-- ---- the last step of a run
pub record Last (Q : Kept) (u : RunState) : Type 0 where
  pub kept : Holds Q u
  pub unbroken : sender_broken u.arrivals.sender ≡ false

pub ended_last : (Q : Kept) → Lasting Q → (p : Plan) (g : Given) → GoodPlan p g → (u : RunState) → GoodRun p g u → Holds Q u → (is_going (both_exit p g u).stop ≡ true → Holds Q (after_both p g u)) → end_of (step p g u).course ≡ end.Ended → Last Q (step p g u).state
ended_last Q lasting p g plan u good q both over =
    record {
      kept = step_at Q lasting p g u q both over;
      unbroken = step_at (λ a n time. sender_broken a.sender ≡ false) (λ a n now later l h. h) p g u good.sender.state (λ on. sent_unbroken p.max_retransmissions _ (can_send_due (arrived_good good) plan) (good_fire (arrived_good good))) over;
    }

-- the run's end is its last step's
pub at_last : (p : Plan) (g : Given) (s : RunState) (P : RunState → Type 0) → end_of (run p g s).course ≡ end.Ended → ((u : RunState) → Reached p g s u → end_of (step p g u).course ≡ end.Ended → is_over (step p g u).course ≡ true → P (step p g u).state) → P (run p g s).state
at_last p g s P e f =
    let x = run_last p g s in
    subst (λ (y : StepExit). P y.state) (sym x.last) (f x.before x.reached (ap (λ (y : StepExit). end_of y.course) (sym x.last) ∙ e) (ap (λ (y : StepExit). is_over y.course) (sym x.last) ∙ run_over p g s))

-- ---- a run
pub record Between (Q : Kept) (p : Plan) (g : Given) (s : RunState) : Type 0 where
  pub good : GoodRun p g s
  pub kept : Holds Q s

module _ (Q : Kept) (lasting : Lasting Q) (p : Plan) (g : Given) (plan : GoodPlan p g) (both : (s : RunState) → GoodRun p g s → Holds Q s → is_going (both_exit p g s).stop ≡ true → Holds Q (after_both p g s)) (s : RunState) (begun : Between Q p g s) where
  pub reached_between : {u : RunState} → Reached p g s u → Between Q p g u
  reached_between start = begun
  reached_between (next {u = u} r go) =
      let b = reached_between r in
      record { good = step_good plan b.good go; kept = step_at Q lasting p g u b.kept (both u b.good b.kept) (ap end_of go) }

  pub run_last_at : end_of (run p g s).course ≡ end.Ended → Last Q (run p g s).state
  run_last_at e = at_last p g s (Last Q) e (λ u r over i. let b = reached_between r in ended_last Q lasting p g plan u b.good b.kept (both u b.good b.kept) over)
