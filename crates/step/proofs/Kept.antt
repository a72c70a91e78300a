-- A step that goes on keeps what steps ask.
use Rattle.std.specs.Prelude.{None, Option, Some}
use Prim.Native.Nat.{ℕ, ◌≤◌}
use native.Mathlib.Omega.{arith}
use mathlib.Core.Path.{◌≡◌, refl, sym, ap, ◌∙◌, subst}
use mathlib.Core.Bool.{Bool, true, false, cond, ◌||◌}
use lib.Dec.{eqb}
use Rattle.bounds.specs.Bounds.{max_duration}
use Rattle.notes.proofs.Laws.{timely_later}
use Rattle.path.specs.Path.{is_going}
use Rattle.path.specs.declared.Stop.{Stop}
use Rattle.timeouts.specs.Timeouts.{FireExit}
use Rattle.step.specs.State.{Given, RunState, with_arrivals, with_fired, exhausted, at}
use Rattle.step.specs.Settle.{StepExit, step_exit, over, unless_stopped, settle}
use Rattle.step.specs.Step.{round_less, step}
use Rattle.step.specs.Good.{GoodPlan, GoodRun}
use Rattle.step.specs.declared.Plan.{Plan}
use Rattle.step.specs.declared.End.{End}
use Rattle.step.specs.declared.End.TheVariants as end
use Rattle.step.specs.declared.Course.TheVariants.{Going, Over}
use Rattle.step.proofs.Rounds.{arrives, sends, after_arriving, step_is}
use Rattle.step.proofs.Good.{arrived_good, sent_good}
use Rattle.step.proofs.Moves.{settle_going}

not_over : {e : End} {time : ℕ} → Over e time ≡ Going → ⊥
not_over e = let z : ◌≡◌ {A = ℕ} 0 1 = cc in omega arith

-- a packet that ended the run didn't let it go on
by_stop_lem : (P : StepExit → Type 0) (st : Option Stop) (s : RunState) (rest : StepExit) → (is_going st ≡ true → rest.course ≡ Going → P rest) → (unless_stopped st s rest).course ≡ Going → P (unless_stopped st s rest)
by_stop_lem P (None) s rest h e = h refl e
by_stop_lem P (Some why) s rest h e = absurd (not_over e)

-- what holds of the state after both parts of a round and of the move from it holds of a step that goes on
module _ (p : Plan) (g : Given) (s : RunState) where
  abbrev pub after_both : RunState
  after_both = with_fired (with_arrivals (round_less s) (arrives p g s).state) (sends p g s (with_arrivals (round_less s) (arrives p g s).state)).state

  abbrev pub both_exit : FireExit
  both_exit = sends p g s (with_arrivals (round_less s) (arrives p g s).state)

  pub going_cases : (P : StepExit → Type 0)
      → (is_going (arrives p g s).stop ≡ true → is_going both_exit.stop ≡ true → after_both.resends.exhausted ≡ false → ((arrives p g s).progress || both_exit.progress) ≡ true → (eqb s.rounds 0 ≡ false) → P (step_exit after_both Going))
      → (is_going (arrives p g s).stop ≡ true → is_going both_exit.stop ≡ true → after_both.resends.exhausted ≡ false → (eqb s.rounds 0 ≡ false) → (settle p after_both).course ≡ Going → P (settle p after_both))
      → (step p g s).course ≡ Going → P (step p g s)
  going_cases P on moved e = subst P (sym (step_is p g s)) (by_rounds (eqb s.rounds 0) refl (ap (λ (x : StepExit). x.course) (sym (step_is p g s)) ∙ e))
    where
      by_progress : is_going (arrives p g s).stop ≡ true → is_going both_exit.stop ≡ true → after_both.resends.exhausted ≡ false → eqb s.rounds 0 ≡ false → (b : Bool) → ((arrives p g s).progress || both_exit.progress) ≡ b
          → (cond b (step_exit after_both Going) (settle p after_both)).course ≡ Going → P (cond b (step_exit after_both Going) (settle p after_both))
      by_progress h k x r true q e = on h k x q r
      by_progress h k x r false q e = moved h k x r e

      by_exhausted : is_going (arrives p g s).stop ≡ true → is_going both_exit.stop ≡ true → eqb s.rounds 0 ≡ false → (b : Bool) → after_both.resends.exhausted ≡ b
          → (cond b (over after_both end.Ended s.time) (cond ((arrives p g s).progress || both_exit.progress) (step_exit after_both Going) (settle p after_both))).course ≡ Going
          → P (cond b (over after_both end.Ended s.time) (cond ((arrives p g s).progress || both_exit.progress) (step_exit after_both Going) (settle p after_both)))
      by_exhausted h k r true x e = absurd (not_over e)
      by_exhausted h k r false x e = by_progress h k x r _ refl e

      by_rounds : (b : Bool) → eqb s.rounds 0 ≡ b → (cond b (over (exhausted s) end.Ended s.time) (after_arriving p g s (arrives p g s))).course ≡ Going → P (cond b (over (exhausted s) end.Ended s.time) (after_arriving p g s (arrives p g s)))
      by_rounds true r e = absurd (not_over e)
      by_rounds false r e =
          by_stop_lem P (arrives p g s).stop (with_arrivals (round_less s) (arrives p g s).state) _
          (λ h f. by_stop_lem P both_exit.stop after_both _ (λ k f. by_exhausted h k r _ refl f) f) e

-- a later moment
at_good : {p : Plan} {g : Given} {s : RunState} → GoodRun p g s → (time moves rounds : ℕ) → s.time ≤ time → time ≤ max_duration → GoodRun p g (at s time moves rounds)
at_good {s = s} good time moves rounds h k =
    let o = good.outgoing in
    record {
      outgoing = record { forward = o.forward; notes = timely_later h k o.notes; scheduled = o.scheduled; clock = o.clock; events = o.events };
      inbound = good.inbound;
      sender = good.sender;
      estimator = good.estimator;
      duplicates = good.duplicates;
      arrived = record { datas = good.arrived.datas; replies = good.arrived.replies };
      counted = good.counted;
      next = good.next;
      rows = good.rows;
      timers = good.timers;
      selective = good.selective;
    }

pub step_good : {p : Plan} {g : Given} {s : RunState} → GoodPlan p g → GoodRun p g s → (step p g s).course ≡ Going → GoodRun p g (step p g s).state
step_good {p} {g} {s} plan good =
    going_cases p g s (λ (x : StepExit). GoodRun p g x.state) (λ h k x q r. both k x)
    (λ h k x r e.
    let m = settle_going p (after_both p g s) e in
    let w = m.within in
    let l = m.later in
    subst (GoodRun p g) (sym m.same) (at_good (both k x) _ _ _ (omega (arith, l)) (omega (arith, w, plan.time))))
  where
    both : is_going (both_exit p g s).stop ≡ true → (after_both p g s).resends.exhausted ≡ false → GoodRun p g (after_both p g s)
    both k x = sent_good (arrived_good good) plan k x
