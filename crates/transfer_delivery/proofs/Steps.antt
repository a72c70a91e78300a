-- What every step of a run keeps of both lines, both ends and the events, also the last.
use Rattle.std.specs.Prelude.{None, Option, Some}
use Prim.Native.Nat.{ℕ, zero, suc}
use mathlib.Core.Path.{◌≡◌, refl, sym, subst}
use mathlib.Core.Bool.{Bool, true, false, cond, ◌||◌}
use mathlib.Core.List.{List}
use lib.Dec.{eqb}
use Rattle.path.specs.Path.{is_going}
use Rattle.path.specs.declared.Stop.{Stop}
use Rattle.arrivals.specs.Arrivals.{ArrivalState}
use Rattle.step.specs.State.{Given, RunState, with_arrivals, exhausted}
use Rattle.step.specs.Settle.{StepExit, step_exit, over, unless_stopped, settle}
use Rattle.step.specs.Step.{round_less, step}
use Rattle.step.specs.Good.{GoodPlan, GoodRun}
use Rattle.step.specs.declared.Plan.{Plan}
use Rattle.step.specs.declared.End.TheVariants as end
use Rattle.step.specs.declared.Course.TheVariants.{Going}
use Rattle.step.proofs.Laws.{arrives, step_is, settle_cases, after_both, both_exit, step_good}
use Rattle.transfer.specs.Run.{is_over, run_at_most_for, run_at_most, run_for, run, steps_left}
use Rattle.transfer.proofs.Runs.{not_over}

abbrev pub Kept : Type 1
Kept = ArrivalState → ℕ → List (List ℕ) → Type 0

abbrev pub At : Kept → RunState → Type 0
At Q s = Q s.arrivals s.written s.events

module _ (Q : Kept) (p : Plan) (g : Given) (s : RunState) where
  settled : (u : RunState) → At Q u → At Q (settle p u).state
  settled u q = settle_cases p u (λ (x : StepExit). At Q x.state) (λ time. q) (λ t e h. q) (λ t e h k z. q) (λ t e h k z. q)

  by_stop_lem : (st : Option Stop) (u : RunState) (rest : StepExit) → At Q u → (is_going st ≡ true → At Q rest.state) → At Q (unless_stopped st u rest).state
  by_stop_lem (None) u rest q h = h refl
  by_stop_lem (Some why) u rest q h = q

  either : (b : Bool) (x y : StepExit) → At Q x.state → At Q y.state → At Q (cond b x y).state
  either true x y p q = p
  either false x y p q = q

  pub step_keeps : At Q s → Q (arrives p g s).state s.written s.events → (is_going (arrives p g s).stop ≡ true → At Q (after_both p g s)) → At Q (step p g s).state
  step_keeps q a b =
      subst (λ (x : StepExit). At Q x.state) (sym (step_is p g s))
      (either (eqb s.rounds 0) (over (exhausted s) end.Ended s.time) _ q
      (by_stop_lem (arrives p g s).stop (with_arrivals (round_less s) (arrives p g s).state) _ a
      (λ on. by_stop_lem (both_exit p g s).stop (after_both p g s) _ (b on)
      (λ going. either (after_both p g s).resends.exhausted (over (after_both p g s) end.Ended s.time) _ (b on)
      (either ((arrives p g s).progress || (both_exit p g s).progress) (step_exit (after_both p g s) Going) (settle p (after_both p g s)) (b on) (settled (after_both p g s) (b on)))))))

-- whatever every step keeps, a run keeps
module _ (Q : Kept) (p : Plan) (g : Given) (plan : GoodPlan p g) (step_kept : (s : RunState) → GoodRun p g s → At Q s → At Q (step p g s).state) where
  run_most : (n : ℕ) (s : RunState) → GoodRun p g s → At Q s → At Q (run_at_most n p g s).state
  unfolding run_at_most_for
  run_most zero s good q = q
  run_most (suc n) s good q = by_course (is_over (step p g s).course) refl (λ more. run_most n (step p g s).state more (step_kept s good q))
    where
      by_course : (b : Bool) → is_over (step p g s).course ≡ b → (GoodRun p g (step p g s).state → At Q (run_at_most n p g (step p g s).state).state) → At Q (cond b (step p g s) (run_at_most n p g (step p g s).state)).state
      by_course true e more = step_kept s good q
      by_course false e more = more (step_good plan good (not_over (step p g s).course e))

  pub run_keeps : (s : RunState) → GoodRun p g s → At Q s → At Q (run p g s).state
  unfolding run_for
  run_keeps s good q = run_most (suc (steps_left p s)) s good q
