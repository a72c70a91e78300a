-- A whole run on the edition clock, from a start that isn't refused.
use Rattle.std.specs.Prelude.{None, Some}
use Prim.Native.Nat.{ℕ, zero, suc, ◌-◌, ◌*◌, ◌<◌}
use native.Mathlib.Omega.{arith}
use mathlib.Core.Path.{◌≡◌, refl, sym, subst}
use mathlib.Core.Bool.{Bool, true, false, cond, true≢false, and-eq-true_iff}
use lib.Dec.{eqb, lit<}
use borrow.Author.Tests.{eqb-true, not-false, ltb-true}
use Rattle.bounds.specs.Bounds.{max_duration}
use Rattle.protocol.specs.declared.ProtocolType.{ProtocolType}
use Rattle.protocol.specs.declared.ProtocolType.TheVariants as protocol
use Rattle.timer.specs.Timer.{new_timer}
use Rattle.rto.specs.Rto.{fresh}
use Rattle.rto.specs.declared.RtoConfig.{RtoConfig}
use Rattle.path.specs.Rolls.{Doubles}
use Rattle.clock.specs.Clock.{new_clock}
use Rattle.clock.specs.Estimator.{Factors}
use Rattle.clock.specs.declared.Timing.TheVariants.{Edition}
use Rattle.sending.proofs.Laws.{unused}
use Rattle.setup.specs.Setup.{edition_times, edition_factors, is_edition, clock_broken, CanStart}
use Rattle.setup.specs.declared.ClockChoice.{ClockChoice}
use Rattle.setup.specs.declared.ClockChoice.TheVariants as choice
use Rattle.setup.specs.declared.TransferConfig.{TransferConfig}
use Rattle.step.specs.State.{Given, RunState, Lent}
use Rattle.step.specs.Settle.{StepExit}
use Rattle.step.specs.Step.{step}
use Rattle.step.specs.Good.{GoodRun}
use Rattle.step.specs.declared.Plan.{Plan}
use Rattle.step.specs.declared.Course.TheVariants as course
use Rattle.step.proofs.Laws.{step_good}
use Rattle.transfer.specs.Start.{timing_of, plan_for, new_run, start_of}
use Rattle.transfer.specs.Run.{is_over, run_at_most_for, run_at_most, run_for, run, steps_left}
use Rattle.transfer.specs.Transfer.{default_ceilings}
use Rattle.transfer.specs.declared.Ceilings.{Ceilings}
use Rattle.transfer.proofs.Laws.{not_over, run_over, start_plan, start_good}
use Rattle.edition_clock.specs.Section5.{min_rto}
use Rattle.edition_clock.specs.AlongARun.{StepFollows, WithinLimits, OnTheClock, Reached, start, next, LastStep}
use Rattle.edition_clock.proofs.Senders.{NotSelective, new_limit, new_retries}
use Rattle.edition_clock.proofs.Expiry.{EditionLimits}
use Rattle.edition_clock.proofs.Moments.{Kept}
use Rattle.edition_clock.proofs.Steps.{of_run, Stepped, step_along}
use Rattle.edition_clock.proofs.Ends.{step_within}

-- ---- every run is steps that go on, and a last one
reached_then : {p : Plan} {g : Given} {s u : RunState} → (step p g s).course ≡ course.Going → Reached p g (step p g s).state u → Reached p g s u
reached_then go start = next start go
reached_then go (next r more) = next (reached_then go r) more

pub run_last : (p : Plan) (g : Given) (s : RunState) → LastStep p g s (run p g s)
unfolding run_for run_at_most_for
run_last p g s = most (suc (steps_left p s)) s (run_over p g s)
  where
    by_course : (n : ℕ) (s : RunState) → (b : Bool) → is_over (step p g s).course ≡ b → is_over (cond b (step p g s) (run_at_most n p g (step p g s).state)).course ≡ true
        → (is_over (run_at_most n p g (step p g s).state).course ≡ true → LastStep p g (step p g s).state (run_at_most n p g (step p g s).state)) → LastStep p g s (cond b (step p g s) (run_at_most n p g (step p g s).state))
    by_course n s true e o rest = record { before = s; reached = start; last = refl }
    by_course n s false e o rest = let l = rest o in record { before = l.before; reached = reached_then (not_over (step p g s).course e) l.reached; last = l.last }

    most : (n : ℕ) (s : RunState) → is_over (run_at_most n p g s).course ≡ true → LastStep p g s (run_at_most n p g s)
    most zero s o = absurd (true≢false (sym o))
    most (suc n) s o = by_course n s (is_over (step p g s).course) refl o (most n (step p g s).state)

-- ---- the setup that check 4 leaves on this clock
pub record EditionSetup (p : ProtocolType) (c : RtoConfig) : Type 0 where
  pub not_selective : NotSelective p
  pub numbers : is_edition c ≡ true
  pub initial : c.initial_rto ≡ min_rto
  pub limits : EditionLimits c

times_are : (c : RtoConfig) → is_edition c ≡ true → (c.initial_rto ≡ min_rto) × EditionLimits c
times_are c e =
    let t = ((and-eq-true_iff (edition_times c) (edition_factors c)).0 e).0 in
    let a = (and-eq-true_iff (eqb c.initial_rto 1000000000) _).0 t in
    let b = (and-eq-true_iff (eqb c.min_rto 1000000000) _).0 a.1 in
    let d = (and-eq-true_iff (eqb c.max_rto 60000000000) _).0 b.1 in
    (eqb-true _ _ a.0, record { lower = eqb-true _ _ b.0; upper = eqb-true _ _ d.0 })

pub edition_setup : (k : ClockChoice) (p : ProtocolType) (c : RtoConfig) → k ≡ choice.Edition → clock_broken k p c ≡ false → EditionSetup p c
unfolding clock_broken
edition_setup k p c e h = by_protocol p (subst (λ (x : ClockChoice). clock_broken x p c ≡ false) e h)
  where
    by_protocol : (p : ProtocolType) → clock_broken choice.Edition p c ≡ false → EditionSetup p c
    by_protocol protocol.StopAndWait h = let t = times_are c (not-false _ h) in record { not_selective = tt; numbers = not-false _ h; initial = t.0; limits = t.1 }
    by_protocol protocol.GoBackN h = let t = times_are c (not-false _ h) in record { not_selective = tt; numbers = not-false _ h; initial = t.0; limits = t.1 }
    by_protocol protocol.SelectiveRepeat h = absurd (true≢false h)

timing_is : (p : ProtocolType) (k : ClockChoice) → NotSelective p → k ≡ choice.Edition → timing_of p k ≡ Edition
timing_is protocol.StopAndWait k i e = rw e
timing_is protocol.GoBackN k i e = rw e
timing_is protocol.SelectiveRepeat k i e = absurd i

-- ---- at the start nothing is outstanding, and the timer is off
nothing_yet : (low high : ℕ) → low ≡ 0 → high ≡ 0 → 0 < high - low → ⊥
nothing_yet low high e f h = omega arith

unset_at : {d : ℕ} → None ≡ Some d → ⊥
unset_at e = let z : ◌≡◌ {A = ℕ} 0 1 = cc in omega arith

module _ (k : Ceilings) (c : TransferConfig) (g : Given) (l : Lent) (h : CanStart (start_of c g l)) (e : c.clock ≡ choice.Edition) where
  setup : EditionSetup c.protocol c.rto
  setup = edition_setup c.clock c.protocol c.rto e h.clock_fine

  start_kept : Kept k.retries 0 (of_run (new_run k c l))
  unfolding new_run new_clock new_timer fresh
  start_kept =
      let u = unused c.protocol c.window_size k.retries l.sender_store in
      let i = setup.initial in
      record {
        limits = setup.limits;
        low = omega (arith, i);
        high = omega (arith, i);
        runs = λ o. absurd (nothing_yet _ _ u.base u.next (ltb-true 0 _ o));
        not_overdue = λ d f. absurd (unset_at f);
        not_far = λ d f. absurd (unset_at f);
        limit_is = new_limit c.protocol c.window_size k.retries l.sender_store setup.not_selective;
        retries = new_retries c.protocol c.window_size k.retries l.sender_store;
        paced = omega arith;
        spaced = λ d f. absurd (unset_at f);
      }

  -- Doubles and Factors say what the doubles given are by their types; the retries that `run_transfer` allows are enough
  module _ (forward : Doubles g.forward_rolls) (reverse : Doubles g.reverse_rolls) (factors : Factors c.rto) (patient : max_duration < k.retries * min_rto) where
    pub timed : timing_of c.protocol c.clock ≡ Edition
    timed = timing_is c.protocol c.clock setup.not_selective e

    pub record Between (u : RunState) : Type 0 where
      pub good : GoodRun (plan_for k c g) g u
      pub kept : Kept k.retries u.time (of_run u)

    stepped : (u : RunState) → Between u → (step (plan_for k c g) g u).course ≡ course.Going → Stepped k.retries u (step (plan_for k c g) g u).state
    stepped u b = step_along k.retries patient timed (start_plan k c g l h) b.good b.kept

    pub reached : {u : RunState} → Reached (plan_for k c g) g (new_run k c l) u → Between u
    unfolding new_run
    reached start = record { good = start_good k c g l h forward reverse factors; kept = start_kept }
    reached (next {u = u} r go) = record { good = step_good (start_plan k c g l h) (reached r).good go; kept = (stepped u (reached r) go).kept }

    pub edition_run : {u : RunState} → Reached (plan_for k c g) g (new_run k c l) u → OnTheClock u
    edition_run r = let b = (reached r).kept in record { limits = record { low = b.low; high = b.high; paced = b.paced }; runs = b.runs; not_overdue = b.not_overdue; not_far = b.not_far }

    pub edition_steps : {u : RunState} → Reached (plan_for k c g) g (new_run k c l) u → (step (plan_for k c g) g u).course ≡ course.Going → StepFollows u (step (plan_for k c g) g u).state
    edition_steps {u} r go = (stepped u (reached r) go).follows

    -- at the end, however it ends
    pub edition_end : WithinLimits (run (plan_for k c g) g (new_run k c l)).state
    edition_end =
        let x = run_last (plan_for k c g) g (new_run k c l) in
        let b = reached x.reached in
        subst (λ (y : StepExit). WithinLimits y.state) (sym x.last) (step_within k.retries patient timed (start_plan k c g l h) b.good b.kept)

-- of `run_transfer`'s own ceilings
pub default_patient : max_duration < default_ceilings.retries * min_rto
default_patient = lit< tt
