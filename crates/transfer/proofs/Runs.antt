-- A run: its steps, that it ends, and that what is left of it makes of the present what the whole makes of the start.
use Prim.Native.Nat.{ℕ, zero, suc, ◌≤◌, ◌<◌}
use native.Mathlib.Omega.{arith}
use mathlib.Core.Path.{◌≡◌, refl, sym, ap, ◌∙◌, subst}
use mathlib.Core.Bool.{Bool, true, false, cond, not, ◌&&◌, true≢false, and-eq-true_iff}
use lib.ListN.{length}
use borrow.Author.Tests.{not-true}
use Rattle.step.specs.State.{Given, RunState, Lent}
use Rattle.step.specs.Settle.{StepExit, step_exit}
use Rattle.step.specs.Step.{step}
use Rattle.step.specs.Good.{GoodPlan, GoodRun}
use Rattle.step.specs.declared.Plan.{Plan}
use Rattle.step.specs.declared.Course.{Course}
use Rattle.step.specs.declared.Course.TheVariants.{Going, Over}
use Rattle.step.proofs.Laws.{step_good}
use Rattle.transfer.specs.Run.{is_over, run_at_most_for, run_at_most, steps_left, run_for, run}
use Rattle.transfer.proofs.Steps.{step_falls}

pub not_over : (c : Course) → is_over c ≡ false → c ≡ Going
not_over Going e = refl
not_over (Over e time) h = absurd (true≢false h)

fewer : (a b n : ℕ) → a < b → b < suc n → a < n
fewer a b n l m = omega arith

module _ (p : Plan) (g : Given) where
  abbrev next : RunState → RunState
  next s = (step p g s).state

  pub steps_fall : (s : RunState) → is_over (step p g s).course ≡ false → steps_left p (step p g s).state < steps_left p s
  steps_fall s e = step_falls p g s (not_over (step p g s).course e)

  at_over : (n : ℕ) (s : RunState) → is_over (step p g s).course ≡ true → run_at_most (suc n) p g s ≡ step p g s
  unfolding run_at_most_for
  at_over n s e = ap (λ (b : Bool). cond b (step p g s) (run_at_most n p g (next s))) e

  at_going : (n : ℕ) (s : RunState) → is_over (step p g s).course ≡ false → run_at_most (suc n) p g s ≡ run_at_most n p g (next s)
  unfolding run_at_most_for
  at_going n s e = ap (λ (b : Bool). cond b (step p g s) (run_at_most n p g (next s))) e

  -- ---- more steps than are left change nothing
  either_way : (n m : ℕ) (s : RunState) (b : Bool) → is_over (step p g s).course ≡ b → (b ≡ false → run_at_most m p g (next s) ≡ run_at_most n p g (next s)) → run_at_most (suc m) p g s ≡ run_at_most (suc n) p g s
  either_way n m s true e f = at_over m s e ∙ sym (at_over n s e)
  either_way n m s false e f = at_going m s e ∙ f refl ∙ sym (at_going n s e)

  pub steps_enough : (n m : ℕ) (s : RunState) → steps_left p s < n → n ≤ m → run_at_most m p g s ≡ run_at_most n p g s
  steps_enough zero m s l k = absurd (omega (arith, l))
  steps_enough (suc n) zero s l k = absurd (omega (arith, k))
  steps_enough (suc n) (suc m) s l k =
      either_way n m s (is_over (step p g s).course) refl
      (λ e. steps_enough n m (next s) (fewer _ _ n (steps_fall s e) l) (omega (arith, k)))

  -- ---- a run is over at its end
  ends_by : (n : ℕ) (s : RunState) (b : Bool) → is_over (step p g s).course ≡ b → (b ≡ false → is_over (run_at_most n p g (next s)).course ≡ true) → is_over (run_at_most (suc n) p g s).course ≡ true
  ends_by n s true e f = ap (λ (x : StepExit). is_over x.course) (at_over n s e) ∙ e
  ends_by n s false e f = ap (λ (x : StepExit). is_over x.course) (at_going n s e) ∙ f refl

  ends : (n : ℕ) (s : RunState) → steps_left p s < n → is_over (run_at_most n p g s).course ≡ true
  ends zero s l = absurd (omega (arith, l))
  ends (suc n) s l = ends_by n s (is_over (step p g s).course) refl (λ e. ends n (next s) (fewer _ _ n (steps_fall s e) l))

  pub run_over : (s : RunState) → is_over (run p g s).course ≡ true
  unfolding run_for
  run_over s = ends (suc (steps_left p s)) s (omega arith)

  -- ---- a step of a run
  pub run_ends : (s : RunState) → is_over (step p g s).course ≡ true → run p g s ≡ step p g s
  unfolding run_for
  run_ends s e = at_over (steps_left p s) s e

  pub run_goes : (s : RunState) → is_over (step p g s).course ≡ false → run p g s ≡ run p g (step p g s).state
  unfolding run_for
  run_goes s e =
      let l = steps_fall s e in
      at_going (steps_left p s) s e ∙ steps_enough (suc (steps_left p (next s))) (steps_left p s) (next s) (omega arith) (omega (arith, l))

  -- ---- a run of known length: so many steps that go on, and one that doesn't
  unfoldable pub steps_from : ℕ → RunState → StepExit
  steps_from zero s = step p g s
  steps_from (suc n) s = let x = step p g s in steps_from n x.state

  unfoldable pub is_going_on : ℕ → RunState → Bool
  is_going_on zero s = is_over (step p g s).course
  is_going_on (suc n) s = let x = step p g s in not (is_over x.course) && is_going_on n x.state

  pub run_steps : (n : ℕ) (s : RunState) → is_going_on n s ≡ true → run p g s ≡ steps_from n s
  unfolding steps_from is_going_on
  run_steps zero s e = run_ends s e
  run_steps (suc n) s e =
      let b = (and-eq-true_iff (not (is_over (step p g s).course)) (is_going_on n (step p g s).state)).0 e in
      run_goes s (not-true _ b.0) ∙ run_steps n (step p g s).state b.1

-- ---- what is left of a run
pub record Same (l m : Lent) : Type 0 where
  pub sender : length m.sender_store ≡ length l.sender_store
  pub receiver : length m.receiver_store ≡ length l.receiver_store
  pub output : length m.output ≡ length l.output
  pub rows : length m.rows ≡ length l.rows
  pub events : length m.events ≡ length l.events
  pub forward : length m.forward_records ≡ length l.forward_records
  pub forward_places : length m.forward_places ≡ length l.forward_places
  pub reverse : length m.reverse_records ≡ length l.reverse_records
  pub reverse_places : length m.reverse_places ≡ length l.reverse_places
  pub keys : length m.keys ≡ length l.keys
  pub deadlines : length m.deadlines ≡ length l.deadlines

pub record Left (p : Plan) (g : Given) (l m : Lent) (s t : RunState) : Type 0 where
  pub eq : run p g t ≡ run p g s
  pub good : GoodRun p g t
  pub same : Same l m

pub left_start : (p : Plan) (g : Given) (l : Lent) (s : RunState) → GoodRun p g s → Left p g l l s s
left_start p g l s good =
    record {
      eq = refl;
      good = good;
      same = record { sender = refl; receiver = refl; output = refl; rows = refl; events = refl; forward = refl; forward_places = refl; reverse = refl; reverse_places = refl; keys = refl; deadlines = refl };
    }

module _ {p : Plan} {g : Given} {l m : Lent} {s t u : RunState} {c : Course} {b : Bool} (h : Left p g l m s t) (e : step_exit u c ≡ step p g t) (i : b ≡ is_over c) where
  course_is : {a : Bool} → b ≡ a → is_over (step p g t).course ≡ a
  course_is j = ap (λ (x : StepExit). is_over x.course) (sym e) ∙ sym i ∙ j

  pub left_over : b ≡ true → step_exit u c ≡ run p g s
  left_over j = e ∙ sym (run_ends p g t (course_is j)) ∙ h.eq

  pub left_less : b ≡ false → steps_left p u < steps_left p t
  left_less j = subst (λ (x : StepExit). steps_left p x.state < steps_left p t) (sym e) (steps_fall p g t (course_is j))

  pub left_next : {n : Lent} → b ≡ false → GoodPlan p g → Same l n → Left p g l n s u
  left_next j plan same =
      record {
        eq = ap (λ (x : StepExit). run p g x.state) e ∙ sym (run_goes p g t (course_is j)) ∙ h.eq;
        good = subst (λ (x : StepExit). GoodRun p g x.state) (sym e) (step_good plan h.good (not_over (step p g t).course (course_is j)));
        same = same;
      }
