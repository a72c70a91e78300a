-- A step that goes on leaves fewer steps.
use Prim.Native.Nat.{ℕ, zero, suc, ◌+◌, ◌-◌, ◌*◌, ◌<◌}
use native.Mathlib.Nat.{suc-mul}
use native.Mathlib.Omega.{arith}
use mathlib.Core.Path.{◌≡◌, ap}
use mathlib.Core.Bool.{false, true≢false}
use lib.Dec.{eqb}
use Rattle.step.specs.State.{Given, RunState}
use Rattle.step.specs.Settle.{StepExit}
use Rattle.step.specs.Step.{step}
use Rattle.step.specs.declared.Plan.{Plan}
use Rattle.step.specs.declared.Course.TheVariants.{Going}
use Rattle.step.proofs.Laws.{after_both, going_cases, settle_going}
use Rattle.transfer.specs.Run.{steps_left}

a_round_less : (a r t : ℕ) → t + 1 ≡ r → a + t < a + r
a_round_less a r t e = omega arith

a_move_less : (m k r n : ℕ) → n + 1 ≡ m → n * (k + 1) + k < m * (k + 1) + r
a_move_less zero k r n e = absurd (omega arith)
a_move_less (suc m) k r n e =
    let same : n ≡ m = omega arith in
    let split : suc m * (k + 1) ≡ m * (k + 1) + (k + 1) = suc-mul m (k + 1) in
    let here : n * (k + 1) ≡ m * (k + 1) = ap (λ (i : ℕ). i * (k + 1)) same in
    omega (arith, split, here)

one_more : (n : ℕ) → eqb n 0 ≡ false → n - 1 + 1 ≡ n
one_more zero e = absurd (true≢false e)
one_more (suc n) e = omega arith

-- a round less, or a move less with all rounds again
pub step_falls : (p : Plan) (g : Given) (s : RunState) → (step p g s).course ≡ Going → steps_left p (step p g s).state < steps_left p s
step_falls p g s =
    going_cases p g s (λ (x : StepExit). steps_left p x.state < steps_left p s)
    (λ h k x q r. a_round_less (s.moves * (p.rounds + 1)) s.rounds (s.rounds - 1) (one_more s.rounds r))
    (λ h k x r e.
    let m = settle_going p (after_both p g s) e in
    rw m.rounds (a_move_less s.moves p.rounds s.rounds _ m.moves))
