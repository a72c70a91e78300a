-- What a run has left of its moves and rounds is what it had, less those that it made.
use Prim.Native.Nat.{ℕ, ◌+◌, ◌-◌, ◌<◌}
use native.Mathlib.Omega.{arith}
use mathlib.Core.Path.{◌≡◌, refl}
use mathlib.Core.Logic.{◌⊎◌, inl, inr, ⊎_elim}
use borrow.Author.Tests.{eqb-false}
use Rattle.step.specs.State.{Given, RunState}
use Rattle.step.specs.Settle.{StepExit}
use Rattle.step.specs.Step.{step}
use Rattle.step.specs.declared.Plan.{Plan}
use Rattle.step.specs.declared.Course.TheVariants.{Going}
use Rattle.step.proofs.Laws.{settle_going, after_both, going_cases}
use Rattle.edition_clock.specs.AlongARun.{Reached}
use Rattle.edition_clock.specs.AlongARun as reached
use Rattle.run_timers.specs.Stopped.{Went}
use Rattle.run_timers.specs.Stopped.Went.{start, round, move}

-- ---- a step that goes on is a round at the same moment, or a move
pub record RoundOf (u v : RunState) : Type 0 where
  pub time : v.time ≡ u.time
  pub moves : v.moves ≡ u.moves
  pub rounds : v.rounds + 1 ≡ u.rounds

pub record MoveOf (p : Plan) (u v : RunState) : Type 0 where
  pub time : u.time < v.time
  pub moves : v.moves + 1 ≡ u.moves
  pub rounds : v.rounds ≡ p.rounds

pub step_goes : (p : Plan) (g : Given) (u : RunState) → (step p g u).course ≡ Going → RoundOf u (step p g u).state ⊎ MoveOf p u (step p g u).state
step_goes p g u =
    going_cases p g u (λ (x : StepExit). RoundOf u x.state ⊎ MoveOf p u x.state) (λ h i x q r. inl (record { time = refl; moves = refl; rounds = one_less u.rounds (eqb-false u.rounds 0 r) }))
    (λ h i x r e. let m = settle_going p (after_both p g u) e in inr (record { time = m.later; moves = m.moves; rounds = m.rounds }))
  where
    one_less : (n : ℕ) → (n ≡ 0 → ⊥) → n - 1 + 1 ≡ n
    one_less n h = omega arith

-- ---- between steps
pub record Passed (p : Plan) (g : Given) (s u : RunState) : Type 0 where
  pub moved : ℕ
  pub turned : ℕ
  pub went : Went p g s u moved turned
  pub moves_left : u.moves + moved ≡ s.moves
  pub rounds_left : u.rounds + turned ≡ p.rounds

pub reached_passed : {p : Plan} {g : Given} {s u : RunState} → s.rounds ≡ p.rounds → Reached p g s u → Passed p g s u
reached_passed {s = s} e reached.start = record { moved = 0; turned = 0; went = start; moves_left = omega arith; rounds_left = omega (arith, e) }
reached_passed {p} {g} {s} e (reached.next {u = u} r go) =
    let q = reached_passed e r in
    let m = q.moves_left in
    let n = q.rounds_left in
    ⊎_elim (λ o. let a = o.moves in let b = o.rounds in record { moved = q.moved; turned = q.turned + 1; went = round q.went go o.time; moves_left = omega (arith, a, m); rounds_left = omega (arith, b, n) })
    (λ o. let a = o.moves in let b = o.rounds in record { moved = q.moved + 1; turned = 0; went = move q.went go o.time; moves_left = omega (arith, a, m); rounds_left = omega (arith, b) }) (step_goes p g u go)
