-- app/transfer.rs, `run_transfer`: steps until a run is over.
use Rattle.std.specs.Prelude.{ℕ, zero, suc, ◌+◌, ◌*◌, Bool, true, false, cond, List}
use Rattle.step.specs.State.{Given, chunks_for, RunState}
use Rattle.step.specs.Settle.{StepExit, step_exit}
use Rattle.step.specs.Step.{step_for}
use Rattle.step.specs.declared.Plan.{Plan}
use Rattle.step.specs.declared.Course.{Course}
use Rattle.step.specs.declared.Course.TheVariants.{Going, Over}

abbrev pub is_over : Course → Bool
is_over Going = false
is_over (Over e time) = true

-- of any list of chunks
unfoldable pub run_at_most_for : List (List ℕ) → ℕ → Plan → Given → RunState → StepExit
run_at_most_for chunks zero p g s = step_exit s Going
run_at_most_for chunks (suc n) p g s =
    let x = step_for chunks p g s in
    cond (is_over x.course) x (run_at_most_for chunks n p g x.state)

-- a step is a round less, or a move less with all rounds again; the step without a round left ends the run
abbrev pub steps_left : Plan → RunState → ℕ
steps_left p s = s.moves * (p.rounds + 1) + s.rounds

unfoldable pub run_for : List (List ℕ) → Plan → Given → RunState → StepExit
run_for chunks p g s = run_at_most_for chunks (suc (steps_left p s)) p g s

-- of the file's
abbrev pub run_at_most : ℕ → Plan → Given → RunState → StepExit
run_at_most n p g s = run_at_most_for (chunks_for p g) n p g s

abbrev pub run : Plan → Given → RunState → StepExit
run p g s = run_for (chunks_for p g) p g s
