-- A refused run changes nothing: where the status of its answer is 1 to 11, all that was lent is as it was. A 5 for the
-- words of the outcome has its place among the checks of a start.
use Rattle.std.specs.Prelude.{Err, Ok, Result}
use Prim.Native.Nat.{ℕ}
use mathlib.Core.Path.{◌≡◌, refl}
use mathlib.Core.Bool.{Bool, true, false, cond}
use mathlib.Core.List.{List, [], ◌∷◌}
use lib.Ieee.{Float}
use Rattle.refusal.specs.declared.Refusal.TheVariants.{State, Roll, Setup, Full}
use Rattle.refusal.specs.Order.{check, order, or_else, numbered, first_of, verdict, decide}
use Rattle.refusal.proofs.Laws.{either_answer}
use Rattle.setup.specs.Setup.{start_state, start_rolls, start_setup, start_room, start_checks}
use Rattle.setup.specs.declared.TransferConfig.{TransferConfig}
use Rattle.step.specs.State.{Given, Lent}
use Rattle.transfer.specs.Start.{start_of, plan_for, new_run}
use Rattle.transfer.specs.Run as transferRun
use Rattle.transfer.specs.Transfer as transfer
use Rattle.transfer.specs.Transfer.{default_ceilings, RunExit, run_exit, run_transfer}
use Rattle.host_answer.specs.Answer.{refusal_answer, Refusing}
use Rattle.host_answer.proofs.Laws.{done_not_refusing}
use Rattle.host_run.specs.Setup.{read_setup}
use Rattle.host_run.specs.Run.{Results, HostRunExit, host_run_exit, ended, ended_as, short_answer, results_short, run_with, run_read, run}
use Rattle.refusal.specs.declared.Refusal.{Refusal}

module _ (g : Given) (l : Lent) (x : Results) where
  abbrev Same : HostRunExit → Type 0
  Same y = Refusing y.answer → y ≡ host_run_exit y.answer l x

  ended_same : (c : TransferConfig) → Same (ended_as x (run_transfer default_ceilings c g l))
  unfolding run_transfer ended
  ended_same c =
      either_answer (λ (y : RunExit). Same (ended_as x y)) (verdict (start_checks (start_of c g l))) (λ r. run_exit (Err r) l)
      (transfer.ended (transferRun.run (plan_for default_ceilings c g) g (new_run default_ceilings c l))) (λ r h. refl) (λ v h. absurd (done_not_refusing _ h))

  with_cases : (c : TransferConfig) (b : Bool) → Same (cond b (host_run_exit (short_answer c g l) l x) (ended_as x (run_transfer default_ceilings c g l)))
  with_cases c true h = refl
  with_cases c false h = ended_same c h

  with_same : (c : TransferConfig) → Same (run_with c g l x)
  unfolding run_with
  with_same c = with_cases c (results_short x)

  read_same : (s : Result TransferConfig Refusal) → Same (run_read s g l x)
  unfolding run_read
  read_same (Ok c) h = with_same c h
  read_same (Err r) h = refl

  pub run_refused : (numbers : List ℕ) (doubles : List Float) → Same (run numbers doubles g l x)
  run_refused numbers doubles = read_same (read_setup numbers doubles)

full_added : (a b c d : Bool) (n : ℕ) → decide (verdict (check a State ∷ check b Roll ∷ check c Setup ∷ check d Full ∷ [])) refusal_answer (refusal_answer Full)
    ≡ decide (verdict (check true Full ∷ check a State ∷ check b Roll ∷ check c Setup ∷ check d Full ∷ [])) refusal_answer n
unfolding decide verdict first_of numbered or_else order
full_added true b c d n = refl
full_added false true c d n = refl
full_added false false true d n = refl
full_added false false false true n = refl
full_added false false false false n = refl

-- words too few: the first in document 01's order of the run's checks and this 5
pub short_in_order : (c : TransferConfig) (g : Given) (l : Lent) (n : ℕ) → short_answer c g l ≡ decide (verdict (check true Full ∷ start_checks (start_of c g l))) refusal_answer n
unfolding short_answer
short_in_order c g l n = let s = start_of c g l in full_added (start_state s) (start_rolls s) (start_setup s) (start_room s) n
