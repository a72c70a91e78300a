-- A run for a host is done exactly where it can run, and then it is the run of `run_transfer`; where only the places of
-- the outcome are too short it is a 5.
use Rattle.std.specs.Prelude.{Err, Ok, Result}
use Prim.Native.Nat.{ℕ}
use mathlib.Core.Path.{◌≡◌, refl, ap, ◌∙◌}
use mathlib.Core.Bool.{Bool, true, false, cond}
use mathlib.Core.List.{List}
use native.Mathlib.Omega.{arith}
use lib.Ieee.{Float}
use Rattle.refusal.specs.declared.Refusal.{Refusal}
use Rattle.refusal.specs.declared.Refusal.TheVariants.{Full}
use Rattle.refusal.specs.Order.{verdict}
use Rattle.refusal.proofs.Laws.{on_accepted, either_answer}
use Rattle.setup.specs.Setup.{CanStart, start_checks}
use Rattle.setup.proofs.Laws.{start_accepts}
use Rattle.setup.specs.declared.TransferConfig.{TransferConfig}
use Rattle.step.specs.State.{Given, Lent}
use Rattle.transfer.specs.Start.{start_of}
use Rattle.transfer.specs.Transfer.{default_ceilings, RunExit, run_exit, run_transfer}
use Rattle.transfer.specs.declared.Outcome.{Outcome}
use Rattle.transfer.proofs.Laws.{accepted_is, outcome_starts}
use Rattle.host_answer.specs.Answer.{done_status, status_in, refusal_answer, Refusing}
use Rattle.host_answer.proofs.Laws.{status_back, refusal_refusing}
use Rattle.host_run.specs.Setup.{read_setup}
use Rattle.host_run.specs.Layout.{SetupAt}
use Rattle.host_run.specs.Run.{Results, host_run_exit, results_short, ended, ended_as, short_answer, run_with, run_read, run}
use Rattle.host_run.specs.Made.{CanRun, RunMade, IsDone}
use Rattle.host_run.proofs.Fields.{setup_held, held_read, outcome_words}

not_done : {n : ℕ} → Refusing n → status_in n ≡ done_status → ⊥
not_done h e = let from = h.from in omega arith

short_refusing : (c : TransferConfig) (g : Given) (l : Lent) → Refusing (short_answer c g l)
unfolding short_answer
short_refusing c g l = either_answer Refusing (verdict (start_checks (start_of c g l))) refusal_answer (refusal_answer Full) refusal_refusing (λ e. refusal_refusing Full)

module _ (s : List ℕ) (d : List Float) (g : Given) (l : Lent) (x : Results) where
  -- ---- what a done call is
  ended_made : (c : TransferConfig) → SetupAt c s d → results_short x ≡ false → (a : Result Outcome Refusal) (m : Lent) → run_transfer default_ceilings c g l ≡ run_exit a m
      → IsDone (ended a m x) → RunMade s d g l x (ended a m x)
  unfolding ended
  ended_made c setup room (Ok o) m e h =
      record {
        config = c;
        can_run = record { setup = setup; start = outcome_starts default_ceilings c g l (ap (λ (z : RunExit). z.answer) e); room = room };
        outcome = o;
        ran = e;
        answer = refl;
        words = outcome_words o x.words;
        estimator = refl;
        doubles = refl;
      }
  ended_made c setup room (Err r) m e h = absurd (not_done (refusal_refusing r) h)

  with_made : (c : TransferConfig) → SetupAt c s d → (b : Bool) → results_short x ≡ b
      → (let y = cond b (host_run_exit (short_answer c g l) l x) (ended_as x (run_transfer default_ceilings c g l)) in IsDone y → RunMade s d g l x y)
  with_made c setup true e h = absurd (not_done (short_refusing c g l) h)
  with_made c setup false e h = let z = run_transfer default_ceilings c g l in ended_made c setup e z.answer z.lent refl h

  read_made : (r : Result TransferConfig Refusal) → read_setup s d ≡ r → IsDone (run_read r g l x) → RunMade s d g l x (run_read r g l x)
  unfolding run_read run_with
  read_made (Ok c) e h = with_made c (setup_held s d e) (results_short x) refl h
  read_made (Err r) e h = absurd (not_done (refusal_refusing r) h)

  pub run_made : IsDone (run s d g l x) → RunMade s d g l x (run s d g l x)
  run_made = read_made (read_setup s d) refl

  -- ---- what any other is
  ended_else : (a : Result Outcome Refusal) (m : Lent) → (IsDone (ended a m x) → ⊥) → Refusing (ended a m x).answer
  unfolding ended
  ended_else (Ok o) m h = absurd (h (status_back 0 _ (omega arith)))
  ended_else (Err r) m h = refusal_refusing r

  with_else : (c : TransferConfig) (b : Bool) → (let y = cond b (host_run_exit (short_answer c g l) l x) (ended_as x (run_transfer default_ceilings c g l)) in (IsDone y → ⊥) → Refusing y.answer)
  with_else c true h = short_refusing c g l
  with_else c false h = let z = run_transfer default_ceilings c g l in ended_else z.answer z.lent h

  read_else : (r : Result TransferConfig Refusal) → (IsDone (run_read r g l x) → ⊥) → Refusing (run_read r g l x).answer
  unfolding run_read run_with
  read_else (Ok c) h = with_else c (results_short x) h
  read_else (Err r) h = refusal_refusing r

  pub run_else_refused : (IsDone (run s d g l x) → ⊥) → Refusing (run s d g l x).answer
  run_else_refused = read_else (read_setup s d)

  -- ---- where a call is done
  module _ {c : TransferConfig} (setup : SetupAt c s d) where
    with_setup : run s d g l x ≡ run_with c g l x
    unfolding run_read
    with_setup = rw (held_read setup)

    pub run_with_room : results_short x ≡ false → run s d g l x ≡ ended_as x (run_transfer default_ceilings c g l)
    unfolding run_with
    run_with_room room = with_setup ∙ rw room

    -- the places of the outcome too short, and nothing else wrong
    pub run_short : CanStart (start_of c g l) → results_short x ≡ true → run s d g l x ≡ host_run_exit (refusal_answer Full) l x
    unfolding run_with short_answer
    run_short start short = with_setup ∙ rw (short, on_accepted refusal_answer (refusal_answer Full) (start_accepts (start_of c g l) start))

  done_ended : (c : TransferConfig) → CanStart (start_of c g l) → IsDone (ended_as x (run_transfer default_ceilings c g l))
  unfolding ended
  done_ended c start = rw (accepted_is default_ceilings c g l start) (status_back 0 _ (omega arith))

  pub run_done : {c : TransferConfig} → CanRun c s d g l x → IsDone (run s d g l x)
  run_done {c} h = rw (run_with_room h.setup h.room) (done_ended c h.start)
