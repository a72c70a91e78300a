-- A run for a host: `run_transfer` with the setup that numbers and doubles hold; what it ends with goes to lent words,
-- the estimator to words and doubles of its own. A 5 for these comes with the run's own checks, after 9, 11 and 4; a
-- refused run writes nothing.
use Rattle.std.specs.Prelude.{ℕ, List, [], ◌∷◌, Bool, cond, length, ltb, Float, Err, Ok, Result}
use Rattle.refusal.specs.Clauses.{any_of}
use Rattle.refusal.specs.declared.Refusal.{Refusal}
use Rattle.refusal.specs.declared.Refusal.TheVariants.{Full}
use Rattle.refusal.specs.Order.{verdict, decide}
use Rattle.setup.specs.Setup.{start_checks}
use Rattle.setup.specs.declared.TransferConfig.{TransferConfig}
use Rattle.step.specs.State.{Given, Lent}
use Rattle.transfer.specs.Start.{start_of}
use Rattle.transfer.specs.Transfer.{default_ceilings, RunExit, run_transfer}
use Rattle.transfer.specs.declared.Outcome.{Outcome}
use Rattle.host_answer.specs.Answer.{packed, done_status, refusal_answer}
use Rattle.host_estimator.specs.Words.{estimator_words, estimator_doubles, with_words, with_doubles}
use Rattle.host_run.specs.Setup.{read_setup}
use Rattle.host_run.specs.Outcome.{outcome_words, with_outcome}

-- what the outcome is written to
pub record Results : Type 0 where
  pub words : List ℕ
  pub estimator : List ℕ
  pub doubles : List Float

abbrev pub results : List ℕ → List ℕ → List Float → Results
results words estimator doubles = record { words = words; estimator = estimator; doubles = doubles }

abbrev pub with_results : Results → Outcome → Results
with_results x o =
    let e = o.estimator in
    results (with_outcome x.words o) (with_words x.estimator e) (with_doubles x.doubles e)

unfoldable pub results_short : Results → Bool
results_short x =
    any_of
    (ltb (length x.words) outcome_words
    ∷ ltb (length x.estimator) estimator_words
    ∷ ltb (length x.doubles) estimator_doubles
    ∷ [])

-- the answer, and all that was lent to be written when the call returns
pub record HostRunExit : Type 0 where
  pub answer : ℕ
  pub lent : Lent
  pub results : Results

abbrev pub host_run_exit : ℕ → Lent → Results → HostRunExit
host_run_exit answer l x = record { answer = answer; lent = l; results = x }

-- done: 1 where the run completed, else 0
unfoldable pub ended : Result Outcome Refusal → Lent → Results → HostRunExit
ended (Ok o) l x = host_run_exit (packed done_status (cond o.completed 1 0)) l (with_results x o)
ended (Err r) l x = host_run_exit (refusal_answer r) l x

abbrev pub ended_as : Results → RunExit → HostRunExit
ended_as x y = ended y.answer y.lent x

-- words too few for the outcome: the run's own refusal, else 5
unfoldable pub short_answer : TransferConfig → Given → Lent → ℕ
short_answer c g l = decide (verdict (start_checks (start_of c g l))) refusal_answer (refusal_answer Full)

unfoldable pub run_with : TransferConfig → Given → Lent → Results → HostRunExit
run_with c g l x =
    cond (results_short x) (host_run_exit (short_answer c g l) l x) (ended_as x (run_transfer default_ceilings c g l))

unfoldable pub run_read : Result TransferConfig Refusal → Given → Lent → Results → HostRunExit
run_read (Ok c) g l x = run_with c g l x
run_read (Err r) g l x = host_run_exit (refusal_answer r) l x

abbrev pub run : List ℕ → List Float → Given → Lent → Results → HostRunExit
run numbers doubles g l x = run_read (read_setup numbers doubles) g l x
