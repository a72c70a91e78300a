-- A call of a run for a host that is done: the setup that was read, the run that `run_transfer` makes of it, and where
-- its outcome stands.
use Rattle.std.specs.Prelude.{ℕ, ◌≡◌, false, cond, List, Float, Ok}
use Rattle.setup.specs.Setup.{CanStart}
use Rattle.setup.specs.declared.TransferConfig.{TransferConfig}
use Rattle.step.specs.State.{Given, Lent}
use Rattle.transfer.specs.Start.{start_of}
use Rattle.transfer.specs.Transfer.{default_ceilings, run_exit, run_transfer}
use Rattle.transfer.specs.declared.Outcome.{Outcome}
use Rattle.host_answer.specs.Answer.{packed, done_status, status_in}
use Rattle.host_estimator.specs.Words.{with_words, with_doubles}
use Rattle.host_run.specs.Layout.{SetupAt, OutcomeAt}
use Rattle.host_run.specs.Run.{Results, HostRunExit, results_short}

-- what a call must bring: a setup in numbers and doubles with which a run can start, and places for the outcome
pub record CanRun (c : TransferConfig) (s : List ℕ) (d : List Float) (g : Given) (l : Lent) (x : Results) : Type 0 where
  pub setup : SetupAt c s d
  pub start : CanStart (start_of c g l)
  pub room : results_short x ≡ false

-- what it leaves
pub record RunMade (s : List ℕ) (d : List Float) (g : Given) (l : Lent) (x : Results) (y : HostRunExit) : Type 0 where
  pub config : TransferConfig
  pub can_run : CanRun config s d g l x
  pub outcome : Outcome
  pub ran : run_transfer default_ceilings config g l ≡ run_exit (Ok outcome) y.lent
  pub answer : y.answer ≡ packed done_status (cond outcome.completed 1 0)
  pub words : OutcomeAt outcome x.words y.results.words
  pub estimator : y.results.estimator ≡ with_words x.estimator outcome.estimator
  pub doubles : y.results.doubles ≡ with_doubles x.doubles outcome.estimator

abbrev pub IsDone : HostRunExit → Type 0
IsDone y = status_in y.answer ≡ done_status
