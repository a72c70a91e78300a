-- app/transfer.rs, `run_transfer`: the finishing time. It is the moment of the step that delivered the last chunk; of a
-- run that stopped uncompleted, now. Of one that ended so: `EndedSo` (Ended.antt).
use Rattle.std.specs.Prelude.{ℕ, ◌≤◌, ◌<◌, ◌≡◌, true, false}
use Rattle.session.specs.Receiving.{base}
use Rattle.receiving.specs.declared.ReceivingSide.{ReceivingSide}
use Rattle.setup.specs.declared.TransferConfig.{TransferConfig}
use Rattle.step.specs.State.{Given, RunState, Lent}
use Rattle.step.specs.Settle.{StepExit}
use Rattle.step.specs.Step.{step}
use Rattle.step.specs.declared.Plan.{Plan}
use Rattle.step.specs.declared.End.TheVariants.{Ended}
use Rattle.transfer.specs.Start.{plan_for, new_run}
use Rattle.transfer.specs.Transfer.{end_of, finished_at}
use Rattle.transfer.specs.declared.Ceilings.{Ceilings}
use Rattle.transfer.specs.declared.Outcome.{Outcome}
use Rattle.edition_clock.specs.AlongARun.{Reached}

abbrev pub side_of : RunState → ReceivingSide
side_of s = s.arrivals.inbound.side

abbrev pub delivered_by : RunState → ℕ
delivered_by s = base (side_of s).receiver

-- a step at this time, of a run from s, delivered the last chunk
pub record CompletedIn (p : Plan) (g : Given) (s : RunState) (time : ℕ) : Type 0 where
  pub before : RunState
  pub reached : Reached p g s before
  pub moment : before.time ≡ time
  pub missing : delivered_by before < p.total_chunks
  pub all : p.total_chunks ≤ delivered_by (step p g before).state

-- of a run from s that ended so
pub record Finishes (p : Plan) (g : Given) (s : RunState) (x : StepExit) : Type 0 where
  pub in_time : finished_at x.course ≤ p.max_virtual_time
  pub completed : (side_of x.state).completed ≡ true → CompletedIn p g s (finished_at x.course)
  pub stopped : (side_of x.state).completed ≡ false → (end_of x.course ≡ Ended → ⊥)
      → finished_at x.course ≡ x.state.time

-- of a call that wasn't refused
pub record FinishedSo (k : Ceilings) (c : TransferConfig) (g : Given) (l : Lent) (o : Outcome) : Type 0 where
  pub in_time : o.finished_at ≤ c.max_virtual_time
  pub completed : o.completed ≡ true → CompletedIn (plan_for k c g) g (new_run k c l) o.finished_at
