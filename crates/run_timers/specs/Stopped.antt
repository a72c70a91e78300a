-- app/transfer.rs, `run_transfer`: a run that ended as the source's does has every chunk acknowledged, or it met a
-- ceiling. It never waits for nothing.
use Rattle.std.specs.Prelude.{ℕ, ◌+◌, ◌-◌, ◌≤◌, ◌<◌, ◌≡◌, true}
use Rattle.step.specs.State.{Given, RunState, exhausted}
use Rattle.step.specs.Settle.{StepExit}
use Rattle.step.specs.Step.{step}
use Rattle.step.specs.declared.Plan.{Plan}
use Rattle.step.specs.declared.Course.TheVariants.{Going}
use Rattle.setup.specs.declared.TransferConfig.{TransferConfig}
use Rattle.transfer.specs.Start.{plan_for}
use Rattle.transfer.specs.declared.Ceilings.{Ceilings}
use Rattle.run_ends.specs.Ended.{PastLimit}
use Rattle.run_timers.specs.Timed.{window_in, largest_rto}

-- a run from s came to u by so many moves in time, and so many rounds at the moment it is at
pub data Went (p : Plan) (g : Given) (s : RunState) : RunState → ℕ → ℕ → Type 0 where
  start : Went p g s s 0 0
  round : {u : RunState} {moves rounds : ℕ} → Went p g s u moves rounds → (step p g u).course ≡ Going
      → (step p g u).state.time ≡ u.time → Went p g s (step p g u).state moves (rounds + 1)
  move : {u : RunState} {moves rounds : ℕ} → Went p g s u moves rounds → (step p g u).course ≡ Going
      → u.time < (step p g u).state.time → Went p g s (step p g u).state (moves + 1) 0

-- Of a run from s whose last step left x: as many packets sent again as may be; the next time past the limit, and the
-- last one no more than the largest RTO before it; all rounds at its moment made before it, and nothing done in it; all
-- moments made before it (the first takes no move), and it moved once more.
pub data CeilingMet (k : Ceilings) (c : TransferConfig) (g : Given) (s : RunState) (x : StepExit) : Type 0 where
  resends_met : x.state.resends.exhausted ≡ true → c.max_retransmissions ≤ x.state.resends.retx_submitted
      → CeilingMet k c g s x
  limit_met : PastLimit (plan_for k c g) x.state → c.max_virtual_time < x.state.time + largest_rto c.rto
      → CeilingMet k c g s x
  rounds_met : {u : RunState} {moves : ℕ} → Went (plan_for k c g) g s u moves k.rounds
      → x ≡ step (plan_for k c g) g u → x.state ≡ exhausted u → CeilingMet k c g s x
  moments_met : {u : RunState} {rounds : ℕ} → Went (plan_for k c g) g s u (k.steps - 1) rounds
      → x ≡ step (plan_for k c g) g u → u.time < x.state.time → CeilingMet k c g s x

-- the sender's base is past the last chunk
abbrev pub AllAcknowledged : Plan → RunState → Type 0
AllAcknowledged p s = p.total_chunks ≤ (window_in s).send_base
