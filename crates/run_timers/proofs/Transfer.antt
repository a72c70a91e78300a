-- A run of `run_transfer` that ended is completed, or met a ceiling.
use Rattle.std.specs.Prelude.{Ok}
use native.Mathlib.Nat.{le_trans}
use mathlib.Core.Path.{◌≡◌}
use mathlib.Core.Bool.{true}
use mathlib.Core.Logic.{◌⊎◌, inl, inr, ⊎_elim}
use Rattle.octets.specs.Octets.{Octets}
use Rattle.path.specs.Rolls.{Doubles}
use Rattle.clock.specs.Estimator.{Factors}
use Rattle.setup.specs.Setup.{CanStart}
use Rattle.setup.specs.declared.TransferConfig.{TransferConfig}
use Rattle.completion.specs.Flips.{FlipsOutside}
use Rattle.step.specs.State.{Given, Lent}
use Rattle.step.specs.Settle.{StepExit}
use Rattle.step.specs.declared.End.TheVariants.{Ended}
use Rattle.transfer.specs.Start.{plan_for, new_run, start_of}
use Rattle.transfer.specs.Run.{run}
use Rattle.transfer.specs.Transfer.{outcome_of, lent_of, run_transfer}
use Rattle.transfer.specs.declared.Ceilings.{Ceilings}
use Rattle.transfer.specs.declared.Outcome.{Outcome}
use Rattle.transfer_delivery.specs.Delivered.{file_chunks, events_at, Delivered}
use Rattle.transfer_delivery.proofs.Laws.{transfer_delivered}
use Rattle.run_ends.proofs.Laws.{by_outcome}
use Rattle.run_timers.specs.Timed.{RetriesSuffice}
use Rattle.run_timers.specs.Stopped.{CeilingMet}
use Rattle.run_timers.proofs.Run.{transfer_served}

-- Octets, Doubles and Factors say what the lent bytes and doubles are by their types
module _ (k : Ceilings) (c : TransferConfig) (g : Given) (l : Lent) (store : Octets l.sender_store) (file : Octets g.file) (forward : Doubles g.forward_rolls) (reverse : Doubles g.reverse_rolls) (factors : Factors c.rto) (retries : RetriesSuffice k c) where
  abbrev last : StepExit
  last = run (plan_for k c g) g (new_run k c l)

  abbrev Completes : Outcome → Lent → Type 0
  Completes o m = Delivered c g l o m → FlipsOutside c.channel g.forward_rolls (file_chunks c g) (events_at o m) → o.end ≡ Ended → (o.completed ≡ true) ⊎ CeilingMet k c g (new_run k c l) last

  completes : CanStart (start_of c g l) → Completes (outcome_of last) (lent_of last.state)
  completes h d flips e = ⊎_elim (λ all. inl (d.said (le_trans all (d.first flips).not_negative))) inr (transfer_served k c g l h forward reverse factors retries e)

  pub transfer_completes : (o : Outcome) → (run_transfer k c g l).answer ≡ Ok o → FlipsOutside c.channel g.forward_rolls (file_chunks c g) (events_at o (run_transfer k c g l).lent) → o.end ≡ Ended
      → (o.completed ≡ true) ⊎ CeilingMet k c g (new_run k c l) last
  transfer_completes o e = by_outcome k c g l Completes completes o e (transfer_delivered k c g l store file forward reverse factors o e)
