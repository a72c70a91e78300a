-- Demand 3 of `run_transfer`.
use Rattle.std.specs.Prelude.{Ok}
use native.Mathlib.Omega.{arith}
use mathlib.Core.Path.{◌≡◌, ap, ◌∙◌}
use mathlib.Core.Bool.{not}
use lib.ListN.{length, replicate}
use borrow.Author.Tests.{le-ltb}
use Rattle.rows.specs.Rows.{vacant}
use Rattle.octets.specs.Octets.{Octets}
use Rattle.path.specs.Rolls.{Doubles}
use Rattle.clock.specs.Estimator.{Factors}
use Rattle.session.specs.Sending.{slot_count}
use Rattle.setup.specs.Setup.{CanStart}
use Rattle.setup.specs.declared.TransferConfig.{TransferConfig}
use Rattle.completion.proofs.Laws.{Start, Begun, new_begun, new_sender_slots, new_receiver_slots, runs_start, runs_delivered, runs_completed}
use Rattle.prefixes.proofs.Laws.{prefixed_start, prefixed_written, prefixed_fill, prefixed_completed}
use Rattle.step.specs.State.{Given, Lent}
use Rattle.step.specs.Settle.{StepExit}
use Rattle.transfer.specs.Start.{plan_for, reverse_config, new_run, start_of}
use Rattle.transfer.specs.Run.{run}
use Rattle.transfer.specs.Transfer.{outcome_of, lent_of, run_transfer}
use Rattle.transfer.specs.declared.Ceilings.{Ceilings}
use Rattle.transfer.specs.declared.Outcome.{Outcome}
use Rattle.transfer.proofs.Laws.{reverse_no_faults, start_plan, start_good, sender_window, sender_store, start_completed_is, by_outcome}
use Rattle.transfer_delivery.specs.Delivered.{Delivered}
use Rattle.transfer_delivery.proofs.Steps.{At, run_keeps}
use Rattle.transfer_delivery.proofs.Holds.{begins, Holds, step_holds}

-- ---- at the start
module _ (k : Ceilings) (c : TransferConfig) (g : Given) (l : Lent) (h : CanStart (start_of c g l)) (store : Octets l.sender_store) (file : Octets g.file) where
  abbrev ends : Start
  ends = begins c.protocol (slot_count c.protocol c.window_size) k.retries l.sender_store l.receiver_store l.output c.chunk_size g.file

  begun : Begun ends
  begun =
      let n = h.chunk_some in
      new_begun c.protocol c.window_size k.retries l.sender_store l.receiver_store l.output c.chunk_size g.file (sender_window k c g l h) (sender_store k c g l h) h.receiver_room store (omega (arith, n)) file

  start_holds : At (Holds ends c.channel g.forward_rolls) (new_run k c l)
  unfolding new_run
  start_holds =
      let p = c.protocol in
      let w = c.window_size in
      let r = runs_start begun c.channel (reverse_config c.channel) g.forward_rolls l.forward_records l.reverse_records l.forward_places l.reverse_places (replicate (length l.events) vacant) (reverse_no_faults c.channel) in
      let q = prefixed_start begun c.channel l.forward_records l.forward_places in
      record {
        runs = rw (← new_sender_slots p w k.retries l.sender_store, ← new_receiver_slots p w l.receiver_store) r;
        prefixed = rw (← new_sender_slots p w k.retries l.sender_store, ← new_receiver_slots p w l.receiver_store) q;
        completed = start_completed_is k c g l h;
      }

  module _ (forward : Doubles g.forward_rolls) (reverse : Doubles g.reverse_rolls) (factors : Factors c.rto) where
    abbrev last : StepExit
    last = run (plan_for k c g) g (new_run k c l)

    run_holds : At (Holds ends c.channel g.forward_rolls) last.state
    run_holds =
        let plan = start_plan k c g l h in
        run_keeps (Holds ends c.channel g.forward_rolls) (plan_for k c g) g plan
        (λ u good q. step_holds c.protocol (slot_count c.protocol c.window_size) k.retries l.sender_store l.receiver_store l.output c.channel (plan_for k c g) g plan u good q) (new_run k c l)
        (start_good k c g l h forward reverse factors) start_holds

    run_delivered : Delivered c g l (outcome_of last) (lent_of last.state)
    run_delivered =
        let q = run_holds in
        record {
          first = λ flips. runs_delivered q.runs flips;
          whole = λ flips done. runs_completed last.state.arrivals.inbound q.runs flips q.completed done;
          fill = prefixed_fill q.prefixed;
          prefixes = prefixed_written q.prefixed;
          said = λ all. q.completed ∙ ap not (le-ltb _ _ all);
          same_length = λ done e. prefixed_completed last.state.arrivals.inbound q.prefixed q.completed done e;
        }

-- ---- of every call that isn't refused. Octets, Doubles and Factors say what the lent bytes and doubles are by their types.
module _ (k : Ceilings) (c : TransferConfig) (g : Given) (l : Lent) where
  pub transfer_delivered : Octets l.sender_store → Octets g.file → Doubles g.forward_rolls → Doubles g.reverse_rolls → Factors c.rto → (o : Outcome) → (run_transfer k c g l).answer ≡ Ok o
      → Delivered c g l o (run_transfer k c g l).lent
  transfer_delivered store file forward reverse factors = by_outcome k c g l (Delivered c g l) (λ h. run_delivered k c g l h store file forward reverse factors)
