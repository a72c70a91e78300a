-- What crates above may cite of a run.
pub use Rattle.transfer.proofs.Steps.{step_falls}
pub use Rattle.transfer.proofs.Runs.{not_over, steps_fall, steps_enough, run_over, run_ends, run_goes, run_steps}
unfoldable pub use Rattle.transfer.proofs.Runs.{steps_from, is_going_on}
pub use Rattle.transfer.proofs.Starts.{reverse_no_faults, start_can_make, start_plan, sender_store, sender_window, start_completed_is, start_good, can_start, transfer_refused, transfer_runs}
-- from a run's end to the answer
pub use Rattle.transfer.proofs.Outcomes.{accepted_is, outcome_starts, by_outcome}
