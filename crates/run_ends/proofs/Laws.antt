-- What crates above may cite of a run's end.
pub use Rattle.run_ends.proofs.Unique.{end_unique}
pub use Rattle.run_ends.proofs.Transfer.{accepted_is, outcome_starts, never_refused, by_outcome, transfer_ends, transfer_ends_only}
pub use Rattle.run_ends.proofs.Start.{no_chunks, no_resends, start_nothing}
pub use Rattle.run_ends.proofs.Finish.{run_finishes, transfer_finishes, outcome_finishes}
pub use Rattle.run_ends.proofs.Ended.{transfer_sends, transfer_ended_why}
