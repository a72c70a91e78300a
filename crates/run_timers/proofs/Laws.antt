-- What crates above may cite of a run's timers.
pub use Rattle.run_timers.proofs.Run.{transfer_timed, transfer_again, transfer_served, default_suffices}
pub use Rattle.run_timers.proofs.Transfer.{transfer_completes}
pub use Rattle.run_timers.proofs.Again.{again_only_due}
