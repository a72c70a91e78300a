-- What crates above may cite of the sizes of a run.
pub use Rattle.sizes.proofs.Steps.{Sized, step_fine, run_ended}
pub use Rattle.sizes.proofs.Transfer.{sizes_ended}
