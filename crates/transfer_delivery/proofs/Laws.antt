-- Demand 3 of a run.
pub use Rattle.transfer_delivery.proofs.Transfer.{transfer_delivered}
