-- What crates above may cite of lent events.
pub use Rattle.lent_events.proofs.Rows.{accepted_count, accepted_rows}
