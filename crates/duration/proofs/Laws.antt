-- What crates above may cite.
pub use Rattle.duration.proofs.Bounds.{start_in_time, deadline_within, start_late_within}
pub use Rattle.duration.proofs.RoundTrip.{round_trip, nanos_units, closest_is}
pub use Rattle.duration.proofs.Nearest.{not_above, not_below, tie_even}
