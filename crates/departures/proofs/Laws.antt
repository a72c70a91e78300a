-- What crates above may cite of the departures.
pub use Rattle.departures.proofs.Orders.{fire_timers_orders}
pub use Rattle.departures.proofs.Sending.{fired, fired_good, can_pump_lem, timers_alone, timers_and_chunks}
pub use Rattle.departures.proofs.Keeps.{Departs, send_due_departs}
