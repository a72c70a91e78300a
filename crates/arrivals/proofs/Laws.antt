-- What crates above may cite of the arrivals.
pub use Rattle.arrivals.proofs.Serving.{served, can_serve_reverse, arrivals_stop, arrivals_both}
pub use Rattle.arrivals.proofs.Keeps.{ArrivalKeeps, between, replied, either_exit, arrivals_keep, arrivals_timers}
