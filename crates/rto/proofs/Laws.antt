-- What crates above may cite of the estimator.
pub use Rattle.rto.proofs.Keeps.{Doubles, Good, fresh_good, accept_good, reject_good, backoff_good, reset_good, estimate_range, limited_max, limited_min}
pub use Rattle.rto.proofs.History.{update_accepted, timeout_accepted, reset_accepted, after_calls_lem, after_good, refused_are, limit_reached, mean_is}
pub use Rattle.rto.proofs.Rfc6298.{RfcFactors, default_factors, default_initial, Holds, first_sample, next_sample, first_srtt, first_half, Limits, rto_limits, rto_initial, karn}
pub use Rattle.rto.proofs.KnownValues.{limits, holding, r1, r1_minimum, r1_call, r1_answer, r2, r2_call, reset_to_initial, default_in_bounds, default_doubles, default_karn, default_first, default_next}
