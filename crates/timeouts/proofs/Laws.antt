-- What crates above may cite of the timers that run out.
pub use Rattle.timeouts.proofs.Single.{timed_out_by, timed_out_turns, sender_unbroken, backed_off_estimator, can_resend_all, FireKeeps, timed_out_keeps, timed_out_good, stopped_good, fire_single_good, fire_single_keeps}
pub use Rattle.timeouts.proofs.Fresh.{no_resends, new_can_fire}
pub use Rattle.timeouts.proofs.Numbers.{marked_again, cancelled, resent_number, fire_not_due, fire_due, fire_exhausted, cancelled_good, by_cases, by_timers, above_kept, fire_number_good, fire_number_keeps, fire_number_due, fire_number_timers}
pub use Rattle.timeouts.proofs.NumbersTurns.{numbers_none, numbers_exhausted, numbers_going, numbers_stopped, exhausted_good, numbers_keep, fire_numbers_good, fire_numbers_timers}
pub use Rattle.timeouts.proofs.SingleTimers.{numbers_timing, single_timing, timers_met, timers_due_lem, timers_by, fire_keeps_again, exhausted_keeps, good_keeps, fire_numbers_keeps, fire_timers_keeps, fire_timers_good, fire_timers_idle, fire_single_running, fire_timers_timers}
pub use Rattle.timeouts.proofs.NotDue.{timers_not_due}
