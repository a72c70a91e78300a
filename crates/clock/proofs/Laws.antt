-- What crates above may cite of the clock.
pub use Rattle.clock.proofs.Keeps.{arm_oldest_held, on_send_held, on_ack_held, held_lengths, submit_held, submit_window, Good, can_rearm, can_arm, submit_good, cancel_number_good, ack_good, cancel_good, new_good, cancel_number_keys, ack_keys, submit_keys, new_keys}
pub use Rattle.clock.proofs.Deadlines.{arm_oldest_deadline, running, submit_entries, cancel_number_entries, ack_entries, submit_single_entries, submit_edition_entries, ack_single_entries, ack_edition_entries, numbers_due_lem, no_numbers_due, next_deadline_held}
pub use Rattle.clock.proofs.Timers.{timers_none, new_timers, new_sender_timers, timers_within, timers_free, timers_can_arm, timers_after, arm_timers, cancel_number_after, cancel_number_timers, rearm_timers, cancel_timers}
pub use Rattle.clock.proofs.Sampling.{sample_rtt_metas, sample_rtt_cases, sample_rtt_good, Counted, sample_rtt_counts}
pub use Rattle.clock.proofs.Estimators.{back_off_counts, estimator_rto, fresh_estimator, estimator_more, can_back_off, backed_off, can_sample, sampled_good, rto_within, sampled_timely, sampled_scheduled, sampled_length}
pub use Rattle.clock.proofs.Rfc6298.{rfc_5_1, rfc_5_1_running, rfc_5_3, departs_5_2, single_5_2, expiry_due, expiry_idle, not_due, stopped, rfc_5_6, rfc_5_6_timer}
