-- What crates above may cite of a submission.
pub use Rattle.submission.proofs.Metas.{before_first, before_again, before_length, before_timely, before_scheduled, before_first_count, before_again_notes, after_first, after_again, after_notes, after_length, after_timely, after_scheduled}
pub use Rattle.submission.proofs.Calls.{can_carry, can_arm}
pub use Rattle.submission.proofs.Answers.{noted, metas_of, event_made, submitted, FitsLine, submit_spent, submit_no_entry, submit_full, submit_carried, by_submit, by_outgoing, submit_stop, submit_fits, submit_goes, submit_going, submit_stopped, submit_forward}
pub use Rattle.submission.proofs.Keeps.{SubmitKeeps, new_good, submit_first_count, submit_again_notes, submit_written, submit_used, submit_orders, going_written, going_used, going_events, stopped_events, armed, submit_good, submit_keeps, submit_each}
pub use Rattle.submission.proofs.Timers.{can_submit, submit_rto, number_running, number_lookup, single_running, edition_running, submit_within, submit_timers}
