-- What crates above may cite of the timer set.
pub use Rattle.multi_timer.proofs.Map.{lookup_put, lookup_remove, lookup_pop, keep_ascending, put_ascending, due_taken, expired_popped, earliest_min, min_unique, entries_of_both, replaced_front, replaced_used, replaced_length, holding_accepted, keep_in_time, put_in_time}
pub use Rattle.multi_timer.proofs.Changes.{used_length, used_ascending, used_deadlines}
pub use Rattle.multi_timer.proofs.Calls.{new_accepted, start_accepted, cancel_accepted, expired_accepted, pop_accepted, earliest_accepted, clear_accepted}
pub use Rattle.multi_timer.proofs.Held.{Holds, InTime, start_too_late_within, read_too_late_within, used_times, start_fits, start_holds, cancel_holds, pop_holds, clear_holds, new_holds, start_times, cancel_times, pop_times}
pub use Rattle.multi_timer.proofs.Window.{Within, within_none, within_moved, within_put, within_remove, within_pop, within_length, start_full_within}
pub use Rattle.multi_timer.proofs.DueKeys.{due_from_put, due_from_remove, due_from_all, due_from_next, due_after_put, due_after_remove, due_from_first, next_key_lem, next_nothing}
pub use Rattle.multi_timer.proofs.History.{entries_ascending, lookup_entries, earliest_of_lem, due_keys_lem, due_ascending, Kept, deadlines_are, Popped, expired_is, earliest_is, pop_is, new_fresh, history, refused_are}
