-- The laws of the send window that crates above may cite.
pub use Rattle.window.proofs.Sound.{Sound, sound, not_broken, Numbers, numbers, numbers_not_broken, sound_numbers, numbers_state, store_fits, windows_fit, slot_low, counts_low, or_false_right}
pub use Rattle.window.proofs.Slots.{slot_payload_length, sending_is, send_state}
pub use Rattle.window.proofs.Acknowledging.{Accepted, ack_accepted, ack_state, ack_counts, ack_read, ack_either, on_accept, on_not_accepted, on_ack_refused}
pub use Rattle.window.proofs.Resending.{resendable, resend_nothing, resend_some, resend_count}
pub use Rattle.window.proofs.Outstanding.{numbers_refused, counts_refused, numbers_accepted, by_count, by_refusal, count_is}
pub use Rattle.window.proofs.Timeouts.{decision_state, decision_counts, decision_nothing, decision_resend, resend_decided, by_decision_lem, Decided, decided}
pub use Rattle.window.proofs.Clean.{fresh_clean, hold_clean, release_clean, SlotsKept, resend_clean}
