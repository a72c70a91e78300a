-- What crates above may cite of the sending side.
pub use Rattle.sending.proofs.Sends.{SentOne, sent_one}
pub use Rattle.sending.proofs.Calls.{number_left, chunk, blank, given, written, can_send_lem, sent_next, can_submit_next, next_grows, send_keeps, notes_grow, send_is}
pub use Rattle.sending.proofs.Pumps.{Same, pump_nothing, pump_going, pump_stopped}
pub use Rattle.sending.proofs.Retransmits.{can_resubmit, retransmit_good, retransmit_keeps, retransmit_notes}
pub use Rattle.sending.proofs.Fresh.{Unused, unused, new_can_pump}
pub use Rattle.sending.proofs.Resending.{packets_from, sent_once, retransmit_counts, retransmit_written, retransmit_used, retransmit_going_used, retransmit_timers, counted_below, can_retransmit_first, can_retransmit_rest, all_none, all_met, all_stopped, all_going, all_by, resend_turns, by_numbers, keeps_again, keeps_same, ResendKeeps, resend_keeps, AllSubmitted, all_submitted}
pub use Rattle.sending.proofs.Turns.{pump_turns, pump_keeps, PumpKeeps, Pumped, send_sender, send_same, send_used, send_pumped, pump_can, pump_sender, pump_same, pump_next, pump_notes, pump_used, pump_pumped, pump_counted}
pub use Rattle.sending.proofs.Timers.{send_timers, pump_timers, retransmit_good_timers}
