-- What crates above may cite of ACKs.
pub use Rattle.acks.proofs.Calls.{acked, acked_unbroken}
pub use Rattle.acks.proofs.Answers.{on_ack_dropped, on_ack_duplicate, on_ack_accepted, on_accepted_is, by_ack}
pub use Rattle.acks.proofs.Keeps.{AckKeeps, ack_keeps_same, ack_keeps_then, AckCounts, on_ack_good, on_ack_keeps, on_ack_clock, on_ack_counts}
pub use Rattle.acks.proofs.Fresh.{new_can_on_ack, new_can_serve_reverse}
-- the loop: its turns, what it keeps
pub use Rattle.acks.proofs.Serving.{next_taken, next_state, serve_reverse_idle, serve_reverse_next, can_hand_over, turn_good}
pub use Rattle.acks.proofs.Turns.{serve_reverse_turns, serve_reverse_invariant, serve_reverse_direction_good, serve_reverse_counts, serve_reverse_progress, serve_reverse_drained, serve_reverse_good, serve_reverse_keeps_direction, serve_reverse_keeps, serve_reverse_each, serve_reverse_each_ack, serve_reverse_clock, good_can_serve_reverse}
-- the timers beside the sender
pub use Rattle.acks.proofs.Timers.{on_ack_timers, serve_reverse_timers}
-- nothing is due
pub use Rattle.acks.proofs.NotDue.{serve_reverse_not_due}
