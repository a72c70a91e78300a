-- The laws of the receiving side that crates above may cite.
-- Data and its ACK: what each leaves
pub use Rattle.receiving.proofs.Kept.{RisesByOne, reply_bytes, Received, data_received, received_good, marked_metas, submit_stops, submit_carries, Submitted, ack_submitted, submit_good}
-- a datagram: its cases, what it keeps
pub use Rattle.receiving.proofs.Kept.{forward_dropped, forward_silent, forward_refused, forward_acknowledged, forward_stopped, forward_carried, forward_either, Delivers, forward_delivers, CountsRise, forward_counts, InboundKeeps, forward_keeps, forward_good, forward_each, new_inbound_good}
-- completion
pub use Rattle.receiving.proofs.Completion.{Completes, completes_same, completes_then, CompletedIs, received_completed, forward_completes, forward_completed_is, new_completed_is}
-- the loop: its turns, what it keeps
pub use Rattle.receiving.proofs.Serving.{next_taken, next_exit, serve_idle, serve_going, serve_stops, can_hand_over, turn_good}
pub use Rattle.receiving.proofs.Turns.{serve_turns, serve_keeps, good_can_serve, serve_good, serve_forward_good, serve_keeps_forward, serve_each, Handed, serve_front, serve_each_reverse, serve_keeps_sizes, CountsRiseBy, serve_counts, serve_completes, serve_completed_is, serve_progress, serve_drained}
-- the copies and orders of the reverse line, the times of the notes
pub use Rattle.receiving.proofs.Orders.{forward_orders, serve_orders, forward_timely, serve_timely}
-- nothing is due
pub use Rattle.receiving.proofs.NotDue.{serve_not_due}
