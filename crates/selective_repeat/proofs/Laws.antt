-- The laws that crates above may cite.
pub use Rattle.selective_repeat.proofs.Due.{due_within, in_flight_count_unchecked_lem}
pub use Rattle.selective_repeat.proofs.Acknowledging.{Acknowledgeable, accepted_within, decide_ack_read, decide_ack_within, handle_ack_decided, decide_ack_accept, decide_ack_not_accepted, decide_ack_refused}
pub use Rattle.selective_repeat.proofs.States.{ready, not_broken, receiving_sound, payloads_in, Releases, releases}
pub use Rattle.selective_repeat.proofs.Deciding.{data_in_order, data_above, data_below, data_ahead, data_behind}
pub use Rattle.selective_repeat.proofs.Receiving.{handle_packet_unchecked_lem}
