-- The laws that crates above may cite.
pub use Rattle.receiver.proofs.Replies.{ack_room, room_ack, room_output, room_less, replied_is, carried_room, carried_on}
pub use Rattle.receiver.proofs.Receiving.{Read, read_facts, data_valid, not_valid_corrupted, valid_reading, read_low, ReceiveKnown, receive_either, receive_refused, receive_unchecked_lem, receive_read, receive_reading, read_sound, apply_refused, apply_received}
pub use Rattle.receiver.proofs.States.{state_low, counts_low}
