-- The laws of a session that crates above may cite.
pub use Rattle.session.proofs.Windows.{unbroken_numbers, datagram_number, datagram_short, good_unbroken, good_numbers, good_more, good_can_send, good_can_write, within_one}
pub use Rattle.session.proofs.Sends.{send_unchecked, ack_accepted, ack_not_accepted}
pub use Rattle.session.proofs.Acks.{ack_of_number, ack_of_other, ack_of_corrupted, ack_of_refused}
pub use Rattle.session.proofs.AckKeeps.{AckKeepsSender, sender_keeps_same, sender_keeps_then, ack_keeps_sender}
pub use Rattle.session.proofs.Resends.{SameWindow, ResentAs, resent_as}
pub use Rattle.session.proofs.Kept.{new_sender_good, new_sender_size, new_sender_selective, sent_packets, sent_packets_lem, send_good, ack_good, resent_good, resent_few, timeout_good}
pub use Rattle.session.proofs.Due.{due_within, sent_window, send_due, send_due_new, send_size, send_length, send_selective, acknowledged_due, ack_unchecked_due, ack_due, timeout_due, timeout_not_due, timeout_nothing, timeout_due_one}
pub use Rattle.session.proofs.Receives.{read_as, taken_as, packet_high, packet_low, packet_read}
pub use Rattle.session.proofs.Replies.{answered_buffer, answered_buffer_lem, replied_packets, ack_packets, replied_packets_lem}
pub use Rattle.session.proofs.KeptReceivers.{receiver_unbroken, good_can_receive, receiver_more, new_receiver_good, packet_good}
pub use Rattle.session.proofs.Rises.{Rises, packet_rises, cumulative_none}
pub use Rattle.session.proofs.Lengths.{packet_lengths}
pub use Rattle.session.proofs.EndsCalls.{new_sender_is, send_chunk_is, handle_ack_is, handle_timeout_is, SenderStep, send_step, timeout_step, ack_step, new_receiver_is, with_output_of, handle_packet_is, ReceiverStep, packet_step, sender_base_is, receiver_base_is, output_is, unwritten_is}
