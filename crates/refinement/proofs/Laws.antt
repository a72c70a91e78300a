-- The laws of the ends over bytes, for crates above to cite.
-- a call's outcome: refused, without effect, or the machine's step
pub use Rattle.refinement.proofs.Sending.{Sent, SendOutcome, send_refused, window_full, chunk_sent, send_outcome, send_good, chunks_length, next_number_lem}
pub use Rattle.refinement.proofs.Acknowledging.{Acknowledged, AckOutcome, ack_refused, ack_ignored, ack_taken, Accepts, ack_outcome, go_back_n_ack}
pub use Rattle.refinement.proofs.SelectiveSender.{selective_ack, selective_timeout}
pub use Rattle.refinement.proofs.Resending.{SentAgain, ResendOutcome, timeout_refused, nothing_sent, sent_again_lem, resend_outcome, resend_good, marks_good, marks_octets, datagrams_are, go_back_n_timeout, lowest_sent_again, datagram_of}
pub use Rattle.refinement.proofs.Receiving.{Took, Ignored, ReceiveOutcome, packet_refused, not_data, data_taken, receive_outcome, after_packet_lem, written_behind, took_output, flatten_append, outcome_length, outcome_mark}
pub use Rattle.refinement.proofs.InOrder.{state_good, stop_and_wait_view, go_back_nView, stop_and_wait_receives, go_back_n_receives, stop_and_wait_receiver_good, go_back_n_receiver_good}
pub use Rattle.refinement.proofs.SelectiveReceiver.{selective_view, selective_receives}
pub use Rattle.refinement.proofs.GoodSelective.{selective_receiver_good}
pub use Rattle.refinement.proofs.StopAndWait.{stop_and_wait_send, stop_and_wait_ack, stop_and_wait_timeout, stop_and_wait_made, stop_and_wait_ack_octets}
-- fresh ends
pub use Rattle.refinement.proofs.Good.{fresh_good}
pub use Rattle.refinement.proofs.Making.{fresh_follows, zeroed, fresh_receiver_follows, fresh_receiver_good}
-- copies of datagrams
pub use Rattle.refinement.proofs.Copies.{data_number, data_accepted, data_payload, data_flipped, ack_number, ack_flipped}
-- stores of octets
pub use Rattle.refinement.proofs.Octets.{fresh_octets, send_octets, after_ack, go_back_n_ack_octets, selective_ack_octets, release_octets}
