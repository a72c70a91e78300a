-- The laws of the packet layer that crates above may cite.
pub use Rattle.packet.proofs.Types.{bit_0_set}
pub use Rattle.packet.proofs.Header.{Fits}
pub use Rattle.packet.proofs.Read.{Readable, read_accepted, accepted_readable, read_packet, read_refused, read_header, payload_is, payload_none, payload_length, payload_below, validity_is, validity_none}
pub use Rattle.packet.proofs.Datagrams.{given_refused, given_long, given_packet, all, before_reading, reading_after, after_reading, reading_before, Taken, taken_short, valid_taken, corrupted_taken, valid_is_valid, made_payload, made_given}
pub use Rattle.packet.proofs.RoundTrip.{read_back, payload_back, valid_back, written_read, written_again, written_again_by_to_bytes}
pub use Rattle.packet.proofs.ReceiverCheck.{receiver_sum, valid_all_ones, all_ones_valid, all_ones_invalid}
pub use Rattle.packet.proofs.FlippedBit.{flip_caught, made_valid, made_length, made_flip_caught, Prefix, CutOrPrefix, made_flip_length}
