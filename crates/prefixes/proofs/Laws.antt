-- What crates above may cite of a run on any rolls.
-- the invariant, the parts of a step that keep it, and what it says at the end
pub use Rattle.prefixes.proofs.Prefixed.{Prefixed, prefixed_start, prefixed_turn, prefixed_served, prefixed_acked, PrefixedPump, prefixed_pumped, PrefixedFire, prefixed_timed_out, prefixed_fired, prefixed_written, prefixed_file, prefixed_fill, prefixed_completed}
-- no call of a run is refused
pub use Rattle.prefixes.proofs.NotRefused.{packet_not_refused, prefixed_room, prefixed_not_refused, turn_not_refused}
pub use Rattle.prefixes.proofs.Calls.{send_not_refused, timeout_not_refused, ack_not_refused}
-- the sender and the forward line
pub use Rattle.prefixes.proofs.Sends.{PrefixesWait, Sends, submit_waits, PumpSends, send_one_sends, pump_sends_lem, numbers_wait, FireSends, timed_out_sends, numbers_send, fired_sends}
pub use Rattle.prefixes.proofs.Sender.{SenderHolds, new_sender_holds, chunk_held, ack_held, timeout_held, first_data, outstanding_data}
pub use Rattle.prefixes.proofs.Copies.{AllHonest, data_honest, carry_honest, PrefixAt, ChunkData, chunk_honest}
-- the receiver
pub use Rattle.prefixes.proofs.Serving.{InboundWritten, on_forward_written, turn_written, serve_forward_written, on_ack_holds, serve_reverse_holds}
pub use Rattle.prefixes.proofs.Receiver.{Honest, Parts, EndWritten, end_parts, packet_written}
pub use Rattle.prefixes.proofs.Joined.{EachPrefix, joined_short, joined_same}
