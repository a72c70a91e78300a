-- The laws of lists of calls that crates above may cite.
pub use Rattle.delivery.proofs.Lists.{run_append, fed_append, admissible_append, admissible_first, admissible_rest, Grown, step_sent, step_replies, sent_grows, replies_grow, copy_stays, copy_bytes_lem, grown_copy, grown_bytes, Reached, at_start, one_more, many_more}
pub use Rattle.delivery.proofs.Datagrams.{DataBytes, AckBytes, Each, each_at, Framed, AllFramed, made_framed, datagrams_flatten, data_framed, acks_framed, made_number, data_number, ack_number}
pub use Rattle.delivery.proofs.Demand3.{demand_3, reached_claim}
pub use Rattle.delivery.proofs.ReachedSender.{next_of, reached_next, OfChunk, reached_data}
pub use Rattle.delivery.proofs.KuroseRoss.{bytes_like_book, selective_repeat_bytes_like_book}
pub use Rattle.delivery.proofs.NotRefused.{sender_counts, receiver_counts, not_refused, sent_within}
pub use Rattle.delivery.proofs.Progress.{again_within}
pub use Rattle.delivery.proofs.AnyBytes.{sender_step_sound, fresh_sender_sound, sender_sound, ReceiverGood, receiver_good_sound, receiver_step_good, fresh_receiver_sound, receiver_sound}
