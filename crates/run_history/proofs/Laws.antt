-- What crates above may cite of a run's history.
pub use Rattle.run_history.proofs.Transfer.{transfer_history}
-- the ends' counters by tallies
pub use Rattle.run_history.proofs.EndCalls.{session_counted, sender_after, receiver_after, receiver_counted, history_sender, history_receiver}
-- duplicate Data by what was read
pub use Rattle.run_history.proofs.Duplicates.{repeated_one, history_duplicates}
-- the answer alone
pub use Rattle.run_history.proofs.Few.{history_few}
-- one call, packet, event or reply more
pub use Rattle.run_history.proofs.Lists.{after_more, collect_more, total_more, premature_more, estimated_more, each_more, filter_more, packets_more, events_more}
-- the notes of a run by its events and replies
pub use Rattle.run_history.proofs.Noted.{Flags, flags, Says, Blank, Noted, Alike, premature_is, noted_as, noted_update, noted_first, noted_again, noted_marked, noted_sampled, noted_none}
