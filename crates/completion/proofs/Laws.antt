-- What crates above may cite of demand 3 in a run.
-- the invariant of a run, the parts of a step that keep it, and what it says at the end
pub use Rattle.completion.proofs.Reached.{Start, chunks_in}
pub use Rattle.completion.proofs.Follows.{Begun, window_fits, new_begun, new_sender_slots, new_receiver_slots}
pub use Rattle.completion.proofs.Serving.{end_of}
pub use Rattle.completion.proofs.Events.{events_in, Logged, LoggedIn}
pub use Rattle.completion.proofs.Runs.{Runs, RunsOutgoing, RunsInbound, runs_start, runs_served, runs_acked, runs_timed_out, runs_resent, runs_sent, runs_pumped, runs_delivered, runs_file, runs_completed}
pub use Rattle.completion.proofs.Firing.{CanTimeOut, good_can_time_out, RunsFire, runs_time_out, runs_numbers, runs_fired}
-- where the flips are outside the length bytes: a list of calls leads to the ends, and what waits are copies
pub use Rattle.completion.proofs.Reached.{RunWorld, start_world, Led}
pub use Rattle.completion.proofs.Follows.{CopyOf, WholeOf, FirstOf, FollowsIn, Follows, next_number_is, made_size, chunk_follows, timeout_follows, ack_follows, packet_follows, TimedOut, timed_out, new_follows}
pub use Rattle.completion.proofs.Conclusion.{first_delivered, file_written}
pub use Rattle.completion.proofs.Serving.{FollowsInbound, on_forward_follows, serve_forward_follows}
pub use Rattle.completion.proofs.Acking.{on_ack_follows, serve_reverse_follows}
pub use Rattle.completion.proofs.Events.{submit_logged, flips_before, pick_of, new_logged, no_faults_outside}
pub use Rattle.completion.proofs.Submitting.{submit_follows, retransmit_follows, send_one_follows}
pub use Rattle.completion.proofs.Resending.{Resubmits, none_resubmitted, one_resubmitted, numbers_resubmitted}
-- what waits on a line after a packet
pub use Rattle.completion.proofs.Lines.{carry_each_fits}
