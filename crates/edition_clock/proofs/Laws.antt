-- What crates above may cite of the edition clock.
pub use Rattle.edition_clock.proofs.Rules.{timer_at, submit_5_1, submit_not_sent, send_5_1, accepted_5_3, ack_5_3, ack_not_new, no_ack}
pub use Rattle.edition_clock.proofs.Expiry.{EditionLimits, timeout_5_5, not_expired, idle_expiry, expiry_is, expiry_5_4, expiry_5_5, expiry_5_6, sent_first, sent_first_deadline}
pub use Rattle.edition_clock.proofs.Senders.{retries_of, LimitIs, Again, earliest_again}
pub use Rattle.edition_clock.proofs.Run.{run_last, EditionSetup, edition_setup, edition_run, edition_steps, edition_end, default_patient}
pub use Rattle.edition_clock.proofs.OneLoss.{edition_one_loss, source_one_loss}
