-- What crates above may cite of a step.
pub use Rattle.step.proofs.Moves.{Earliest, earliest, NoDeadline, no_deadline, next_time, settle_cases, SettleGoing, settle_going, SettleOver, settle_over, settle_ended}
pub use Rattle.step.proofs.Rounds.{arrives, sends, step_is}
pub use Rattle.step.proofs.Good.{can_arrive, arrived_good, good_fire, can_send_due, sent_good}
pub use Rattle.step.proofs.Kept.{after_both, both_exit, going_cases, step_good}
