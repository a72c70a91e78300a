-- What every ACK of a run keeps (`app/transfer.rs`, `on_ack`), and what one asks: 8, 9 and 10 of document 01, "Turned
-- away", are false of the sender, the estimator and the timers.
use Rattle.std.specs.Prelude.{ℕ, ◌≤◌, ◌<◌}
use Rattle.bounds.specs.Bounds.{count_limit}
use Rattle.notes.specs.Notes.{Timely, ScheduledBelow}
use Rattle.clock.specs.Clock.{Held}
use Rattle.clock.specs.Estimator.{GoodEstimator}
use Rattle.session.specs.GoodSender.{SenderUnbroken}
use Rattle.acks.specs.Acks.{AckState}

-- at most one sample for each ACK
pub record GoodAcks (s : AckState) (now : ℕ) : Type 0 where
  pub sender : SenderUnbroken s.sender
  pub estimator : GoodEstimator s.estimator s.received
  pub clock : Held s.clock
  pub notes : Timely s.metas now
  pub scheduled : ScheduledBelow s.metas
  pub duplicates : s.duplicates ≤ s.received

pub record CanOnAck (s : AckState) (now : ℕ) : Type 0 where
  pub good : GoodAcks s now
  pub few : s.received < count_limit
