-- app/transfer.rs: what every call on the receiving side keeps, and what the calls ask.
use Rattle.std.specs.Prelude.{ℕ, ◌+◌, ◌≤◌, ◌<◌, ◌≡◌, false, List, length, Float}
use Rattle.bounds.specs.Bounds.{count_limit, max_duration}
use Rattle.notes.specs.Notes.{ScheduledBelow}
use Rattle.schedule.specs.State.{waiting_records, state_broken, held_late, Cleared}
use Rattle.path.specs.Direction.{Direction, schedule_of, Good}
use Rattle.session.specs.Receiving.{receiver_end}
use Rattle.session.specs.GoodReceiver.{GoodReceiver}
use Rattle.receiving.specs.Receiving.{Inbound}

-- the receiver, the notes and the reverse direction are good; no counter is above the number of Data received
pub record GoodInbound (b : Inbound) (rolls : List Float) : Type 0 where
  pub receiver : GoodReceiver (receiver_end b.side.receiver b.store) b.output b.side.data_received
  pub acks : b.side.ack_sent ≤ b.side.data_received
  pub duplicates : b.side.duplicate_data ≤ b.side.data_received
  pub noted : b.metas.notes.count ≤ length b.metas.rows
  pub scheduled : ScheduledBelow b.metas
  pub reverse : Good b.reverse rolls

-- a datagram: within a run's time, and no counter at its bound
pub record CanOnForward (b : Inbound) (rolls : List Float) (now : ℕ) : Type 0 where
  pub good : GoodInbound b rolls
  pub few : b.side.data_received < count_limit
  pub in_time : now ≤ max_duration

-- the loop: the forward line's schedule and its times are within bounds, its places are zeros where no packet lies, and
-- its copies are too few for a counter
pub record CanServeForward (forward : Direction) (b : Inbound) (rolls : List Float) (now : ℕ) : Type 0 where
  pub sound : state_broken (schedule_of forward) ≡ false
  pub times : held_late (waiting_records (schedule_of forward)) ≡ false
  pub cleared : Cleared (schedule_of forward)
  pub good : GoodInbound b rolls
  pub few : b.side.data_received + forward.path.scheduler.count ≤ count_limit
  pub in_time : now ≤ max_duration
