-- Document 01, `app/transfer.rs`: one direction of the line with its lent memory, and what every call on it keeps.
use Rattle.std.specs.Prelude.{ℕ, ◌*◌, ◌≤◌, ◌≡◌, false, List, length, Float}
use Rattle.schedule.specs.State.{Schedule, schedule, waiting_records, state_broken, held_late, Cleared}
use Rattle.channel.specs.Bounds.{config_broken}
use Rattle.channel.specs.declared.ChannelStats.{ChannelStats}
use Rattle.path.specs.Rolls.{packet_rolls, rolls_broken, Doubles}
use Rattle.path.specs.declared.Path.{Path}

-- a path with its records and places
pub record Direction : Type 0 where
  pub records : List (List ℕ)
  pub places : List ℕ
  pub path : Path

abbrev pub direction : List (List ℕ) → List ℕ → Path → Direction
direction rs ps p = record { records = rs; places = ps; path = p }

abbrev pub schedule_of : Direction → Schedule
schedule_of d = schedule d.records d.places d.path.scheduler

-- a packet has at most two copies, so that no counter is more than twice the number of packets that the used rolls make
pub record Counted (s : ChannelStats) (next used : ℕ) : Type 0 where
  pub seen : s.packets_seen * packet_rolls ≤ 2 * used
  pub lost : s.lost * packet_rolls ≤ 2 * used
  pub corrupted : s.corrupted * packet_rolls ≤ 2 * used
  pub duplicated : s.duplicated * packet_rolls ≤ 2 * used
  pub reordered : s.reordered * packet_rolls ≤ 2 * used
  pub delivered : s.copies_delivered * packet_rolls ≤ 2 * used
  pub orders : next * packet_rolls ≤ 2 * used

-- the setup, the rolls, the schedule and its times are within bounds, and its places are zeros where no packet lies
pub record Good (d : Direction) (rolls : List Float) : Type 0 where
  pub config : config_broken d.path.channel.config ≡ false
  pub counted : Counted d.path.channel.stats d.path.scheduler.next_order d.path.used
  pub doubles : Doubles rolls
  pub in_bounds : rolls_broken rolls ≡ false
  pub used : d.path.used ≤ length rolls
  pub sound : state_broken (schedule_of d) ≡ false
  pub times : held_late (waiting_records (schedule_of d)) ≡ false
  pub cleared : Cleared (schedule_of d)
