use native.Mathlib.Omega.{arith}
use mathlib.Core.Path.{◌≡◌, sym, ◌∙◌}
use Prim.Native.Nat.{ℕ, ◌≤◌, ◌+◌}
use mathlib.Core.Bool.{false}
use Rattle.schedule.specs.State.{Schedule, schedule, state_broken, place_count, unused_places}
use Rattle.schedule.proofs.Memory.{within, places_count, room_is}
use Rattle.schedule.proofs.ChannelScheduler.room_unchecked.Goals as goal

count_within : (m : Schedule) → state_broken m ≡ false → m.scheduler.count ≤ place_count m
count_within m s = let a = places_count m s in more (unused_places m) m.scheduler.count (place_count m) a
  where
    more : (a c n : ℕ) → a + c ≡ n → c ≤ n
    more a c n e = omega arith

pub overflow_sub-free_places : goal.overflow_sub-free_places
overflow_sub-free_places c = let a = c.args in count_within (schedule a.records.now a.places.now a.self) c.requires

pub overflow_sub-free_records : goal.overflow_sub-free_records
overflow_sub-free_records c = let a = c.args in within (schedule a.records.now a.places.now a.self) c.requires

pub returns : goal.returns
returns c = let a = c.args in c.min.ensures ∙ sym (room_is (schedule a.records.now a.places.now a.self) c.requires)
