-- Document 01, "Bounds of a setup" and "Turned away", checks 5, 8, 9 and 10 of a schedule.
use Rattle.std.specs.Prelude.{ℕ, ◌+◌, ◌-◌, ◌*◌, ◌/◌, ◌≤◌, ◌<◌, ◌≡◌, Bool, false, cond, ◌||◌, List, [], ◌∷◌, length}
use Rattle.std.specs.Prelude.{take, drop, replicate, ltb, leb, eqb}
use Rattle.bounds.specs.Bounds.{count_limit, max_datagram, max_delivery_delay, max_time, place_size}
use Rattle.refusal.specs.Counts.{count_full}
use Rattle.schedule.specs.Record.{time_of, order_of, record_length, place_of, vacant, after}
use Rattle.schedule.specs.Record.{place_in, free_places}
use Rattle.schedule.specs.declared.ChannelScheduler.{ChannelScheduler}
use Rattle.schedule.specs.declared.Deliveries.{Deliveries}
use Rattle.schedule.specs.declared.Deliveries.TheVariants.{Lost, One, Two}

-- a schedule: its records, the bytes of its places, and the scheduler
pub record Schedule : Type 0 where
  pub records : List (List ℕ)
  pub places : List ℕ
  pub scheduler : ChannelScheduler

abbrev pub schedule : List (List ℕ) → List ℕ → ChannelScheduler → Schedule
schedule r p s = record { records = r; places = p; scheduler = s }

-- the records that wait
abbrev pub waiting_records : Schedule → List (List ℕ)
waiting_records m = take m.scheduler.count m.records

-- how many places the store has; a remainder belongs to none
abbrev pub place_count : Schedule → ℕ
place_count m = length m.places / place_size

-- check 9 of a waiting record: the one in front of it leaves after it, it is longer than a datagram, its order is
-- not below the next one, or its place is outside the store
abbrev pub record_broken : ℕ → ℕ → List ℕ → List ℕ → Bool
record_broken next n front r =
    after front r || (ltb max_datagram (record_length r) || (leb next (order_of r) || leb n (place_of r)))

-- one of these records is such a record, or a place is doubled; `front` stands in front of them
unfoldable pub broken_from : ℕ → ℕ → List ℕ → List (List ℕ) → Bool
broken_from next n front [] = false
broken_from next n front (r ∷ rs) = record_broken next n front r
    || (place_in (place_of r) rs || broken_from next n r rs)

-- check 9: a count above its slice, or such records
unfoldable pub state_broken : Schedule → Bool
state_broken m =
    ltb (length m.records) m.scheduler.count
    || broken_from m.scheduler.next_order (place_count m) vacant (waiting_records m)

-- check 8
abbrev pub counts_broken : Schedule → Bool
counts_broken m = count_full m.scheduler.next_order

-- a time above its bound, in nanoseconds
abbrev pub late : ℕ → Bool
late t = ltb max_time t

-- check 10 of the times held
unfoldable pub held_late : List (List ℕ) → Bool
held_late [] = false
held_late (r ∷ rs) = late (time_of r) || held_late rs

-- when a copy given a delay in milliseconds leaves
abbrev pub leaves_at : ℕ → ℕ → ℕ
leaves_at now delay = now + delay * 1000000

-- check 10 of a delay, and of the time to be stored
abbrev pub delay_late : ℕ → ℕ → Bool
delay_late now delay = ltb max_delivery_delay delay || late (leaves_at now delay)

abbrev pub deliveries_late : ℕ → Deliveries → Bool
deliveries_late now Lost = false
deliveries_late now (One d) = delay_late now d
deliveries_late now (Two d e) = delay_late now d || delay_late now e

abbrev pub copies : Deliveries → ℕ
copies Lost = 0
copies (One d) = 1
copies (Two d e) = 2

-- the delay of the k-th copy, counted from 0
unfoldable pub delay_at : Deliveries → ℕ → ℕ
delay_at Lost k = 0
delay_at (One d) k = d
delay_at (Two d e) k = cond (eqb k 0) d e

-- unused records and free places
abbrev pub unused_records : Schedule → ℕ
unused_records m = length m.records - m.scheduler.count

abbrev pub unused_places : Schedule → ℕ
unused_places m = length (free_places (place_count m) (waiting_records m))

-- check 5 of k copies: too few free places, or too few unused records
abbrev pub lacks_room : Schedule → ℕ → Bool
lacks_room m k = ltb (unused_places m) k || ltb (unused_records m) k

-- the bytes of the place p from the k-th on are zeros
abbrev pub ZerosFrom : ℕ → List ℕ → ℕ → Type 0
ZerosFrom k ps p = drop k (take place_size (drop (p * place_size) ps)) ≡ replicate (place_size - k) 0

-- how many bytes of the place p a packet has
unfoldable pub held_bytes : ℕ → List (List ℕ) → ℕ
held_bytes p [] = 0
held_bytes p (r ∷ rs) = cond (eqb p (place_of r)) (record_length r) (held_bytes p rs)

-- all other bytes of the places are zeros; a run keeps it so, and no entry point looks at it
pub record Cleared (m : Schedule) : Type 0 where
  pub zeros : (p : ℕ) → p < place_count m → ZerosFrom (held_bytes p (waiting_records m)) m.places p

-- what the calls below the entry points take for granted: the checks before them are false
pub record CanPut (m : Schedule) (packet : List ℕ) : Type 0 where
  pub sound : state_broken m ≡ false
  pub counts : m.scheduler.next_order ≤ count_limit
  pub short : ltb max_datagram (length packet) ≡ false
  pub room : lacks_room m 1 ≡ false

pub record CanSchedule (m : Schedule) (now : ℕ) (packet : List ℕ) (ds : Deliveries) : Type 0 where
  pub sound : state_broken m ≡ false
  pub counts : counts_broken m ≡ false
  pub times : deliveries_late now ds ≡ false
  pub short : ltb max_datagram (length packet) ≡ false
  pub room : lacks_room m (copies ds) ≡ false
