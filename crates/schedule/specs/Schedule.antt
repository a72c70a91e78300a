-- Document 01, "What the Rust forms turn into" (BinaryHeap), `channel/scheduler.rs` and "Turned away": what each call
-- on a schedule answers and leaves behind.
use Rattle.std.specs.Prelude.{ℕ, ◌+◌, ◌-◌, ◌*◌, min, ◌/◌, ◌≡◌, Bool, false, cond, ◌&&◌, ◌||◌, List, [], ◌∷◌, ◌++◌}
use Rattle.std.specs.Prelude.{length, take, drop, get_or, replicate, ltb, leb, eqb, Err, None, Ok, Option, Result, Some}
use Rattle.bounds.specs.Bounds.{max_datagram, place_size}
use Rattle.refusal.specs.Order.{Check, check, verdict, decide}
use Rattle.refusal.specs.declared.Refusal.TheVariants.{State, Counts, Time, Long, Full}
use Rattle.schedule.specs.Record.{record4, time_of, record_length, place_of, vacant}
use Rattle.schedule.specs.Record.{after, inserted, lowest_free}
use Rattle.schedule.specs.State.{Schedule, schedule, waiting_records, place_count, state_broken, counts_broken}
use Rattle.schedule.specs.State.{late, held_late, leaves_at, deliveries_late, copies}
use Rattle.schedule.specs.State.{unused_records, unused_places, lacks_room}
use Rattle.schedule.specs.declared.ChannelScheduler.{ChannelScheduler}
use Rattle.schedule.specs.declared.Deliveries.{Deliveries}
use Rattle.schedule.specs.declared.Deliveries.TheVariants.{Lost, One, Two}
use Rattle.schedule.specs.declared.ScheduleResult.{ScheduleResult}
use Rattle.schedule.specs.declared.PopResult.{PopResult}
use Rattle.refusal.specs.declared.Refusal.{Refusal}
use Rattle.refusal.specs.Order.{passed}

abbrev pub scheduler : ℕ → ℕ → ChannelScheduler
scheduler count next = record { count = count; next_order = next }

-- making: all records and places become zeros; a remainder of the store is no place
abbrev pub new_schedule : List (List ℕ) → List ℕ → Schedule
new_schedule rs ps =
    let end = length ps / place_size * place_size in
    schedule (replicate (length rs) vacant) (replicate end 0 ++ drop end ps) (scheduler 0 0)

-- the store with other bytes in the place p
abbrev pub placed : List ℕ → ℕ → List ℕ → List ℕ
placed ps p bytes = take (p * place_size) ps ++ bytes ++ drop (p * place_size + place_size) ps

-- all bytes of a place: the packet, and zeros after it
abbrev pub place_bytes : List ℕ → List ℕ
place_bytes packet = packet ++ replicate (place_size - length packet) 0

-- one copy more, to leave at `time`, in the lowest place not in use
unfoldable pub put_copy : Schedule → ℕ → List ℕ → Schedule
put_copy m time packet =
    let s = m.scheduler in
    let place = lowest_free (place_count m) (waiting_records m) in
    let r = record4 time s.next_order (length packet) place in
    schedule (inserted after r (waiting_records m) ++ drop (s.count + 1) m.records)
    (placed m.places place (place_bytes packet))
    (scheduler (s.count + 1) (s.next_order + 1))

-- the copies of one answer of the channel, in its order
unfoldable pub schedule_at_unchecked : Schedule → ℕ → List ℕ → Deliveries → Schedule
schedule_at_unchecked m now packet Lost = m
schedule_at_unchecked m now packet (One d) = put_copy m (leaves_at now d) packet
schedule_at_unchecked m now packet (Two d e) =
    put_copy (put_copy m (leaves_at now d) packet) (leaves_at now e) packet

-- what a call leaves in records and places, and its result
pub record ScheduleExit : Type 0 where
  pub records : List (List ℕ)
  pub places : List ℕ
  pub result : ScheduleResult

abbrev pub schedule_exit : List (List ℕ) → List ℕ → ScheduleResult → ScheduleExit
schedule_exit r p s = record { records = r; places = p; result = s }

abbrev pub on_schedule : Schedule → Result Unit Refusal → ScheduleExit
on_schedule m a = schedule_exit m.records m.places (record { scheduler = m.scheduler; answer = a })

-- the checks of `schedule_at`, of a packet of n bytes
abbrev pub schedule_checks : Schedule → ℕ → ℕ → Deliveries → List Check
schedule_checks m now n ds =
    check (state_broken m) State
    ∷ check (counts_broken m) Counts
    ∷ check (late now || (held_late (waiting_records m) || deliveries_late now ds)) Time
    ∷ check (ltb max_datagram n) Long
    ∷ check (lacks_room m (copies ds)) Full
    ∷ []

unfoldable pub schedule_at : Schedule → ℕ → List ℕ → Deliveries → ScheduleExit
schedule_at m now packet ds =
    decide (verdict (schedule_checks m now (length packet) ds))
    (λ r. on_schedule m (Err r))
    (on_schedule (schedule_at_unchecked m now packet ds) passed)

-- the record that leaves first, and whether it may leave now
abbrev pub first_record : List (List ℕ) → List ℕ
first_record rs = get_or rs 0 []

abbrev pub due : ℕ → List (List ℕ) → ℕ → Bool
due count rs now = ltb 0 count && leb (time_of (first_record rs)) now

-- its place and length, if it may
unfoldable pub first_due : ℕ → List (List ℕ) → ℕ → Option (ℕ × ℕ)
first_due count rs now =
    let r = first_record rs in
    cond (due count rs now) (Some (place_of r, record_length r)) None

-- the bytes of a record's packet
abbrev pub bytes_of : List ℕ → List ℕ → List ℕ
bytes_of ps r = take (record_length r) (drop (place_of r * place_size) ps)

-- the first record taken out: the others one down, a vacant one behind them, its place cleared
unfoldable pub without_first : Schedule → Schedule
without_first m =
    let s = m.scheduler in
    schedule (drop 1 (waiting_records m) ++ vacant ∷ drop s.count m.records)
    (placed m.places (place_of (first_record m.records)) (replicate place_size 0))
    (scheduler (s.count - 1) s.next_order)

pub record PopExit : Type 0 where
  pub records : List (List ℕ)
  pub places : List ℕ
  pub out : List ℕ
  pub result : PopResult

abbrev pub pop_exit : List (List ℕ) → List ℕ → List ℕ → PopResult → PopExit
pop_exit r p o s = record { records = r; places = p; out = o; result = s }

abbrev pub on_pop : Schedule → List ℕ → Result (Option ℕ) Refusal → PopExit
on_pop m out a = pop_exit m.records m.places out (record { scheduler = m.scheduler; answer = a })

-- the schedule that a call leaves
abbrev pub left_by_pop : PopExit → Schedule
left_by_pop x = schedule x.records x.places x.result.scheduler

-- check 5: `out` shorter than the packet that would be written to it
abbrev pub out_short : ℕ → List (List ℕ) → ℕ → ℕ → Bool
out_short count rs now size = due count rs now && ltb size (record_length (first_record rs))

-- the first packet, at the front of `out`
abbrev pub pop_first : Schedule → List ℕ → PopExit
pop_first m out =
    let r = first_record m.records in
    on_pop (without_first m) (bytes_of m.places r ++ drop (record_length r) out) (Ok (Some (record_length r)))

-- it is taken if it is due
unfoldable pub pop_unchecked : Schedule → ℕ → List ℕ → PopExit
pop_unchecked m now out =
    cond (due m.scheduler.count m.records now) (pop_first m out) (on_pop m out (Ok None))

-- the checks of `pop_ready_at`, of a buffer of n bytes
abbrev pub pop_checks : Schedule → ℕ → ℕ → List Check
pop_checks m now n =
    check (state_broken m) State
    ∷ check (counts_broken m) Counts
    ∷ check (late now || held_late (waiting_records m)) Time
    ∷ check (out_short m.scheduler.count m.records now n) Full
    ∷ []

unfoldable pub pop_ready_at : Schedule → ℕ → List ℕ → PopExit
pop_ready_at m now out =
    decide (verdict (pop_checks m now (length out))) (λ r. on_pop m out (Err r)) (pop_unchecked m now out)

-- the checks of a call that only reads
abbrev pub read_checks : Schedule → List Check
read_checks m =
    check (state_broken m) State ∷ check (counts_broken m) Counts ∷ check (held_late (waiting_records m)) Time ∷ []

abbrev pub first_time : ℕ → List (List ℕ) → Result (Option ℕ) Refusal
first_time count rs = cond (ltb 0 count) (Ok (Some (time_of (first_record rs)))) (Ok None)

unfoldable pub next_deadline : Schedule → Result (Option ℕ) Refusal
next_deadline m = decide (verdict (read_checks m)) Err (first_time m.scheduler.count m.records)

unfoldable pub len : Schedule → Result ℕ Refusal
len m = decide (verdict (read_checks m)) Err (Ok m.scheduler.count)

unfoldable pub is_empty : Schedule → Result Bool Refusal
is_empty m = decide (verdict (read_checks m)) Err (Ok (eqb m.scheduler.count 0))

-- how many copies more there is room for
abbrev pub room_of : Schedule → ℕ
room_of m = min (unused_places m) (unused_records m)

unfoldable pub room : Schedule → Result ℕ Refusal
room m = decide (verdict (read_checks m)) Err (Ok (room_of m))

pub record CanPop (m : Schedule) (now : ℕ) (out : List ℕ) : Type 0 where
  pub sound : state_broken m ≡ false
  pub room : out_short m.scheduler.count m.records now (length out) ≡ false
