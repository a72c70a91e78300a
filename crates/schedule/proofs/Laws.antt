-- What crates above may cite: the schedule is the list of copies that wait. Making gives none, scheduling inserts by time and order, taking removes the first alone, and the first's time is the next deadline.
use Rattle.std.specs.Prelude.{Err, None, Ok, Some}
use mathlib.Core.Path.{◌≡◌, refl, sym, ◌∙◌, ap, subst}
use Prim.Native.Nat.{ℕ, zero, suc, ◌<◌, ◌≤◌, ◌+◌, ◌-◌, min}
use native.Mathlib.Omega.{arith}
use mathlib.Core.Bool.{Bool, true, false, cond, ◌||◌, ◌&&◌, or-true, and-false, true≢false}
use mathlib.Core.Logic.{◌⊎◌}
use mathlib.Core.List.{List, [], ◌∷◌, ◌++◌, map}
use lib.ListN.{length, get_or, take, drop, replicate, length-replicate, length-map}
use lib.Dec.{ltb, leb, eqb}
use native.Mathlib.Nat.{add-zero, add_assoc}
use borrow.Author.Tests.{ltb-true, ltb-false, leb-true, leb-false, le-ltb, lt-leb, eq-eqb}
use Rattle.bounds.specs.Bounds.{count_limit, max_datagram, max_delivery_delay, max_duration, max_time}
use Rattle.refusal.specs.Order.{verdict}
use Rattle.refusal.specs.declared.Refusal.{Refusal}
use Rattle.schedule.specs.Record.{record4, time_of, order_of, record_length, place_of, vacant, after, inserted, ordered_from, place_in, lowest_free}
use Rattle.schedule.specs.State.{Schedule, waiting_records, place_count, broken_from, state_broken, counts_broken, late, held_late, delay_late, deliveries_late, copies, leaves_at, unused_places, unused_records, lacks_room, CanPut, CanSchedule}
use Rattle.schedule.specs.Schedule.{new_schedule, placed, place_bytes, put_copy, schedule_at_unchecked, ScheduleExit, on_schedule, schedule_checks, schedule_at}
use Rattle.schedule.specs.Schedule.{first_record, bytes_of, without_first, due, out_short, pop_first, pop_unchecked, PopExit, on_pop, left_by_pop, pop_checks, pop_ready_at, CanPop}
use Rattle.schedule.specs.Schedule.{first_time, next_deadline, read_checks, len, is_empty, room_of, room}
use Rattle.schedule.specs.Waiting.{WaitingCopy, copy, copy_after, waiting_copy, waiting, put_copies, new_copies, inserted_all, All, of_none, of_more, Popped, nothing, leaves, pop_copies, first_deadline}
use Rattle.schedule.specs.declared.Deliveries.{Deliveries}
use Rattle.schedule.specs.declared.Deliveries.TheVariants.{Lost, One, Two}
use Rattle.schedule.proofs.Ordering.{up_to, Order, by_key, first_of, insert_none, insert_here, insert_later, inserted_length, inserted_all_lem, inserted_false}
use Rattle.refusal.proofs.Laws.{or_false, on_accepted, accepted_none_true, none_true_accepted, either_answer}
use Rattle.schedule.proofs.Sound.{fine, none_broken, place_cons}
use Rattle.schedule.proofs.Memory.{length_filled, within, unbroken, in_order_lem, waiting_count, makes_sound, lacks_is, room_is, short, place_free, place_inside, put_records, put_places, put_length, put_sound, put_next, first_waits, first_fine, first_inside, taken_records, taken_places, taken_length, taken_next, taken_sound}
use Rattle.schedule.proofs.Calls.{can_one, can_first, can_second, lacks, lacks_not}
pub use Rattle.schedule.proofs.Calls.{can_schedule, can_pop_accepted, read_sound}
use Rattle.schedule.proofs.Bytes.{other_copies, filled_bytes, bytes_length}
use Rattle.refusal.specs.Order.{passed}
-- zeros where no packet lies
pub use Rattle.schedule.proofs.Clearing.{new_cleared, schedule_cleared, taken_cleared, pop_cleared}
-- the packet that leaves first
pub use Rattle.schedule.proofs.Removing.{pop_by, FirstPacket, pop_by_first, first_packet}
-- tests
pub use Rattle.schedule.proofs.Sound.{or_both, test_is}

-- ---- making
pub new_waits : (rs : List (List ℕ)) (ps : List ℕ) → waiting (new_schedule rs ps) ≡ []
unfolding waiting
new_waits rs ps = refl

pub new_sound : (rs : List (List ℕ)) (ps : List ℕ) → state_broken (new_schedule rs ps) ≡ false
new_sound rs ps = makes_sound (new_schedule rs ps) (omega arith) (none_broken 0 (place_count (new_schedule rs ps)) vacant)

pub new_times : (rs : List (List ℕ)) (ps : List ℕ) → held_late (waiting_records (new_schedule rs ps)) ≡ false
unfolding held_late
new_times rs ps = refl

-- ---- scheduling
map_inserted : (ps : List ℕ) (r : List ℕ) (rs : List (List ℕ)) → map (waiting_copy ps) (inserted after r rs) ≡ inserted copy_after (waiting_copy ps r) (map (waiting_copy ps) rs)
map_inserted ps r [] = ap (map (waiting_copy ps)) (insert_none after r) ∙ sym (insert_none copy_after (waiting_copy ps r))
map_inserted ps r (x ∷ xs) = go (after x r) refl (map_inserted ps r xs)
  where
    go : (t : Bool) → after x r ≡ t → map (waiting_copy ps) (inserted after r xs) ≡ inserted copy_after (waiting_copy ps r) (map (waiting_copy ps) xs) → map (waiting_copy ps) (inserted after r (x ∷ xs)) ≡ inserted copy_after (waiting_copy ps r) (waiting_copy ps x ∷ map (waiting_copy ps) xs)
    go true e ih = ap (map (waiting_copy ps)) (insert_here after r x xs e) ∙ sym (insert_here copy_after (waiting_copy ps r) (waiting_copy ps x) (map (waiting_copy ps) xs) e)
    go false e ih = ap (map (waiting_copy ps)) (insert_later after r x xs e) ∙ ap (λ (cs : List WaitingCopy). waiting_copy ps x ∷ cs) ih ∙ sym (insert_later copy_after (waiting_copy ps r) (waiting_copy ps x) (map (waiting_copy ps) xs) e)

module _ (m : Schedule) (packet : List ℕ) (can : CanPut m packet) (time : ℕ) where
  -- one copy more, with its bytes; the bytes of the others are as they were
  pub put_waits : waiting (put_copy m time packet) ≡ inserted copy_after (copy time m.scheduler.next_order packet) (waiting m)
  unfolding waiting put_copy
  put_waits =
      let p = lowest_free (place_count m) (waiting_records m) in
      let ps = placed m.places p (place_bytes packet) in
      let r = record4 time m.scheduler.next_order (length packet) p in
      ap (map (waiting_copy ps)) (put_records m packet can time)
      ∙ map_inserted ps r (waiting_records m)
      ∙ ap (λ (cs : List WaitingCopy). inserted copy_after (waiting_copy ps r) cs) (other_copies m.places p (place_bytes packet) (place_inside m packet can) (length_filled packet (short m packet can)) m.scheduler.next_order (place_count m) vacant (waiting_records m) (unbroken m can.sound) (place_free m packet can).1)
      ∙ ap (λ (xs : List ℕ). inserted copy_after (copy time m.scheduler.next_order xs) (map (waiting_copy m.places) (waiting_records m))) (filled_bytes m.places p packet (place_inside m packet can) (short m packet can))

pub schedule_waits : (m : Schedule) (now : ℕ) (packet : List ℕ) (ds : Deliveries) → CanSchedule m now packet ds → waiting (schedule_at_unchecked m now packet ds) ≡ put_copies m.scheduler.next_order now packet ds (waiting m)
unfolding schedule_at_unchecked inserted_all new_copies
schedule_waits m now packet Lost can = refl
schedule_waits m now packet (One d) can = put_waits m packet (can_one m now packet can d refl) (leaves_at now d)
schedule_waits m now packet (Two d e) can =
    let a = can_first m now packet can d e refl in
    let b = can_second m now packet can d e (leaves_at now d) refl refl in
    put_waits (put_copy m (leaves_at now d) packet) packet b (leaves_at now e)
    ∙ ap (λ (n : ℕ). inserted copy_after (copy (leaves_at now e) n packet) (waiting (put_copy m (leaves_at now d) packet))) (put_next m packet a (leaves_at now d))
    ∙ ap (inserted copy_after (copy (leaves_at now e) (m.scheduler.next_order + 1) packet)) (put_waits m packet a (leaves_at now d))

-- ---- what waits: as many as the count says, in leaving order, numbered below the next order, each in a place of its own
module _ (m : Schedule) (sound : state_broken m ≡ false) where
  pub waits_count : length (waiting m) ≡ m.scheduler.count
  unfolding waiting
  waits_count = length-map (waiting_records m) (waiting_copy m.places) ∙ waiting_count m sound

  pub waits_ordered : ordered_from copy_after (copy 0 0 []) (waiting m) ≡ true
  unfolding waiting ordered_from
  waits_ordered = same_order (copy 0 0 []) vacant (waiting_records m) refl refl ∙ in_order_lem m sound
    where
      same_order : (c : WaitingCopy) (r : List ℕ) (rs : List (List ℕ)) → c.time ≡ time_of r → c.order ≡ order_of r → ordered_from copy_after c (map (waiting_copy m.places) rs) ≡ ordered_from after r rs
      same_order c r [] p q = refl
      same_order c r (x ∷ xs) p q = rw (p, q, same_order (waiting_copy m.places x) x xs refl refl)

  pub waits_numbered : (i : ℕ) → i < length (waiting m) → (get_or (waiting m) i (copy 0 0 [])).order < m.scheduler.next_order
  unfolding waiting
  waits_numbered i h = numbered vacant (waiting_records m) i (unbroken m sound) h
    where
      numbered : (front : List ℕ) (rs : List (List ℕ)) (i : ℕ) → broken_from m.scheduler.next_order (place_count m) front rs ≡ false → i < length (map (waiting_copy m.places) rs) → (get_or (map (waiting_copy m.places) rs) i (copy 0 0 [])).order < m.scheduler.next_order
      numbered front [] i b h = absurd (omega arith)
      numbered front (r ∷ rs) zero b h = (fine m.scheduler.next_order (place_count m) front r rs b).below
      numbered front (r ∷ rs) (suc i) b h = numbered r rs i (fine m.scheduler.next_order (place_count m) front r rs b).rest (omega arith)

  -- what `next_deadline_unchecked` asks
  pub count_within : m.scheduler.count ≤ length m.records
  count_within = within m sound

  -- room is left over by what waits
  pub room_left : room_of m ≡ min (place_count m - length (waiting m)) (length m.records - length (waiting m))
  room_left = room_is m sound ∙ ap (λ (n : ℕ). min (place_count m - n) (length m.records - n)) (sym waits_count)

-- check 5 is false of as many copies as there is room for, and true of more
pub room_enough : (m : Schedule) (k : ℕ) → k ≤ room_of m → lacks_room m k ≡ false
room_enough m k h = lacks_not m k refl refl h

pub room_lacks : (m : Schedule) (k : ℕ) → room_of m < k → lacks_room m k ≡ true
room_lacks m k h = lacks m k refl refl h

pub lacks_room_lem : (m : Schedule) (k : ℕ) → lacks_room m k ≡ true → room_of m < k
lacks_room_lem m k e = ltb-true (room_of m) k (lacks_is (unused_places m) (unused_records m) k ∙ e)

-- ---- taking out
module _ (m : Schedule) (sound : state_broken m ≡ false) (some : 0 < m.scheduler.count) where
  -- the first leaves, with its bytes; the others wait as before
  pub taken_waits : waiting m ≡ waiting_copy m.places (first_record m.records) ∷ waiting (without_first m)
  unfolding waiting without_first
  taken_waits =
      let r = first_record m.records in
      let f = first_fine m sound some in
      ap (map (waiting_copy m.places)) (first_waits m sound some)
      ∙ ap (λ (cs : List WaitingCopy). waiting_copy m.places r ∷ cs)
      (sym (other_copies m.places (place_of r) (replicate 1410 0) (first_inside m sound some) (length-replicate {A = ℕ} 1410 0) m.scheduler.next_order (place_count m) r (drop 1 (waiting_records m)) f.rest f.single)
      ∙ ap (map (waiting_copy (placed m.places (place_of r) (replicate 1410 0)))) (sym (taken_records m sound some)))

  pub first_length : length (bytes_of m.places (first_record m.records)) ≡ record_length (first_record m.records)
  first_length = let f = first_fine m sound some in bytes_length m.places (first_record m.records) f.short f.inside

none_waiting : (m : Schedule) → m.scheduler.count ≡ 0 → waiting m ≡ []
unfolding waiting
none_waiting m e = ap (λ (n : ℕ). map (waiting_copy m.places) (take n m.records)) e

-- a buffer of 1,410 bytes takes any packet
pub can_pop : (m : Schedule) (now : ℕ) (out : List ℕ) → state_broken m ≡ false → 1410 ≤ length out → CanPop m now out
can_pop m now out sound h = record { sound = sound; room = go (ltb 0 m.scheduler.count) refl }
  where
    go : (t : Bool) → ltb 0 m.scheduler.count ≡ t → out_short m.scheduler.count m.records now (length out) ≡ false
    go false e = simp e
    go true e =
        let f = first_fine m sound (ltb-true 0 m.scheduler.count e) in
        rw (le-ltb (length out) (record_length (first_record m.records)) (omega (arith, f.short))) (and-false (due m.scheduler.count m.records now))

-- ---- when the next leaves: below the entry point, and as it answers
pub first_time_is : (m : Schedule) → state_broken m ≡ false → first_time m.scheduler.count m.records ≡ first_deadline (waiting m)
unfolding first_deadline
first_time_is m sound = go (ltb 0 m.scheduler.count) refl
  where
    go : (t : Bool) → ltb 0 m.scheduler.count ≡ t → cond t (Ok (Some (time_of (first_record m.records)))) (Ok None) ≡ first_deadline (waiting m)
    go true e = sym (ap first_deadline (taken_waits m sound (ltb-true 0 m.scheduler.count e)))
    go false e = let l = ltb-false 0 m.scheduler.count e in sym (ap first_deadline (none_waiting m (omega arith)))

pub deadline_is : (m : Schedule) → state_broken m ≡ false → counts_broken m ≡ false → held_late (waiting_records m) ≡ false → next_deadline m ≡ first_deadline (waiting m)
unfolding next_deadline
deadline_is m sound counts times = on_accepted Err (first_time m.scheduler.count m.records) (none_true_accepted (read_checks m) (sound, (counts, (times, tt)))) ∙ first_time_is m sound

-- what `pop_ready_at` answers and leaves, by the list of what waits
pub record Pops (m : Schedule) (now : ℕ) (out : List ℕ) (c : WaitingCopy) (cs : List WaitingCopy) : Type 0 where
  pub answer : pop_unchecked m now out ≡ on_pop (without_first m) (c.bytes ++ drop (length c.bytes) out) (Ok (Some (length c.bytes)))
  pub rest : waiting (without_first m) ≡ cs
  pub sound : state_broken (without_first m) ≡ false

first_is : (now : ℕ) (x : WaitingCopy) (xs : List WaitingCopy) (c : WaitingCopy) (cs : List WaitingCopy) → pop_copies now (x ∷ xs) ≡ leaves c cs → (leb x.time now ≡ true) × (x ≡ c) × (xs ≡ cs)
unfolding pop_copies
first_is now x xs c cs h = go (leb x.time now) refl h
  where
    go : (t : Bool) → leb x.time now ≡ t → cond t (leaves x xs) nothing ≡ leaves c cs → (leb x.time now ≡ true) × (x ≡ c) × (xs ≡ cs)
    go true e h = (e, cc, cc)
    go false e h = let z : ◌≡◌ {A = ℕ} 0 1 = cc in absurd (omega arith)

not_first : (now : ℕ) (x : WaitingCopy) (xs : List WaitingCopy) → pop_copies now (x ∷ xs) ≡ nothing → leb x.time now ≡ false
unfolding pop_copies
not_first now x xs h = go (leb x.time now) refl h
  where
    go : (t : Bool) → leb x.time now ≡ t → cond t (leaves x xs) nothing ≡ nothing → leb x.time now ≡ false
    go true e h = let z : ◌≡◌ {A = ℕ} 0 1 = cc in absurd (omega arith)
    go false e h = e

none_pops : (now : ℕ) (c : WaitingCopy) (cs : List WaitingCopy) → pop_copies now [] ≡ leaves c cs → ⊥
unfolding pop_copies
none_pops now c cs h = let z : ◌≡◌ {A = ℕ} 0 1 = cc in omega arith

pub pop_first_lem : (now : ℕ) (ws : List WaitingCopy) (c : WaitingCopy) (cs : List WaitingCopy) → pop_copies now ws ≡ leaves c cs → (ws ≡ c ∷ cs) × (c.time ≤ now)
pop_first_lem now [] c cs h = absurd (none_pops now c cs h)
pop_first_lem now (x ∷ xs) c cs h =
    let f = first_is now x xs c cs h in
    (ap (λ (y : WaitingCopy). y ∷ xs) f.1 ∙ ap (λ (l : List WaitingCopy). c ∷ l) f.2, rw (← f.1) (leb-true x.time now f.0))

pub pop_packet : (m : Schedule) (now : ℕ) (out : List ℕ) (c : WaitingCopy) (cs : List WaitingCopy) → state_broken m ≡ false → pop_copies now (waiting m) ≡ leaves c cs → Pops m now out c cs
unfolding pop_unchecked
pop_packet m now out c cs sound h = go (ltb 0 m.scheduler.count) refl
  where
    same : (x : List ℕ) (k : ℕ) → x ≡ c.bytes → k ≡ length c.bytes → on_pop (without_first m) (x ++ drop k out) (Ok (Some k)) ≡ on_pop (without_first m) (c.bytes ++ drop (length c.bytes) out) (Ok (Some (length c.bytes)))
    same x k p q = rw (p, q)

    go : (t : Bool) → ltb 0 m.scheduler.count ≡ t → Pops m now out c cs
    go false e = let l = ltb-false 0 m.scheduler.count e in absurd (none_pops now c cs (ap (pop_copies now) (sym (none_waiting m (omega arith))) ∙ h))
    go true e =
        let some = ltb-true 0 m.scheduler.count e in
        let x = waiting_copy m.places (first_record m.records) in
        let f = first_is now x (waiting (without_first m)) c cs (ap (pop_copies now) (sym (taken_waits m sound some)) ∙ h) in
        let b : bytes_of m.places (first_record m.records) ≡ c.bytes = ap (λ (y : WaitingCopy). y.bytes) f.1 in
        let n : record_length (first_record m.records) ≡ length c.bytes = sym (first_length m sound some) ∙ ap length b in
        record { answer = simp (e, f.0) (same (bytes_of m.places (first_record m.records)) (record_length (first_record m.records)) b n); rest = f.2; sound = taken_sound m sound some }

pub pop_nothing : (m : Schedule) (now : ℕ) (out : List ℕ) → state_broken m ≡ false → pop_copies now (waiting m) ≡ nothing → pop_unchecked m now out ≡ on_pop m out (Ok None)
unfolding pop_unchecked
pop_nothing m now out sound h = go (ltb 0 m.scheduler.count) refl
  where
    go : (t : Bool) → ltb 0 m.scheduler.count ≡ t → pop_unchecked m now out ≡ on_pop m out (Ok None)
    go false e = simp e
    go true e =
        let some = ltb-true 0 m.scheduler.count e in
        let x = waiting_copy m.places (first_record m.records) in
        let f = not_first now x (waiting (without_first m)) (ap (pop_copies now) (sym (taken_waits m sound some)) ∙ h) in
        simp (e, f)

-- ---- what a call that isn't refused leaves beside the list: slices of the same lengths, and a state that the next call accepts
pub record Leaves (m m' : Schedule) (orders : ℕ) : Type 0 where
  pub records : length m'.records ≡ length m.records
  pub places : length m'.places ≡ length m.places
  pub next : m'.scheduler.next_order ≡ m.scheduler.next_order + orders
  pub sound : state_broken m' ≡ false
  pub times : held_late (waiting_records m') ≡ false

held_first : (r : List ℕ) (rs : List (List ℕ)) → held_late (r ∷ rs) ≡ (late (time_of r) || held_late rs)
unfolding held_late
held_first r rs = refl

held_inserted : (r : List ℕ) (rs : List (List ℕ)) → late (time_of r) ≡ false → held_late rs ≡ false → held_late (inserted after r rs) ≡ false
unfolding held_late
held_inserted = inserted_false after (λ r. late (time_of r)) held_late refl held_first

put_leaves : (m : Schedule) (packet : List ℕ) → CanPut m packet → (time : ℕ) → late time ≡ false → held_late (waiting_records m) ≡ false → Leaves m (put_copy m time packet) 1
put_leaves m packet can time h k =
    record {
      records = put_length m packet can time;
      places = put_places m packet can time;
      next = put_next m packet can time;
      sound = put_sound m packet can time;
      times = ap held_late (put_records m packet can time) ∙ held_inserted (record4 time m.scheduler.next_order (length packet) (lowest_free (place_count m) (waiting_records m))) (waiting_records m) h k;
    }

unchanged : {m : Schedule} → state_broken m ≡ false → held_late (waiting_records m) ≡ false → Leaves m m 0
unchanged {m} sound h = record { records = refl; places = refl; next = sym (add-zero m.scheduler.next_order); sound = sound; times = h }

then : {m m' m'' : Schedule} {j k : ℕ} → Leaves m m' j → Leaves m' m'' k → Leaves m m'' (j + k)
then {m} {j = j} {k = k} f g = record { records = g.records ∙ f.records; places = g.places ∙ f.places; next = g.next ∙ ap (λ (n : ℕ). n + k) f.next ∙ add_assoc m.scheduler.next_order j k; sound = g.sound; times = g.times }

pub schedule_leaves : (m : Schedule) (now : ℕ) (packet : List ℕ) (ds : Deliveries) → CanSchedule m now packet ds → held_late (waiting_records m) ≡ false → Leaves m (schedule_at_unchecked m now packet ds) (copies ds)
unfolding schedule_at_unchecked
schedule_leaves m now packet Lost can h = unchanged can.sound h
schedule_leaves m now packet (One d) can h = put_leaves m packet (can_one m now packet can d refl) (leaves_at now d) (or_false (ltb 180000 d) (late (leaves_at now d)) can.times).1 h
schedule_leaves m now packet (Two d e) can h =
    let t = or_false (delay_late now d) (delay_late now e) can.times in
    let f = put_leaves m packet (can_first m now packet can d e refl) (leaves_at now d) (or_false (ltb 180000 d) (late (leaves_at now d)) t.0).1 h in
    then f (put_leaves (put_copy m (leaves_at now d) packet) packet (can_second m now packet can d e (leaves_at now d) refl refl) (leaves_at now e) (or_false (ltb 180000 e) (late (leaves_at now e)) t.1).1 f.times)

pub taken_leaves : (m : Schedule) → state_broken m ≡ false → 0 < m.scheduler.count → held_late (waiting_records m) ≡ false → Leaves m (without_first m) 0
taken_leaves m sound some h =
    record {
      records = taken_length m sound some;
      places = taken_places m sound some;
      next = taken_next m sound some ∙ sym (add-zero m.scheduler.next_order);
      sound = taken_sound m sound some;
      times = ap held_late (taken_records m sound some) ∙ (or_false (late (time_of (first_record m.records))) (held_late (drop 1 (waiting_records m))) (sym (held_first (first_record m.records) (drop 1 (waiting_records m))) ∙ ap held_late (sym (first_waits m sound some)) ∙ h)).1;
    }

-- what waits and what was given are in bounds: scheduling may go on
abbrev pub DelaysInBounds : Deliveries → Type 0
DelaysInBounds Lost = Prim.Unit {0}
DelaysInBounds (One d) = d ≤ max_delivery_delay
DelaysInBounds (Two d e) = (d ≤ max_delivery_delay) × (e ≤ max_delivery_delay)

pub delays_in_time : (now : ℕ) (ds : Deliveries) → leaves_at now max_delivery_delay ≤ max_time → DelaysInBounds ds → deliveries_late now ds ≡ false
delays_in_time now ds h = go ds
  where
    one : (d : ℕ) → d ≤ max_delivery_delay → delay_late now d ≡ false
    one d k = or_both (ltb max_delivery_delay d) (late (leaves_at now d)) (le-ltb max_delivery_delay d k) (le-ltb max_time (leaves_at now d) (sooner d k))
      where
        sooner : (d : ℕ) → d ≤ max_delivery_delay → leaves_at now d ≤ max_time
        sooner d k = omega arith

    go : (ds : Deliveries) → DelaysInBounds ds → deliveries_late now ds ≡ false
    go Lost k = refl
    go (One d) k = one d k
    go (Two d e) k = or_both (delay_late now d) (delay_late now e) (one d k.0) (one e k.1)

pub can_schedule_at : (m : Schedule) (now : ℕ) (packet : List ℕ) (ds : Deliveries) → state_broken m ≡ false → m.scheduler.next_order < count_limit → now ≤ max_duration → DelaysInBounds ds → length packet ≤ max_datagram → copies ds ≤ room_of m → CanSchedule m now packet ds
can_schedule_at m now packet ds sound n t d l r =
    record { sound = sound; counts = lt-leb count_limit m.scheduler.next_order n; times = delays_in_time now ds (omega arith) d; short = le-ltb max_datagram (length packet) l; room = room_enough m (copies ds) r }

-- taking, whatever it answers
pub pop_leaves : (m : Schedule) (now : ℕ) (out : List ℕ) → state_broken m ≡ false → held_late (waiting_records m) ≡ false → Leaves m (left_by_pop (pop_unchecked m now out)) 0
unfolding pop_unchecked
pop_leaves m now out sound h = go (ltb 0 m.scheduler.count) refl (leb (time_of (first_record m.records)) now)
  where
    go : (t : Bool) → ltb 0 m.scheduler.count ≡ t → (u : Bool) → Leaves m (left_by_pop (cond (t && u) (pop_first m out) (on_pop m out (Ok None)))) 0
    go true e true = taken_leaves m sound (ltb-true 0 m.scheduler.count e) h
    go true e false = unchanged sound h
    go false e u = unchanged sound h

-- ---- the answer of a call below the entry point: never a refusal; and where there is nothing to take, all is as it was
pub pop_never_refused : (m : Schedule) (now : ℕ) (out : List ℕ) (r : Refusal) → (pop_unchecked m now out).result.answer ≡ Err r → ⊥
unfolding pop_unchecked
pop_never_refused m now out r = go (due m.scheduler.count m.records now)
  where
    go : (t : Bool) → (cond t (pop_first m out) (on_pop m out (Ok None))).result.answer ≡ Err r → ⊥
    go true e = let z : ◌≡◌ {A = ℕ} 0 1 = cc in omega arith
    go false e = let z : ◌≡◌ {A = ℕ} 0 1 = cc in omega arith

pub pop_idle : (m : Schedule) (now : ℕ) (out : List ℕ) → (pop_unchecked m now out).result.answer ≡ Ok None → pop_unchecked m now out ≡ on_pop m out (Ok None)
unfolding pop_unchecked
pop_idle m now out = go (due m.scheduler.count m.records now)
  where
    go : (t : Bool) → (cond t (pop_first m out) (on_pop m out (Ok None))).result.answer ≡ Ok None
        → cond t (pop_first m out) (on_pop m out (Ok None)) ≡ on_pop m out (Ok None)
    go true e = let z : ◌≡◌ {A = ℕ} 0 1 = cc in absurd (omega arith)
    go false e = refl

-- what `pop_ready_at_unchecked` takes, and what it leaves
pub record Takes (P : WaitingCopy → Type 0) (m : Schedule) (now : ℕ) (out : List ℕ) (n : ℕ) : Type 0 where
  pub copy : WaitingCopy
  pub holds : P copy
  pub due : copy.time ≤ now
  pub size : length copy.bytes ≡ n
  pub written : (pop_unchecked m now out).out ≡ copy.bytes ++ drop n out
  pub first : waiting m ≡ copy ∷ waiting (left_by_pop (pop_unchecked m now out))

-- ---- what holds of each copy that waits is kept, where it holds of the new ones
module _ {P : WaitingCopy → Type 0} where
  pub inserted_each : (xs cs : List WaitingCopy) → All P xs → All P cs → All P (inserted_all xs cs)
  unfolding inserted_all
  inserted_each [] cs h a = a
  inserted_each (x ∷ xs) cs (of_more h k) a = inserted_each xs (inserted copy_after x cs) k (inserted_all_lem copy_after x cs h a)

  pub schedule_all : (m : Schedule) (now : ℕ) (packet : List ℕ) (ds : Deliveries) → CanSchedule m now packet ds → All P (new_copies m.scheduler.next_order now packet ds) → All P (waiting m) → All P (waiting (schedule_at_unchecked m now packet ds))
  schedule_all m now packet ds can h a = subst (All P) (sym (schedule_waits m now packet ds can)) (inserted_each (new_copies m.scheduler.next_order now packet ds) (waiting m) h a)

  first_rest : {x : WaitingCopy} {xs : List WaitingCopy} → All P (x ∷ xs) → P x × All P xs
  first_rest (of_more h k) = (h, k)

  pub taken_all : (m : Schedule) → state_broken m ≡ false → 0 < m.scheduler.count → All P (waiting m) → P (waiting_copy m.places (first_record m.records)) × All P (waiting (without_first m))
  taken_all m sound some a = first_rest (subst (All P) (taken_waits m sound some) a)

  module _ (m : Schedule) (now : ℕ) (out : List ℕ) (sound : state_broken m ≡ false) (a : All P (waiting m)) where
    pub pop_all : All P (waiting (left_by_pop (pop_unchecked m now out)))
    pop_all = go (pop_copies now (waiting m)) refl
      where
        go : (z : Popped) → pop_copies now (waiting m) ≡ z → All P (waiting (left_by_pop (pop_unchecked m now out)))
        go nothing e = subst (λ (x : PopExit). All P (waiting (left_by_pop x))) (sym (pop_nothing m now out sound e)) a
        go (leaves c cs) e =
            let p = pop_packet m now out c cs sound e in
            subst (λ (x : PopExit). All P (waiting (left_by_pop x))) (sym p.answer) (subst (All P) (sym p.rest) (first_rest (subst (All P) (pop_first_lem now (waiting m) c cs e).0 a)).1)

    pub pop_takes : (n : ℕ) → (pop_unchecked m now out).result.answer ≡ Ok (Some n) → Takes P m now out n
    pop_takes n h = go (pop_copies now (waiting m)) refl
      where
        go : (z : Popped) → pop_copies now (waiting m) ≡ z → Takes P m now out n
        go nothing e = let k = ap (λ (x : PopExit). x.result.answer) (sym (pop_nothing m now out sound e)) ∙ h in let z : ◌≡◌ {A = ℕ} 0 1 = cc in absurd (omega arith)
        go (leaves c cs) e =
            let p = pop_packet m now out c cs sound e in
            let f = pop_first_lem now (waiting m) c cs e in
            let s : length c.bytes ≡ n = let k = ap (λ (x : PopExit). x.result.answer) (sym p.answer) ∙ h in cc in
            record {
              copy = c;
              holds = (first_rest (subst (All P) f.0 a)).0;
              due = f.1;
              size = s;
              written = ap (λ (x : PopExit). x.out) p.answer ∙ ap (λ (k : ℕ). c.bytes ++ drop k out) s;
              first = f.0 ∙ ap (λ (xs : List WaitingCopy). c ∷ xs) (sym (ap (λ (x : PopExit). waiting (left_by_pop x)) p.answer ∙ p.rest));
            }

pub all_weaker : {A : Type 0} {P Q : A → Type 0} {xs : List A} → ((x : A) → P x → Q x) → All P xs → All Q xs
all_weaker f of_none = of_none
all_weaker f (of_more {x} h k) = of_more (f x h) (all_weaker f k)

-- ---- an accepted call is the call below its entry point
module _ (m : Schedule) (now : ℕ) (packet : List ℕ) (ds : Deliveries) where
  pub schedule_accepted : verdict (schedule_checks m now (length packet) ds) ≡ passed → schedule_at m now packet ds ≡ on_schedule (schedule_at_unchecked m now packet ds) passed
  unfolding schedule_at
  schedule_accepted e = on_accepted _ _ e

  pub schedule_accepts : CanSchedule m now packet ds → late now ≡ false → held_late (waiting_records m) ≡ false → verdict (schedule_checks m now (length packet) ds) ≡ passed
  schedule_accepts c t h = none_true_accepted (schedule_checks m now (length packet) ds) (c.sound, (c.counts, (or_both _ _ t (or_both _ _ h c.times), (c.short, (c.room, tt)))))

  pub schedule_done : (schedule_at m now packet ds).result.answer ≡ passed → verdict (schedule_checks m now (length packet) ds) ≡ passed
  unfolding schedule_at
  schedule_done =
      either_answer (λ (x : ScheduleExit). x.result.answer ≡ passed → verdict (schedule_checks m now (length packet) ds) ≡ passed) (verdict (schedule_checks m now (length packet) ds)) _ _
      (λ r e. let z : ◌≡◌ {A = ℕ} 0 1 = cc in absurd (omega arith)) (λ v e. v)

  -- what an accepted call found of the times
  pub schedule_times : verdict (schedule_checks m now (length packet) ds) ≡ passed → (late now ≡ false) × (held_late (waiting_records m) ≡ false)
  schedule_times e =
      let t = or_false (late now) (held_late (waiting_records m) || deliveries_late now ds) (accepted_none_true (schedule_checks m now (length packet) ds) e).1.1.0 in
      (t.0, (or_false (held_late (waiting_records m)) (deliveries_late now ds) t.1).0)

module _ (m : Schedule) (now : ℕ) (out : List ℕ) where
  pub pop_accepted : verdict (pop_checks m now (length out)) ≡ passed → pop_ready_at m now out ≡ pop_unchecked m now out
  unfolding pop_ready_at
  pop_accepted e = on_accepted _ _ e

  pub pop_accepts : CanPop m now out → counts_broken m ≡ false → late now ≡ false → held_late (waiting_records m) ≡ false → verdict (pop_checks m now (length out)) ≡ passed
  pop_accepts c n t h = none_true_accepted (pop_checks m now (length out)) (c.sound, (n, (or_both _ _ t h, (c.room, tt))))

  pub pop_times : verdict (pop_checks m now (length out)) ≡ passed → (late now ≡ false) × (held_late (waiting_records m) ≡ false)
  pop_times e = or_false (late now) (held_late (waiting_records m)) (accepted_none_true (pop_checks m now (length out)) e).1.1.0

module _ (m : Schedule) where
  pub read_accepts : state_broken m ≡ false → counts_broken m ≡ false → held_late (waiting_records m) ≡ false → verdict (read_checks m) ≡ passed
  read_accepts s n h = none_true_accepted (read_checks m) (s, (n, (h, tt)))

  module _ (e : verdict (read_checks m) ≡ passed) where
    pub deadline_accepted : next_deadline m ≡ first_time m.scheduler.count m.records
    unfolding next_deadline
    deadline_accepted = on_accepted _ _ e

    pub len_accepted : len m ≡ Ok m.scheduler.count
    unfolding len
    len_accepted = on_accepted _ _ e

    pub empty_accepted : is_empty m ≡ Ok (eqb m.scheduler.count 0)
    unfolding is_empty
    empty_accepted = on_accepted _ _ e

    pub room_accepted : room m ≡ Ok (room_of m)
    unfolding room
    room_accepted = on_accepted _ _ e

-- ---- the order of leaving
-- in a list in order nothing leaves before what stands in front of it
never_before : {A : Type 0} (aft : A → A → Bool) (o : Order aft) (d p : A) (xs : List A) (i : ℕ) → ordered_from aft p xs ≡ true → i < length xs → aft p (get_or xs i d) ≡ false
never_before aft o d p [] i h l = absurd (omega arith)
never_before aft o d p (x ∷ xs) zero h l = (first_of aft p x xs h).0
never_before aft o d p (x ∷ xs) (suc i) h l = let f = first_of aft p x xs h in o.chain p x (get_or xs i d) f.0 (never_before aft o d x xs i f.1 (omega arith))

pub copies_order : Order copy_after
copies_order = by_key (λ (c : WaitingCopy). c.time) (λ (c : WaitingCopy). c.order)

-- the first that waits has a time below that of each other, or the same time and an order at most as great
pub first_least : (m : Schedule) (c : WaitingCopy) (cs : List WaitingCopy) (i : ℕ) → state_broken m ≡ false → waiting m ≡ c ∷ cs → i < length cs → (c.time < (get_or cs i c).time) ⊎ ((c.time ≡ (get_or cs i c).time) × (c.order ≤ (get_or cs i c).order))
first_least m c cs i sound e l =
    up_to c.time c.order (get_or cs i c).time (get_or cs i c).order
    (never_before copy_after copies_order c c cs i (first_of copy_after (copy 0 0 []) c cs (ap (ordered_from copy_after (copy 0 0 [])) (sym e) ∙ waits_ordered m sound)).1 l)

-- the places of waiting records are distinct
apart_in : (next n : ℕ) (front : List ℕ) (rs : List (List ℕ)) (i j : ℕ) → broken_from next n front rs ≡ false → i < j → j < length rs → place_of (get_or rs i []) ≡ place_of (get_or rs j []) → ⊥
apart_in next n front [] i j h a b e = omega arith
apart_in next n front (r ∷ rs) i zero h a b e = omega arith
apart_in next n front (r ∷ rs) zero (suc j) h a b e = true≢false (sym (found (place_of r) rs j (omega arith) e) ∙ (fine next n front r rs h).single)
  where
    found : (p : ℕ) (rs : List (List ℕ)) (j : ℕ) → j < length rs → p ≡ place_of (get_or rs j []) → place_in p rs ≡ true
    found p [] j l e = absurd (omega arith)
    found p (x ∷ xs) zero l e = place_cons p x xs ∙ ap (λ (b : Bool). b || place_in p xs) (eq-eqb p (place_of x) e)
    found p (x ∷ xs) (suc j) l e = place_cons p x xs ∙ ap (λ (b : Bool). eqb p (place_of x) || b) (found p xs j (omega arith) e) ∙ or-true (eqb p (place_of x))
apart_in next n front (r ∷ rs) (suc i) (suc j) h a b e = apart_in next n r rs i j (fine next n front r rs h).rest (omega arith) (omega arith) e

pub places_apart : (m : Schedule) (i j : ℕ) → state_broken m ≡ false → i < j → j < m.scheduler.count → place_of (get_or (waiting_records m) i []) ≡ place_of (get_or (waiting_records m) j []) → ⊥
places_apart m i j sound a b e = apart_in m.scheduler.next_order (place_count m) vacant (waiting_records m) i j (unbroken m sound) a (rw (waiting_count m sound) b) e

-- ---- nothing is lost and nothing is added: as many wait as before and were granted; one that leaves was the first
each_inserted : (xs cs : List WaitingCopy) → length (inserted_all xs cs) ≡ length cs + length xs
unfolding inserted_all
each_inserted [] cs = sym (add-zero (length cs))
each_inserted (x ∷ xs) cs = let i = each_inserted xs (inserted copy_after x cs) in let l = inserted_length copy_after x cs in omega arith

pub put_count : (next now : ℕ) (packet : List ℕ) (ds : Deliveries) (cs : List WaitingCopy) → length (put_copies next now packet ds cs) ≡ length cs + copies ds
unfolding new_copies
put_count next now packet ds cs = each_inserted (new_copies next now packet ds) cs ∙ ap (λ (n : ℕ). length cs + n) (new_count ds)
  where
    new_count : (ds : Deliveries) → length (new_copies next now packet ds) ≡ copies ds
    new_count Lost = refl
    new_count (One d) = refl
    new_count (Two d e) = refl

pub none_due : (now : ℕ) (x : WaitingCopy) (xs : List WaitingCopy) → pop_copies now (x ∷ xs) ≡ nothing → now < x.time
none_due now x xs h = leb-false x.time now (not_first now x xs h)
