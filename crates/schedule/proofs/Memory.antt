-- A schedule of which check 9 is false: its counts, and that it stays so where a copy is put in or taken out.
use mathlib.Core.Path.{◌≡◌, refl, sym, ◌∙◌, ap}
use Prim.Native.Nat.{ℕ, suc, ◌<◌, ◌≤◌, ◌+◌, ◌-◌, ◌*◌, ◌/◌, min}
use native.Mathlib.Omega.{arith}
use native.Mathlib.Numerals.{add-one}
use mathlib.Core.Bool.{Bool, true, false, ◌||◌}
use mathlib.Core.List.{List, [], ◌∷◌, ◌++◌}
use lib.ListN.{length, take, drop, replicate, length-append, length-replicate, length-drop}
use lib.Seq.{length-take-le, take_at}
use lib.Dec.{ltb}
use borrow.Author.Tests.{ltb-true, ltb-false, lt-ltb, le-ltb}
use Rattle.refusal.proofs.Laws.{or_false}
use Rattle.schedule.specs.Record.{record4, place_of, vacant, after, inserted, ordered, place_in, free_places, lowest_free}
use Rattle.schedule.specs.State.{Schedule, waiting_records, place_count, broken_from, state_broken, unused_records, unused_places, lacks_room, CanPut}
use Rattle.schedule.specs.Internal.{doubled, outside}
use Rattle.schedule.specs.Schedule.{placed, place_bytes, put_copy, first_record, without_first, room_of}
use Rattle.schedule.proofs.Ordering.{inserted_length, least}
use Rattle.schedule.proofs.Sound.{or_both, Fine, fine, sound_ordered, inserted_sound, rest_sound}
use Rattle.schedule.proofs.Doubled.{sound_inside, sound_single}
use Rattle.schedule.proofs.FreePlaces.{free_count, free_head}
use Rattle.schedule.proofs.Lists.{rest_cons}

-- ---- what check 9 says, false
module _ (m : Schedule) (sound : state_broken m ≡ false) where
  pub within : m.scheduler.count ≤ length m.records
  unfolding state_broken
  within = ltb-false (length m.records) m.scheduler.count (or_false (ltb (length m.records) m.scheduler.count) (broken_from m.scheduler.next_order (place_count m) vacant (waiting_records m)) sound).0

  pub unbroken : broken_from m.scheduler.next_order (place_count m) vacant (waiting_records m) ≡ false
  unfolding state_broken
  unbroken = (or_false (ltb (length m.records) m.scheduler.count) (broken_from m.scheduler.next_order (place_count m) vacant (waiting_records m)) sound).1

  pub in_order_lem : ordered (waiting_records m) ≡ true
  in_order_lem = sound_ordered m.scheduler.next_order (place_count m) vacant (waiting_records m) unbroken

  pub waiting_count : length (waiting_records m) ≡ m.scheduler.count
  waiting_count = length-take-le m.scheduler.count m.records within

  pub inside : outside (place_count m) (waiting_records m) ≡ false
  inside = sound_inside m.scheduler.next_order (place_count m) vacant (waiting_records m) unbroken

  pub single : doubled (waiting_records m) ≡ false
  single = sound_single m.scheduler.next_order (place_count m) vacant (waiting_records m) unbroken

  pub places_count : unused_places m + m.scheduler.count ≡ place_count m
  places_count = ap (λ (n : ℕ). unused_places m + n) (sym waiting_count) ∙ free_count (place_count m) (waiting_records m) inside single

pub makes_sound : (m : Schedule) → m.scheduler.count ≤ length m.records → broken_from m.scheduler.next_order (place_count m) vacant (waiting_records m) ≡ false → state_broken m ≡ false
unfolding state_broken
makes_sound m h k = or_both (ltb (length m.records) m.scheduler.count) (broken_from m.scheduler.next_order (place_count m) vacant (waiting_records m)) (le-ltb (length m.records) m.scheduler.count h) k

-- ---- room
pub room_for : (m : Schedule) (k : ℕ) → lacks_room m k ≡ false → (k ≤ unused_places m) × (k ≤ unused_records m)
room_for m k h = (ltb-false (unused_places m) k (or_false (ltb (unused_places m) k) (ltb (unused_records m) k) h).0, ltb-false (unused_records m) k (or_false (ltb (unused_places m) k) (ltb (unused_records m) k) h).1)

pub has_room : (m : Schedule) (k : ℕ) → k ≤ unused_places m → k ≤ unused_records m → lacks_room m k ≡ false
has_room m k a b = or_both (ltb (unused_places m) k) (ltb (unused_records m) k) (le-ltb (unused_places m) k a) (le-ltb (unused_records m) k b)

pub lacks_is : (a b k : ℕ) → ltb (min a b) k ≡ (ltb a k || ltb b k)
lacks_is a b k = go (ltb a k) refl (ltb b k) refl
  where
    go : (t : Bool) → ltb a k ≡ t → (u : Bool) → ltb b k ≡ u → ltb (min a b) k ≡ (ltb a k || ltb b k)
    go true p u q = let l = ltb-true a k p in lt-ltb (min a b) k (omega arith) ∙ sym (ap (λ (x : Bool). x || ltb b k) p)
    go false p true q = let l = ltb-true b k q in lt-ltb (min a b) k (omega arith) ∙ sym (ap (λ (x : Bool). x || ltb b k) p ∙ q)
    go false p false q = let l = ltb-false a k p in let j = ltb-false b k q in le-ltb (min a b) k (omega arith) ∙ sym (ap (λ (x : Bool). x || ltb b k) p ∙ q)

-- ---- places
pub length_filled : (p : List ℕ) → length p ≤ 1410 → length (place_bytes p) ≡ 1410
length_filled p h = length-append p (replicate (1410 - length p) 0) ∙ rw length-replicate (omega arith)

pub length_placed : (ps : List ℕ) (p : ℕ) (bytes : List ℕ) → p * 1410 + 1410 ≤ length ps → length bytes ≡ 1410 → length (placed ps p bytes) ≡ length ps
length_placed ps p bytes h e =
    length-append (take (p * 1410) ps ++ bytes) (drop (p * 1410 + 1410) ps)
    ∙ ap (λ (n : ℕ). n + length (drop (p * 1410 + 1410) ps)) (length-append (take (p * 1410) ps) bytes ∙ ap (λ (n : ℕ). n + length bytes) (length-take-le (p * 1410) ps (omega arith)))
    ∙ rw (length-drop, e) (omega arith)

-- a place of the store lies in it
pub place_within : (n p : ℕ) → p < n / 1410 → p * 1410 + 1410 ≤ n
place_within n p h = omega arith

-- ---- a copy put in
module _ (m : Schedule) (packet : List ℕ) (can : CanPut m packet) where
  pub short : length packet ≤ 1410
  short = ltb-false 1410 (length packet) can.short

  pub slot : m.scheduler.count < length m.records
  slot = let r = (room_for m 1 can.room).1 in let w = within m can.sound in omega arith

  pub some_free : 0 < length (free_places (place_count m) (waiting_records m))
  some_free = let r = (room_for m 1 can.room).0 in omega arith

  pub place_free : (lowest_free (place_count m) (waiting_records m) < place_count m) × (place_in (lowest_free (place_count m) (waiting_records m)) (waiting_records m) ≡ false)
  place_free = let f = free_head (place_count m) 0 (waiting_records m) some_free in (omega (arith, f.0), f.1)

  pub place_inside : lowest_free (place_count m) (waiting_records m) * 1410 + 1410 ≤ length m.places
  place_inside = place_within (length m.places) (lowest_free (place_count m) (waiting_records m)) place_free.0

  module _ (time : ℕ) where
    pub put_records : waiting_records (put_copy m time packet) ≡ inserted after (record4 time m.scheduler.next_order (length packet) (lowest_free (place_count m) (waiting_records m))) (waiting_records m)
    unfolding put_copy
    put_records =
        let r = record4 time m.scheduler.next_order (length packet) (lowest_free (place_count m) (waiting_records m)) in
        take_at (inserted after r (waiting_records m)) (drop (m.scheduler.count + 1) m.records) (m.scheduler.count + 1) (inserted_length after r (waiting_records m) ∙ ap suc (waiting_count m can.sound) ∙ sym (add-one m.scheduler.count))

    pub put_places : length (put_copy m time packet).places ≡ length m.places
    unfolding put_copy
    put_places = length_placed m.places (lowest_free (place_count m) (waiting_records m)) (place_bytes packet) place_inside (length_filled packet short)

    pub put_length : length (put_copy m time packet).records ≡ length m.records
    unfolding put_copy
    put_length =
        let r = record4 time m.scheduler.next_order (length packet) (lowest_free (place_count m) (waiting_records m)) in
        let a = inserted_length after r (waiting_records m) in
        let b = waiting_count m can.sound in
        let s = slot in
        length-append (inserted after r (waiting_records m)) (drop (m.scheduler.count + 1) m.records) ∙ rw length-drop (omega arith)

    pub put_count : (put_copy m time packet).scheduler.count ≡ m.scheduler.count + 1
    unfolding put_copy
    put_count = refl

    pub put_next : (put_copy m time packet).scheduler.next_order ≡ m.scheduler.next_order + 1
    unfolding put_copy
    put_next = refl

    pub put_sound : state_broken (put_copy m time packet) ≡ false
    put_sound =
        let p = place_free in
        makes_sound (put_copy m time packet) (rw (put_count, put_length) (omega (arith, slot)))
        (ap (λ (n : ℕ). broken_from (put_copy m time packet).scheduler.next_order (n / 1410) vacant (waiting_records (put_copy m time packet))) put_places
        ∙ ap (broken_from (put_copy m time packet).scheduler.next_order (place_count m) vacant) put_records
        ∙ ap (λ (n : ℕ). broken_from n (place_count m) vacant (inserted after (record4 time m.scheduler.next_order (length packet) (lowest_free (place_count m) (waiting_records m))) (waiting_records m))) put_next
        ∙ inserted_sound m.scheduler.next_order (place_count m) vacant (record4 time m.scheduler.next_order (length packet) (lowest_free (place_count m) (waiting_records m))) (waiting_records m) (least time m.scheduler.next_order) short refl p.0 p.1 (unbroken m can.sound))

    -- there is room for one less
    pub put_room : (k : ℕ) → lacks_room m (k + 1) ≡ false → lacks_room (put_copy m time packet) k ≡ false
    put_room k h =
        let r = room_for m (k + 1) h in
        let a = places_count m can.sound in
        let b = places_count (put_copy m time packet) put_sound in
        let e : place_count (put_copy m time packet) ≡ place_count m = ap (λ (n : ℕ). n / 1410) put_places in
        let n = put_count in
        let l = put_length in
        has_room (put_copy m time packet) k (left (unused_places m) m.scheduler.count (unused_places (put_copy m time packet)) (put_copy m time packet).scheduler.count k (b ∙ e ∙ sym a) n r.0) (rw (n, l) (less (length m.records) m.scheduler.count k r.1))
      where
        left : (a c b d k : ℕ) → b + d ≡ a + c → d ≡ c + 1 → k + 1 ≤ a → k ≤ b
        left a c b d k e f g = omega arith

        less : (l c k : ℕ) → k + 1 ≤ l - c → k ≤ l - (c + 1)
        less l c k h = omega arith

-- ---- how many copies more there is room for
pub room_is : (m : Schedule) → state_broken m ≡ false → room_of m ≡ min (place_count m - m.scheduler.count) (length m.records - m.scheduler.count)
room_is m sound = let a = places_count m sound in ap (λ (n : ℕ). min n (unused_records m)) (less (unused_places m) m.scheduler.count (place_count m) a)
  where
    less : (a c n : ℕ) → a + c ≡ n → a ≡ n - c
    less a c n e = omega arith

-- ---- the first taken out
module _ (m : Schedule) (sound : state_broken m ≡ false) (some : 0 < m.scheduler.count) where
  pub first_waits : waiting_records m ≡ first_record m.records ∷ drop 1 (waiting_records m)
  first_waits = rest_cons [] m.scheduler.count 0 m.records some (within m sound)

  pub first_fine : Fine m.scheduler.next_order (place_count m) vacant (first_record m.records) (drop 1 (waiting_records m))
  first_fine = fine m.scheduler.next_order (place_count m) vacant (first_record m.records) (drop 1 (waiting_records m)) (ap (broken_from m.scheduler.next_order (place_count m) vacant) (sym first_waits) ∙ unbroken m sound)

  pub first_inside : place_of (first_record m.records) * 1410 + 1410 ≤ length m.places
  first_inside = place_within (length m.places) (place_of (first_record m.records)) first_fine.inside

  pub taken_records : waiting_records (without_first m) ≡ drop 1 (waiting_records m)
  unfolding without_first
  taken_records = take_at (drop 1 (waiting_records m)) (vacant ∷ drop m.scheduler.count m.records) (m.scheduler.count - 1) (length-drop 1 (waiting_records m) ∙ ap (λ (n : ℕ). n - 1) (waiting_count m sound))

  pub taken_places : length (without_first m).places ≡ length m.places
  unfolding without_first
  taken_places = length_placed m.places (place_of (first_record m.records)) (replicate 1410 0) first_inside (length-replicate {A = ℕ} 1410 0)

  pub taken_length : length (without_first m).records ≡ length m.records
  unfolding without_first
  taken_length =
      let w = within m sound in
      let n = waiting_count m sound in
      length-append (drop 1 (waiting_records m)) (vacant ∷ drop m.scheduler.count m.records) ∙ rw (length-drop 1 (waiting_records m), length-drop m.scheduler.count m.records) (omega arith)

  pub taken_count : (without_first m).scheduler.count ≡ m.scheduler.count - 1
  unfolding without_first
  taken_count = refl

  pub taken_next : (without_first m).scheduler.next_order ≡ m.scheduler.next_order
  unfolding without_first
  taken_next = refl

  pub taken_sound : state_broken (without_first m) ≡ false
  taken_sound =
      let w = within m sound in
      makes_sound (without_first m) (rw (taken_count, taken_length) (omega arith))
      (ap (λ (n : ℕ). broken_from (without_first m).scheduler.next_order (n / 1410) vacant (waiting_records (without_first m))) taken_places
      ∙ ap (broken_from (without_first m).scheduler.next_order (place_count m) vacant) taken_records
      ∙ ap (λ (n : ℕ). broken_from n (place_count m) vacant (drop 1 (waiting_records m))) taken_next
      ∙ rest_sound m.scheduler.next_order (place_count m) (first_record m.records) (drop 1 (waiting_records m)) (ap (broken_from m.scheduler.next_order (place_count m) vacant) (sym first_waits) ∙ unbroken m sound))
