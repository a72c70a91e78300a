-- Bytes of the places that hold no packet are zeros: from making on, after a copy is put in, and after one is taken out.
use Rattle.std.specs.Prelude.{None, Ok}
use mathlib.Core.Path.{◌≡◌, refl, sym, ◌∙◌, ap, subst}
use Prim.Native.Nat.{ℕ, zero, suc, ◌<◌, ◌≤◌, ◌+◌, ◌-◌, ◌*◌, ◌/◌}
use native.Mathlib.Omega.{arith}
use mathlib.Core.Bool.{Bool, true, false, cond, ◌&&◌, true≢false}
use mathlib.Core.List.{List, [], ◌∷◌, ◌++◌, append_assoc}
use lib.ListN.{length, take, drop, replicate, length-replicate, length-append, length-drop, replicate-append-replicate, take-append-drop, length-take, drop_of_length-le}
use lib.Seq.{length-take-le, take_all, drop_at, drop-drop, take-append-le, drop-append-le}
use lib.Dec.{ltb, leb, eqb}
use borrow.Author.Tests.{eqb-true, eqb-false, eq-eqb, ltb-true}
use borrow.Rule.Slice.PartMut.{mid_of, post_of, put_mid, Post-is, mid_len}
use Rattle.refusal.proofs.Laws.{or_false}
use Rattle.schedule.specs.Record.{record4, time_of, record_length, place_of, after, inserted, place_in, lowest_free}
use Rattle.schedule.specs.State.{Schedule, waiting_records, place_count, state_broken, leaves_at, copies, delay_at, CanPut, CanSchedule, ZerosFrom, held_bytes, Cleared}
use Rattle.schedule.specs.Schedule.{new_schedule, placed, place_bytes, put_copy, schedule_at_unchecked, first_record, without_first, on_pop, pop_first, pop_unchecked, left_by_pop}
use Rattle.schedule.specs.declared.Deliveries.{Deliveries}
use Rattle.schedule.specs.declared.Deliveries.TheVariants.{Lost, One, Two}
use Rattle.schedule.proofs.Ordering.{insert_none, insert_here, insert_later}
use Rattle.schedule.proofs.Sound.{place_cons}
use Rattle.schedule.proofs.Memory.{length_filled, short, place_free, place_inside, put_records, put_places, first_waits, first_fine, first_inside, taken_records, taken_places}
use Rattle.schedule.proofs.Calls.{can_one, can_first, can_second, put_first}
use Rattle.schedule.proofs.Bytes.{same_place, other_place}

-- ---- zeros
pub drop_zeros : (k n : ℕ) → drop {A = ℕ} k (replicate n 0) ≡ replicate (n - k) 0
drop_zeros zero n = let e : n ≡ n - 0 = omega arith in ap (λ (j : ℕ). replicate j 0) e
drop_zeros (suc k) zero = let e : 0 ≡ 0 - suc k = omega arith in ap (λ (j : ℕ). replicate j 0) e
drop_zeros (suc k) (suc n) = let e : n - k ≡ suc n - suc k = omega arith in drop_zeros k n ∙ ap (λ (j : ℕ). replicate j 0) e

take_zeros : (k n : ℕ) → k ≤ n → take {A = ℕ} k (replicate n 0) ≡ replicate k 0
take_zeros zero n h = refl
take_zeros (suc k) zero h = absurd (omega arith)
take_zeros (suc k) (suc n) h = ap (λ (xs : List ℕ). 0 ∷ xs) (take_zeros k n (omega arith))

zeros_in : (a n : ℕ) (rest : List ℕ) → a + 1410 ≤ n → take 1410 (drop a (replicate n 0 ++ rest)) ≡ replicate 1410 0
zeros_in a n rest h =
    ap (take 1410) (drop-append-le a (replicate n 0) rest (rw length-replicate (omega arith)) ∙ ap (λ (xs : List ℕ). xs ++ rest) (drop_zeros a n))
    ∙ take-append-le 1410 (replicate (n - a) 0) rest (rw length-replicate (omega arith))
    ∙ take_zeros 1410 (n - a) (omega arith)

-- the bytes from the k-th of a place on, as they lie in the store
zeros_behind : (l : List ℕ) (a k : ℕ) → a + 1410 ≤ length l → k ≤ 1410 → drop k (take 1410 (drop a l)) ≡ replicate (1410 - k) 0 → drop (a + k) l ≡ replicate (1410 - k) 0 ++ drop (a + 1410) l
zeros_behind l a k h n e =
    let size : length (take 1410 (drop a l)) ≡ 1410 = length-take-le 1410 (drop a l) (rw length-drop (omega arith)) in
    sym (drop-drop k a l)
    ∙ ap (drop k) (sym (take-append-drop 1410 (drop a l)))
    ∙ drop-append-le k (take 1410 (drop a l)) (drop 1410 (drop a l)) (rw size n)
    ∙ ap (λ (xs : List ℕ). xs ++ drop 1410 (drop a l)) e
    ∙ ap (λ (xs : List ℕ). replicate (1410 - k) 0 ++ xs) (drop-drop 1410 a l)

pub whole_place : (ps : List ℕ) (p : ℕ) → ZerosFrom 1410 ps p
whole_place ps p = drop_of_length-le (take 1410 (drop (p * 1410) ps)) {i = 1410} (omega (arith, length-take 1410 (drop (p * 1410) ps)))

-- a packet written into a place of zeros
pub fill_part : (l p x : List ℕ) (a : ℕ) → a + 1410 ≤ length l → length p ≤ 1410 → take 1410 (drop a l) ≡ replicate 1410 0 → x ≡ p
    → put_mid a (a + length p - a) l x ≡ take a l ++ (p ++ replicate (1410 - length p) 0) ++ drop (a + 1410) l
fill_part l p x a h k z e =
    let n = length p in
    ap (λ (xs : List ℕ). take a l ++ (xs ++ post_of a (a + n - a) l)) e
    ∙ ap (λ (xs : List ℕ). take a l ++ (p ++ xs)) (Post-is a (a + n) l (omega arith) ∙ zeros_behind l a n h k (ap (drop n) z ∙ drop_zeros n 1410))
    ∙ ap (λ (xs : List ℕ). take a l ++ xs) (sym (append_assoc p (replicate (1410 - n) 0) (drop (a + 1410) l)))
    ∙ sym (append_assoc (take a l) (p ++ replicate (1410 - n) 0) (drop (a + 1410) l))

-- a packet cleared, with zeros behind it
pub clear_part : (l y : List ℕ) (a n : ℕ) → a + 1410 ≤ length l → n ≤ 1410 → drop n (take 1410 (drop a l)) ≡ replicate (1410 - n) 0
    → y ≡ replicate (length (mid_of a (a + n - a) l)) 0 → put_mid a (a + n - a) l y ≡ take a l ++ replicate 1410 0 ++ drop (a + 1410) l
clear_part l y a n h k z f =
    let zeros : y ≡ replicate n 0 = f ∙ ap (λ (m : ℕ). replicate m 0) (mid_len a (a + n) l (omega arith) ∙ whole a n) in
    let all : n + (1410 - n) ≡ 1410 = omega arith in
    ap (λ (xs : List ℕ). take a l ++ (xs ++ post_of a (a + n - a) l)) zeros
    ∙ ap (λ (xs : List ℕ). take a l ++ (replicate n 0 ++ xs)) (Post-is a (a + n) l (omega arith) ∙ zeros_behind l a n h k z)
    ∙ ap (λ (xs : List ℕ). take a l ++ xs) (sym (append_assoc (replicate n 0) (replicate (1410 - n) 0) (drop (a + 1410) l)) ∙ ap (λ (xs : List ℕ). xs ++ drop (a + 1410) l) (replicate-append-replicate n (1410 - n) 0 ∙ ap (λ (j : ℕ). replicate j 0) all))
    ∙ sym (append_assoc (take a l) (replicate 1410 0) (drop (a + 1410) l))
  where
    whole : (a n : ℕ) → a + n - a ≡ n
    whole a n = omega arith

-- ---- how many bytes of a place a packet has
held_none : (p : ℕ) → held_bytes p [] ≡ 0
unfolding held_bytes
held_none p = refl

held_cons : (p : ℕ) (r : List ℕ) (rs : List (List ℕ)) → held_bytes p (r ∷ rs) ≡ cond (eqb p (place_of r)) (record_length r) (held_bytes p rs)
unfolding held_bytes
held_cons p r rs = refl

held_free : (p : ℕ) (rs : List (List ℕ)) → place_in p rs ≡ false → held_bytes p rs ≡ 0
held_free p [] h = held_none p
held_free p (r ∷ rs) h =
    let k = or_false (eqb p (place_of r)) (place_in p rs) (sym (place_cons p r rs) ∙ h) in
    held_cons p r rs ∙ ap (λ (t : Bool). cond t (record_length r) (held_bytes p rs)) k.0 ∙ held_free p rs k.1

held_inserted : (p : ℕ) (r : List ℕ) (rs : List (List ℕ)) → (eqb p (place_of r) ≡ true → place_in p rs ≡ false) → held_bytes p (inserted after r rs) ≡ cond (eqb p (place_of r)) (record_length r) (held_bytes p rs)
held_inserted p r [] h = ap (held_bytes p) (insert_none after r) ∙ held_cons p r []
held_inserted p r (x ∷ xs) h = go (after x r) refl (held_inserted p r xs (λ k. (apart p x xs (h k)).1))
  where
    apart : (p : ℕ) (x : List ℕ) (xs : List (List ℕ)) → place_in p (x ∷ xs) ≡ false → (eqb p (place_of x) ≡ false) × (place_in p xs ≡ false)
    apart p x xs k = or_false (eqb p (place_of x)) (place_in p xs) (sym (place_cons p x xs) ∙ k)

    swap : (s t : Bool) (a b c : ℕ) → (t ≡ true → s ≡ false) → cond s a (cond t b c) ≡ cond t b (cond s a c)
    swap true true a b c f = absurd (true≢false (f refl))
    swap true false a b c f = refl
    swap false t a b c f = refl

    go : (t : Bool) → after x r ≡ t → held_bytes p (inserted after r xs) ≡ cond (eqb p (place_of r)) (record_length r) (held_bytes p xs) → held_bytes p (inserted after r (x ∷ xs)) ≡ cond (eqb p (place_of r)) (record_length r) (held_bytes p (x ∷ xs))
    go true e ih = ap (held_bytes p) (insert_here after r x xs e) ∙ held_cons p r (x ∷ xs)
    go false e ih =
        ap (held_bytes p) (insert_later after r x xs e) ∙ held_cons p x (inserted after r xs)
        ∙ ap (λ (n : ℕ). cond (eqb p (place_of x)) (record_length x) n) ih
        ∙ swap (eqb p (place_of x)) (eqb p (place_of r)) (record_length x) (record_length r) (held_bytes p xs) (λ k. (apart p x xs (h k)).0)
        ∙ ap (λ (n : ℕ). cond (eqb p (place_of r)) (record_length r) n) (sym (held_cons p x xs))

-- ---- the zeros of a place, by how many bytes are held and by what the place holds
zeros_as : {k j : ℕ} (ps ps' : List ℕ) (p : ℕ) → j ≡ k → take 1410 (drop (p * 1410) ps') ≡ take 1410 (drop (p * 1410) ps) → ZerosFrom k ps p → ZerosFrom j ps' p
zeros_as {k} ps ps' p e q h = subst (λ (n : ℕ). ZerosFrom n ps' p) (sym e) (ap (drop k) q ∙ h)

-- ---- making
pub new_cleared : (rs : List (List ℕ)) (ps : List ℕ) → Cleared (new_schedule rs ps)
new_cleared rs ps = record { zeros = λ p h. subst (λ (n : ℕ). ZerosFrom n (new_schedule rs ps).places p) (sym (held_none p)) (zeros_in (p * 1410) (length ps / 1410 * 1410) (drop (length ps / 1410 * 1410) ps) (fits p (length ps) (subst (λ (n : ℕ). p < n / 1410) size h))) }
  where
    fits : (p n : ℕ) → p < n / 1410 → p * 1410 + 1410 ≤ n / 1410 * 1410
    fits p n h = omega arith

    back : (n : ℕ) → n / 1410 * 1410 + (n - n / 1410 * 1410) ≡ n
    back n = omega arith

    size : length (replicate (length ps / 1410 * 1410) 0 ++ drop (length ps / 1410 * 1410) ps) ≡ length ps
    size = length-append (replicate (length ps / 1410 * 1410) 0) (drop (length ps / 1410 * 1410) ps) ∙ rw (length-replicate, length-drop) (back (length ps))

-- ---- a copy put in
module _ (m : Schedule) (packet : List ℕ) (can : CanPut m packet) where
  abbrev free : ℕ
  free = lowest_free (place_count m) (waiting_records m)

  -- the place that it gets is zeros
  pub free_zeros : Cleared m → {place : ℕ} → place ≡ free → ZerosFrom 0 m.places place
  free_zeros c e = subst (λ (p : ℕ). ZerosFrom 0 m.places p) (sym e) (subst (λ (n : ℕ). ZerosFrom n m.places free) (held_free free (waiting_records m) (place_free m packet can).1) (c.zeros free (place_free m packet can).0))

  pub put_cleared : (time : ℕ) → Cleared m → Cleared (put_copy m time packet)
  unfolding put_copy
  put_cleared time c = record { zeros = λ p h. one p (subst (λ (n : ℕ). p < n / 1410) (put_places m packet can time) h) (eqb p free) refl }
    where
      size : length (place_bytes packet) ≡ 1410
      size = length_filled packet (short m packet can)

      held : (p : ℕ) → held_bytes p (waiting_records (put_copy m time packet)) ≡ cond (eqb p free) (length packet) (held_bytes p (waiting_records m))
      held p =
          ap (held_bytes p) (put_records m packet can time)
          ∙ held_inserted p (record4 time m.scheduler.next_order (length packet) free) (waiting_records m) (λ e. subst (λ (x : ℕ). place_in x (waiting_records m) ≡ false) (sym (eqb-true p free e)) (place_free m packet can).1)

      one : (p : ℕ) → p < place_count m → (t : Bool) → eqb p free ≡ t → ZerosFrom (held_bytes p (waiting_records (put_copy m time packet))) (placed m.places free (place_bytes packet)) p
      one p h true e =
          let whole : take 1410 (drop (p * 1410) (placed m.places free (place_bytes packet))) ≡ place_bytes packet =
          ap (λ (x : ℕ). take 1410 (drop (x * 1410) (placed m.places free (place_bytes packet)))) (eqb-true p free e)
          ∙ same_place m.places free (place_bytes packet) (place_inside m packet can) size 1410 (omega arith)
          ∙ take_all 1410 (place_bytes packet) (omega (arith, size)) in
          subst (λ (n : ℕ). ZerosFrom n (placed m.places free (place_bytes packet)) p) (sym (held p ∙ ap (λ (t : Bool). cond t (length packet) (held_bytes p (waiting_records m))) e))
          (ap (drop (length packet)) whole ∙ drop_at packet (replicate (1410 - length packet) 0) (length packet) refl)
      one p h false e =
          zeros_as m.places (placed m.places free (place_bytes packet)) p (held p ∙ ap (λ (t : Bool). cond t (length packet) (held_bytes p (waiting_records m))) e)
          (other_place m.places free (place_bytes packet) (place_inside m packet can) size p 1410 (λ q. eqb-false p free e (sym q)) (omega arith)) (c.zeros p h)

-- all copies, and the first k of them
module _ (m : Schedule) (now : ℕ) (packet : List ℕ) where
  pub schedule_cleared : (ds : Deliveries) → CanSchedule m now packet ds → Cleared m → Cleared (schedule_at_unchecked m now packet ds)
  unfolding schedule_at_unchecked
  schedule_cleared Lost can c = c
  schedule_cleared (One d) can c = put_cleared m packet (can_one m now packet can d refl) (leaves_at now d) c
  schedule_cleared (Two d e) can c = put_cleared (put_copy m (leaves_at now d) packet) packet (can_second m now packet can d e (leaves_at now d) refl refl) (leaves_at now e) (put_cleared m packet (can_first m now packet can d e refl) (leaves_at now d) c)

  pub next_cleared : (ds : Deliveries) (k : ℕ) → CanSchedule m now packet ds → Cleared m → {n : ℕ} {m' : Schedule} → n ≡ copies ds → k < n → m' ≡ put_first m now packet ds k → Cleared m'
  unfolding put_first
  next_cleared ds k can c s h e = subst Cleared (sym e) (go ds k can (rw (← s) h))
    where
      go : (ds : Deliveries) (k : ℕ) → CanSchedule m now packet ds → k < copies ds → Cleared (put_first m now packet ds k)
      go Lost k can h = absurd (omega arith)
      go (One d) zero can h = c
      go (One d) (suc k) can h = absurd (omega arith)
      go (Two d e) zero can h = c
      go (Two d e) (suc zero) can h = put_cleared m packet (can_first m now packet can d e refl) (now + delay_at (Two d e) 0 * 1000000) c
      go (Two d e) (suc (suc k)) can h = absurd (omega arith)

-- ---- the first taken out
module _ (m : Schedule) (sound : state_broken m ≡ false) (some : 0 < m.scheduler.count) where
  abbrev place : ℕ
  place = place_of (first_record m.records)

  first_held : (p : ℕ) → held_bytes p (waiting_records m) ≡ cond (eqb p place) (record_length (first_record m.records)) (held_bytes p (drop 1 (waiting_records m)))
  first_held p = ap (held_bytes p) (first_waits m sound some) ∙ held_cons p (first_record m.records) (drop 1 (waiting_records m))

  -- its place is zeros behind it
  pub first_zeros : Cleared m → ZerosFrom (record_length (first_record m.records)) m.places place
  first_zeros c =
      subst (λ (n : ℕ). ZerosFrom n m.places place)
      (first_held place ∙ ap (λ (t : Bool). cond t (record_length (first_record m.records)) (held_bytes place (drop 1 (waiting_records m)))) (eq-eqb place place refl))
      (c.zeros place (first_fine m sound some).inside)

  pub taken_cleared : Cleared m → Cleared (without_first m)
  unfolding without_first
  taken_cleared c = record { zeros = λ p h. one p (subst (λ (n : ℕ). p < n / 1410) (taken_places m sound some) h) (eqb p place) refl }
    where
      one : (p : ℕ) → p < place_count m → (t : Bool) → eqb p place ≡ t → ZerosFrom (held_bytes p (waiting_records (without_first m))) (placed m.places place (replicate 1410 0)) p
      one p h true e =
          let whole : take 1410 (drop (p * 1410) (placed m.places place (replicate 1410 0))) ≡ replicate 1410 0 =
          ap (λ (x : ℕ). take 1410 (drop (x * 1410) (placed m.places place (replicate 1410 0)))) (eqb-true p place e)
          ∙ same_place m.places place (replicate 1410 0) (first_inside m sound some) (length-replicate {A = ℕ} 1410 0) 1410 (omega arith)
          ∙ take_zeros 1410 1410 (omega arith) in
          ap (drop (held_bytes p (waiting_records (without_first m)))) whole ∙ drop_zeros (held_bytes p (waiting_records (without_first m))) 1410
      one p h false e =
          zeros_as m.places (placed m.places place (replicate 1410 0)) p
          (ap (held_bytes p) (taken_records m sound some) ∙ sym (first_held p ∙ ap (λ (t : Bool). cond t (record_length (first_record m.records)) (held_bytes p (drop 1 (waiting_records m)))) e))
          (other_place m.places place (replicate 1410 0) (first_inside m sound some) (length-replicate {A = ℕ} 1410 0) p 1410 (λ q. eqb-false p place e (sym q)) (omega arith)) (c.zeros p h)

pub pop_cleared : (m : Schedule) (now : ℕ) (out : List ℕ) → state_broken m ≡ false → Cleared m → Cleared (left_by_pop (pop_unchecked m now out))
unfolding pop_unchecked
pop_cleared m now out sound c = go (ltb 0 m.scheduler.count) refl (leb (time_of (first_record m.records)) now)
  where
    go : (t : Bool) → ltb 0 m.scheduler.count ≡ t → (u : Bool) → Cleared (left_by_pop (cond (t && u) (pop_first m out) (on_pop m out (Ok None))))
    go true e true = taken_cleared m sound (ltb-true 0 m.scheduler.count e) c
    go true e false = c
    go false e u = c
