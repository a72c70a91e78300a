-- One law a function, over plain values: what its callees give is what its definition says.
use Rattle.std.specs.Prelude.{Err, None, Ok, Result, Some}
use mathlib.Core.Path.{◌≡◌, refl, sym, ◌∙◌, ap}
use Prim.Native.Nat.{ℕ, zero, suc, ◌+◌, ◌-◌, ◌*◌, ◌/◌, ◌<◌, ◌≤◌}
use native.Mathlib.Omega.{arith}
use native.Mathlib.Numerals.{add-one}
use mathlib.Core.Bool.{Bool, true, false, ◌||◌}
use mathlib.Core.List.{List, ◌∷◌, ◌++◌}
use lib.ListN.{length, take, drop, replicate}
use lib.Seq.{length-take-le}
use lib.Dec.{ltb}
use borrow.Author.Tests.{ltb-false, leb-false, lt-ltb, le-ltb, le-leb, lt-leb, ne_eqb}
use Rattle.bounds.specs.Bounds.{count_limit, max_time}
use Rattle.refusal.proofs.Laws.{or_false, on_accepted, on_refused, accepted_none_true}
use Rattle.schedule.specs.Record.{record4, time_of, record_length, place_of, vacant, after, inserted, lowest_free}
use Rattle.schedule.specs.State.{Schedule, schedule, waiting_records, state_broken, late, held_late, leaves_at, delay_late, deliveries_late, copies, delay_at, unused_places, unused_records, lacks_room, CanPut, CanSchedule}
use Rattle.schedule.specs.Schedule.{scheduler, new_schedule, placed, place_bytes, put_copy, schedule_at_unchecked, schedule_checks, room_of, first_record, bytes_of, without_first, pop_exit, on_pop, pop_unchecked, pop_checks, CanPop, read_checks}
use Rattle.refusal.specs.Order.{verdict, decide}
use Rattle.refusal.specs.declared.Refusal.{Refusal}
use Rattle.schedule.specs.declared.ChannelScheduler.{ChannelScheduler}
use Rattle.schedule.specs.declared.Deliveries.{Deliveries}
use Rattle.schedule.specs.declared.Deliveries.TheVariants.{Lost, One, Two}
use Rattle.schedule.proofs.Memory.{lacks_is, room_for, has_room, put_sound, put_next, put_room, first_inside, first_fine}
use Rattle.refusal.specs.Order.{passed}

pub new_law : (rs : List (List ℕ)) (ps : List ℕ) {rs' : List (List ℕ)} {q : List ℕ} → rs' ≡ replicate (length rs) vacant → q ≡ replicate (length (take (length ps / 1410 * 1410) ps)) 0 → schedule rs' (q ++ drop (length ps / 1410 * 1410) ps) (scheduler 0 0) ≡ new_schedule rs ps
new_law rs ps p q = rw (p, q, length-take-le (length ps / 1410 * 1410) ps (whole (length ps)))
  where
    whole : (n : ℕ) → n / 1410 * 1410 ≤ n
    whole n = omega arith

-- ---- scheduling
pub put_law : (rs : List (List ℕ)) (ps : List ℕ) (s : ChannelScheduler) (time : ℕ) (packet : List ℕ) {rs' : List (List ℕ)} {ps' : List ℕ} {place : ℕ}
    → place ≡ lowest_free (length ps / 1410) (take s.count rs)
    → ps' ≡ placed ps place (place_bytes packet)
    → rs' ≡ inserted after (record4 time s.next_order (length packet) place) (take s.count rs) ++ drop (s.count + 1) rs
    → schedule rs' ps' (scheduler (s.count + 1) (s.next_order + 1)) ≡ put_copy (schedule rs ps s) time packet
unfolding put_copy
put_law rs ps s time packet p q r = rw (r, q, p)

-- the first k copies of an answer put in
unfoldable pub put_first : Schedule → ℕ → List ℕ → Deliveries → ℕ → Schedule
put_first m now packet ds zero = m
put_first m now packet ds (suc k) = put_copy (put_first m now packet ds k) (now + delay_at ds k * 1000000) packet

pub put_none : (m : Schedule) (now : ℕ) (packet : List ℕ) (ds : Deliveries) → m ≡ put_first m now packet ds 0
unfolding put_first
put_none m now packet ds = refl

pub put_more : (m : Schedule) (now : ℕ) (packet : List ℕ) (ds : Deliveries) (k : ℕ) {m' m'' : Schedule} {d : ℕ} → m' ≡ put_first m now packet ds k → d ≡ delay_at ds k → m'' ≡ put_copy m' (now + d * 1000000) packet → m'' ≡ put_first m now packet ds (k + 1)
unfolding put_first
put_more m now packet ds k p q r = rw (add-one, ← p, ← q) r

pub put_all : (m : Schedule) (now : ℕ) (packet : List ℕ) (ds : Deliveries) {m' : Schedule} {k : ℕ} → m' ≡ put_first m now packet ds k → k ≡ copies ds → m' ≡ schedule_at_unchecked m now packet ds
unfolding put_first schedule_at_unchecked delay_at
put_all m now packet ds p q = p ∙ ap (put_first m now packet ds) q ∙ whole ds
  where
    whole : (ds : Deliveries) → put_first m now packet ds (copies ds) ≡ schedule_at_unchecked m now packet ds
    whole Lost = refl
    whole (One d) = refl
    whole (Two d e) = refl

-- a delay within its bound
pub delay_fits : (now d : ℕ) → delay_late now d ≡ false → (d ≤ 180000) × (now + d * 1000000 ≤ max_time)
delay_fits now d h = (ltb-false 180000 d (or_false (ltb 180000 d) (late (leaves_at now d)) h).0, ltb-false max_time (leaves_at now d) (or_false (ltb 180000 d) (late (leaves_at now d)) h).1)

module _ (m : Schedule) (now : ℕ) (packet : List ℕ) {ds : Deliveries} (can : CanSchedule m now packet ds) where
  few : m.scheduler.next_order < count_limit
  few = leb-false count_limit m.scheduler.next_order can.counts

  pub can_one : (d : ℕ) → ds ≡ One d → CanPut m packet
  can_one d e = record { sound = can.sound; counts = omega (arith, few); short = can.short; room = sym (ap (λ (x : Deliveries). lacks_room m (copies x)) e) ∙ can.room }

  room_two : (d e : ℕ) → ds ≡ Two d e → lacks_room m 2 ≡ false
  room_two d e q = sym (ap (λ (x : Deliveries). lacks_room m (copies x)) q) ∙ can.room

  pub can_first : (d e : ℕ) → ds ≡ Two d e → CanPut m packet
  can_first d e q = let r = room_for m 2 (room_two d e q) in record { sound = can.sound; counts = omega (arith, few); short = can.short; room = has_room m 1 (omega (arith, r.0)) (omega (arith, r.1)) }

  pub can_second : (d e time : ℕ) {m' : Schedule} → ds ≡ Two d e → m' ≡ put_copy m time packet → CanPut m' packet
  can_second d e time q p =
      let c = can_first d e q in
      rw p (record { sound = put_sound m packet c time; counts = rw (put_next m packet c time) (omega (arith, few)); short = can.short; room = put_room m packet c time 1 (room_two d e q) })

pub next_fits : (m : Schedule) (now : ℕ) (packet : List ℕ) (ds : Deliveries) (k : ℕ) → CanSchedule m now packet ds → {n d : ℕ} → n ≡ copies ds → k < n → d ≡ delay_at ds k → (d ≤ 180000) × (now + d * 1000000 ≤ max_time)
unfolding delay_at
next_fits m now packet ds k can c h e = delay_fits now _ (ap (delay_late now) e ∙ within ds k (rw (← c) h) can.times)
  where
    within : (ds : Deliveries) (k : ℕ) → k < copies ds → deliveries_late now ds ≡ false → delay_late now (delay_at ds k) ≡ false
    within Lost k h t = absurd (omega arith)
    within (One d) k h t = t
    within (Two d e) zero h t = (or_false (delay_late now d) (delay_late now e) t).0
    within (Two d e) (suc k) h t = rw (ne_eqb (suc k) 0 (λ q. omega arith)) (or_false (delay_late now d) (delay_late now e) t).1

pub can_next : (m : Schedule) (now : ℕ) (packet : List ℕ) (ds : Deliveries) (k : ℕ) → CanSchedule m now packet ds → {n : ℕ} {m' : Schedule} → n ≡ copies ds → k < n → m' ≡ put_first m now packet ds k → CanPut m' packet
unfolding put_first
can_next m now packet ds k can c h e = rw e (go ds k can (rw (← c) h))
  where
    go : (ds : Deliveries) (k : ℕ) → CanSchedule m now packet ds → k < copies ds → CanPut (put_first m now packet ds k) packet
    go Lost k can h = absurd (omega arith)
    go (One d) zero can h = can_one m now packet can d refl
    go (One d) (suc k) can h = absurd (omega arith)
    go (Two d e) zero can h = can_first m now packet can d e refl
    go (Two d e) (suc zero) can h = can_second m now packet can d e (now + delay_at (Two d e) 0 * 1000000) refl refl
    go (Two d e) (suc (suc k)) can h = absurd (omega arith)

-- ---- room, as the code tests it
pub lacks : (m : Schedule) (k : ℕ) {r n : ℕ} → r ≡ room_of m → n ≡ k → r < n → lacks_room m k ≡ true
lacks m k p q h = sym (lacks_is (unused_places m) (unused_records m) k) ∙ lt-ltb (room_of m) k (rw (← p, ← q) h)

pub lacks_not : (m : Schedule) (k : ℕ) {r n : ℕ} → r ≡ room_of m → n ≡ k → n ≤ r → lacks_room m k ≡ false
lacks_not m k p q h = sym (lacks_is (unused_places m) (unused_records m) k) ∙ le-ltb (room_of m) k (rw (← p, ← q) h)

-- ---- what the verdict on a call tells
pub answered_refused : {A : Type 0} {v w : Result Unit Refusal} {r : Refusal} (f : Refusal → A) (a : A) → v ≡ w → v ≡ Err r → f r ≡ decide w f a
answered_refused f a p q = sym (on_refused f a (sym p ∙ q))

pub answered : {A : Type 0} {v w : Result Unit Refusal} {b : A} (f : Refusal → A) (a : A) → v ≡ w → v ≡ passed → b ≡ a → b ≡ decide w f a
answered f a p q e = e ∙ sym (on_accepted f a (sym p ∙ q))

pub can_schedule : (m : Schedule) (now : ℕ) (packet : List ℕ) (ds : Deliveries) → verdict (schedule_checks m now (length packet) ds) ≡ passed → CanSchedule m now packet ds
can_schedule m now packet ds e =
    let n = accepted_none_true (schedule_checks m now (length packet) ds) e in
    record {
      sound = n.0;
      counts = n.1.0;
      times = (or_false (held_late (waiting_records m)) (deliveries_late now ds) (or_false (late now) (held_late (waiting_records m) || deliveries_late now ds) n.1.1.0).1).1;
      short = n.1.1.1.0;
      room = n.1.1.1.1.0;
    }

pub can_pop_accepted : (m : Schedule) (now : ℕ) (out : List ℕ) → verdict (pop_checks m now (length out)) ≡ passed → CanPop m now out
can_pop_accepted m now out e = let n = accepted_none_true (pop_checks m now (length out)) e in record { sound = n.0; room = n.1.1.1.0 }

pub read_sound : (m : Schedule) → verdict (read_checks m) ≡ passed → state_broken m ≡ false
read_sound m e = (accepted_none_true (read_checks m) e).0

-- ---- taking out
pub positive : (n : ℕ) → (n ≡ 0 → ⊥) → 0 < n
positive n h = omega arith

module _ (m : Schedule) (now : ℕ) (out : List ℕ) where
  abbrev first : List ℕ
  first = first_record m.records

  pub none_waits : m.scheduler.count ≡ 0 → on_pop m out (Ok None) ≡ pop_unchecked m now out
  unfolding pop_unchecked
  none_waits h = simp (le-ltb 0 m.scheduler.count (omega arith))

  pub first_not_due : (m.scheduler.count ≡ 0 → ⊥) → now < time_of first → on_pop m out (Ok None) ≡ pop_unchecked m now out
  unfolding pop_unchecked
  first_not_due h k = simp (lt-ltb 0 m.scheduler.count (omega arith), lt-leb (time_of first) now k)

  pub taken_law : {rs : List (List ℕ)} {ps o : List ℕ} → (m.scheduler.count ≡ 0 → ⊥) → time_of first ≤ now
      → rs ≡ drop 1 (waiting_records m) ++ vacant ∷ drop m.scheduler.count m.records
      → ps ≡ placed m.places (place_of first) (replicate 1410 0)
      → o ≡ bytes_of m.places first ++ drop (record_length first) out
      → pop_exit rs ps o (record { scheduler = scheduler (m.scheduler.count - 1) m.scheduler.next_order; answer = Ok (Some (record_length first)) }) ≡ pop_unchecked m now out
  unfolding pop_unchecked without_first
  taken_law h k p q r = simp (lt-ltb 0 m.scheduler.count (omega arith), le-leb (time_of first) now k, p, q, r)

  -- what the packet that is due asks
  pub can_take : CanPop m now out → (m.scheduler.count ≡ 0 → ⊥) → time_of first ≤ now → (place_of first * 1410 + 1410 ≤ length m.places) × (record_length first ≤ 1410) × (record_length first ≤ length out)
  can_take c h k =
      let some : 0 < m.scheduler.count = omega arith in
      (first_inside m c.sound some, (first_fine m c.sound some).short, ltb-false (length out) (record_length first) (sym (simp (lt-ltb 0 m.scheduler.count some, le-leb (time_of first) now k)) ∙ c.room))

-- with no deliveries the times are these
pub no_deliveries : (a b : Bool) {t u : Bool} → t ≡ (a || (b || false)) → t ≡ u → (a || b) ≡ u
no_deliveries true b p q = sym p ∙ q
no_deliveries false true p q = sym p ∙ q
no_deliveries false false p q = sym p ∙ q
