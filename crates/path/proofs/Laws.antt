-- What crates above may cite: a direction is good from its making on, what its calls answer, and what they mean for the list of copies that wait.
use Rattle.std.specs.Prelude.{Err, None, Ok, Option, Result, Some}
use mathlib.Core.Path.{◌≡◌, refl, sym, ◌∙◌, ap, subst}
use Prim.Native.Nat.{ℕ, zero, suc, ◌+◌, ◌-◌, ◌*◌, ◌≤◌, ◌<◌}
use native.Mathlib.Omega.{arith}
use native.Mathlib.Nat.{add-zero, add-sub_cancel_left}
use mathlib.Core.Bool.{Bool, true, false, cond, ◌&&◌}
use mathlib.Core.List.{List, [], ◌∷◌, ◌++◌}
use lib.ListN.{length, take, drop, length-drop}
use lib.Seq.{take_at, length-take-le}
use lib.Dec.{ltb, leb, eqb}
use lib.Ieee.{Float}
use borrow.Author.Tests.{ltb-true, ltb-false, le-ltb}
use Rattle.bounds.specs.Bounds.{max_datagram, max_time, place_size}
use Rattle.refusal.specs.declared.Refusal.{Refusal}
use Rattle.schedule.specs.State.{waiting_records, state_broken, held_late, copies, CanSchedule, Cleared}
use Rattle.schedule.specs.Record.{time_of}
use Rattle.schedule.specs.Schedule.{first_record, pop_first, pop_unchecked, pop_ready_at, on_pop, first_due, without_first}
use Rattle.schedule.specs.Waiting.{WaitingCopy, waiting, put_copies, pop_copies, nothing, leaves, first_deadline}
use Rattle.schedule.proofs.Laws.{new_sound, new_times, new_cleared, schedule_cleared, pop_cleared, schedule_waits, schedule_leaves, Leaves, pop_leaves, waits_count, first_time_is, count_within, pop_packet, pop_nothing, pop_idle, pop_never_refused, can_pop, pop_accepts, pop_accepted, pop_by, pop_by_first, first_packet}
use Rattle.channel.specs.Bounds.{config_broken}
use Rattle.channel.specs.Faults.{deliveries_of}
use Rattle.channel.specs.Process.{counted_stats}
use Rattle.channel.specs.declared.ChannelConfig.{ChannelConfig}
use Rattle.channel.specs.declared.ChannelStats.{ChannelStats}
use Rattle.channel.specs.declared.Rolls.{Rolls}
use Rattle.channel.proofs.Laws.{granted_le, carried_length, counted_rises}
use Rattle.path.specs.Rolls.{packet_rolls, rolls_broken, Doubles}
use Rattle.path.specs.Direction.{Direction, schedule_of, Counted, Good}
use Rattle.path.specs.Path.{new_path, left_by_carry, carry, TakeExit, on_take, left_by_take, take_ready, remove_first, next_deadline, deadline_of, is_empty, CanCarry, CanRemove}
use Rattle.path.proofs.Packets.{orders_below, can_put}
pub use Rattle.path.proofs.Packets.{rolls_left, rolls_fine, rolls_doubles}
use Rattle.path.proofs.Answers.{next_rolls, granted, copy_bytes, carried_on, Fits, carries, by_left}
pub use Rattle.path.proofs.Answers.{next_rolls, granted, copy_bytes, counted_channel, carried_on, Fits, spends, no_entry, fills, carries, by_answer, by_left, Why, answer_why, IsCarried, going_is, stop_going, carried_going, going_fits, fits_going, stops, stop_same, process_is, schedule_is, schedule_refuses}
pub use Rattle.path.proofs.Orders.{RiseAlike, rise_same, rise_then, carry_orders, orders_low}
pub use Rattle.path.proofs.Copies.{EachWaiting, TakesCopy, new_each, carry_each, take_each, take_copy, take_front, each_weaker, whole_bytes, whole_delay, whole_granted, carries_whole}

-- ---- making
pub new_good : (c : ChannelConfig) (rs : List (List ℕ)) (ps : List ℕ) (rolls : List Float) → config_broken c ≡ false → Doubles rolls → rolls_broken rolls ≡ false → Good (new_path c rs ps) rolls
unfolding new_path
new_good c rs ps rolls h d w =
    record {
      config = h;
      counted = record { seen = omega arith; lost = omega arith; corrupted = omega arith; duplicated = omega arith; reordered = omega arith; delivered = omega arith; orders = omega arith };
      doubles = d;
      in_bounds = w;
      used = omega arith;
      sound = new_sound rs ps;
      times = new_times rs ps;
      cleared = new_cleared rs ps;
    }

-- ---- counters
counted_more : (c : ChannelConfig) (r : Rolls) (n : ℕ) (s : ChannelStats) (next used : ℕ) {next' : ℕ} → Counted s next used → next' ≡ next + copies (deliveries_of c r) → Counted (counted_stats c r n s) next' (used + packet_rolls)
counted_more c r n s next used w e =
    let rise = counted_rises c r n s in
    record {
      seen = more _ _ w.seen (omega (arith, rise.seen));
      lost = more _ _ w.lost (omega (arith, rise.lost));
      corrupted = more _ _ w.corrupted (omega (arith, rise.corrupted));
      duplicated = more _ _ w.duplicated (omega (arith, rise.duplicated));
      reordered = more _ _ w.reordered (omega (arith, rise.reordered));
      delivered = more _ _ w.delivered rise.delivered;
      orders = more _ _ w.orders (omega (arith, e, granted_le c r));
    }
  where
    more : (n m : ℕ) → n * packet_rolls ≤ 2 * used → m ≤ n + 2 → m * packet_rolls ≤ 2 * (used + packet_rolls)
    more n m h l = omega arith

-- what a call keeps beside the invariant: the setup, and the lengths of the slices
pub record Keeps (d d' : Direction) : Type 0 where
  pub config : d'.path.channel.config ≡ d.path.channel.config
  pub records : length d'.records ≡ length d.records
  pub places : length d'.places ≡ length d.places

-- what taking keeps: all but the copies that wait
pub record TakeKeeps (d d' : Direction) : Type 0 where
  pub channel : d'.path.channel ≡ d.path.channel
  pub used : d'.path.used ≡ d.path.used
  pub orders : d'.path.scheduler.next_order ≡ d.path.scheduler.next_order
  pub records : length d'.records ≡ length d.records
  pub places : length d'.places ≡ length d.places

pub take_keeps_same : (d : Direction) → TakeKeeps d d
take_keeps_same d = record { channel = refl; used = refl; orders = refl; records = refl; places = refl }

pub take_keeps_then : {a b c : Direction} → TakeKeeps a b → TakeKeeps b c → TakeKeeps a c
take_keeps_then p q = record { channel = q.channel ∙ p.channel; used = q.used ∙ p.used; orders = q.orders ∙ p.orders; records = q.records ∙ p.records; places = q.places ∙ p.places }

-- ---- a packet that is due
module _ (d : Direction) (rolls : List Float) (entry_free : Bool) (now : ℕ) (wire : List ℕ) where
  -- a packet uses its rolls, or none
  pub carry_used : (d.path.used ≤ (left_by_carry (carry d rolls entry_free now wire)).path.used) × ((left_by_carry (carry d rolls entry_free now wire)).path.used ≤ d.path.used + packet_rolls)
  carry_used = by_left d rolls entry_free now wire (λ (x : Direction). (d.path.used ≤ x.path.used) × (x.path.used ≤ d.path.used + packet_rolls)) (omega arith, omega arith) (λ f. (omega arith, omega arith))

  module _ (can : CanCarry d rolls now wire) where
    can_fit : Fits d rolls entry_free now wire → CanSchedule (schedule_of d) now (copy_bytes d rolls wire) (granted d rolls)
    can_fit f = can_put d rolls entry_free now wire f.left can f.room (carried_length d.path.channel.config (next_rolls d rolls) wire)

    leaves_schedule : Fits d rolls entry_free now wire → Leaves (schedule_of d) (schedule_of (carried_on d rolls now wire)) (copies (granted d rolls))
    leaves_schedule f = schedule_leaves (schedule_of d) now (copy_bytes d rolls wire) (granted d rolls) (can_fit f) can.good.times

    pub carry_good : Good (left_by_carry (carry d rolls entry_free now wire)) rolls
    carry_good =
        by_left d rolls entry_free now wire (λ (x : Direction). Good x rolls) can.good
        (λ f.
        let s = leaves_schedule f in
        record {
          config = can.good.config;
          counted = counted_more d.path.channel.config (next_rolls d rolls) (length wire) d.path.channel.stats d.path.scheduler.next_order d.path.used can.good.counted s.next;
          doubles = can.good.doubles;
          in_bounds = can.good.in_bounds;
          used = ltb-false (length rolls) (d.path.used + packet_rolls) f.left;
          sound = s.sound;
          times = s.times;
          cleared = schedule_cleared (schedule_of d) now (copy_bytes d rolls wire) (granted d rolls) (can_fit f) can.good.cleared;
        })

    pub carry_keeps : Keeps d (left_by_carry (carry d rolls entry_free now wire))
    carry_keeps =
        by_left d rolls entry_free now wire (λ (x : Direction). Keeps d x) (record { config = refl; records = refl; places = refl })
        (λ f. let s = leaves_schedule f in record { config = refl; records = s.records; places = s.places })

    -- the copies stand among those that wait
    pub carry_waits : Fits d rolls entry_free now wire → waiting (schedule_of (left_by_carry (carry d rolls entry_free now wire))) ≡ put_copies d.path.scheduler.next_order now (copy_bytes d rolls wire) (granted d rolls) (waiting (schedule_of d))
    carry_waits f = rw (carries d rolls entry_free now wire f) (schedule_waits (schedule_of d) now (copy_bytes d rolls wire) (granted d rolls) (can_fit f))

-- ---- taking
module _ (d : Direction) (now : ℕ) (out : List ℕ) where
  pub take_used : (left_by_take (take_ready d now out)).path.used ≡ d.path.used
  unfolding take_ready
  take_used = refl

  -- below its entry point taking refuses nothing, and where it answers nothing all is as it was
  pub take_never_refused : (r : Refusal) → (take_ready d now out).result.answer ≡ Err r → ⊥
  unfolding take_ready
  take_never_refused r e = pop_never_refused (schedule_of d) now out r e

  pub take_idle : (take_ready d now out).result.answer ≡ Ok None → take_ready d now out ≡ on_take d.path (on_pop (schedule_of d) out (Ok None))
  unfolding take_ready
  take_idle e = ap (on_take d.path) (pop_idle (schedule_of d) now out e)

  -- what is taken waits no longer
  pub take_count : (n : ℕ) → (take_ready d now out).result.answer ≡ Ok (Some n) → (left_by_take (take_ready d now out)).path.scheduler.count + 1 ≡ d.path.scheduler.count
  unfolding take_ready pop_unchecked without_first
  take_count n = go (ltb 0 d.path.scheduler.count) (leb (time_of (first_record d.records)) now) (ltb-true 0 d.path.scheduler.count)
    where
      go : (t u : Bool) → (t ≡ true → 0 < d.path.scheduler.count) → (cond (t && u) (pop_first (schedule_of d) out) (on_pop (schedule_of d) out (Ok None))).result.answer ≡ Ok (Some n)
          → (cond (t && u) (pop_first (schedule_of d) out) (on_pop (schedule_of d) out (Ok None))).result.scheduler.count + 1 ≡ d.path.scheduler.count
      go true true h e = omega (arith, h refl)
      go true false h e = let z : ◌≡◌ {A = ℕ} 0 1 = cc in absurd (omega arith)
      go false u h e = let z : ◌≡◌ {A = ℕ} 0 1 = cc in absurd (omega arith)

  -- by the copy that leaves first
  take_by : {a : Option (ℕ × ℕ)} → first_due d.path.scheduler.count d.records now ≡ a → take_ready d now out ≡ on_take d.path (pop_by a (schedule_of d) out)
  unfolding take_ready
  take_by e = ap (on_take d.path) (pop_by_first (schedule_of d) now out) ∙ ap (λ (a : Option (ℕ × ℕ)). on_take d.path (pop_by a (schedule_of d) out)) e

  pub take_not_due : first_due d.path.scheduler.count d.records now ≡ None → (take_ready d now out).result.answer ≡ Ok None
  take_not_due e = ap (λ (x : TakeExit). x.result.answer) (take_by e)

  -- what is taken lies in its place, and removing it leaves the same
  pub record TakesPlace (place len : ℕ) : Type 0 where
    pub can : CanRemove d
    pub inside : place * place_size + len ≤ length d.places
    pub answer : (take_ready d now out).result.answer ≡ Ok (Some len)
    pub bytes : take len (take_ready d now out).out ≡ take (place * place_size + len - place * place_size) (drop (place * place_size) d.places)
    pub left : left_by_take (take_ready d now out) ≡ remove_first d

  pub take_place : (place len : ℕ) → state_broken (schedule_of d) ≡ false → Cleared (schedule_of d) → first_due d.path.scheduler.count d.records now ≡ Some (place, len) → TakesPlace place len
  take_place place len sound cleared e =
      let p = first_packet (schedule_of d) now place len sound e in
      let t = take_by e in
      let rest = drop (place * place_size) d.places in
      record {
        can = record { sound = sound; some = p.some; cleared = cleared };
        inside = omega (arith, p.inside, p.short);
        answer = ap (λ (x : TakeExit). x.result.answer) t;
        bytes =
            ap (λ (x : TakeExit). take len x.out) t
            ∙ take_at (take len rest) (drop len out) len (length-take-le len rest (rw length-drop (omega (arith, p.inside, p.short))))
            ∙ ap (λ (n : ℕ). take n rest) (sym (add-sub_cancel_left (place * place_size) len));
        left = ap left_by_take t;
      }

  module _ (sound : state_broken (schedule_of d) ≡ false) where
    -- no copy is due: all is as it was
    pub take_none : pop_copies now (waiting (schedule_of d)) ≡ nothing → take_ready d now out ≡ on_take d.path (on_pop (schedule_of d) out (Ok None))
    unfolding take_ready
    take_none h = ap (on_take d.path) (pop_nothing (schedule_of d) now out sound h)

    -- the first copy leaves, its bytes at the front of `out`; the others wait
    pub record TakesFirst (c : WaitingCopy) (cs : List WaitingCopy) : Type 0 where
      pub answer : take_ready d now out ≡ on_take d.path (on_pop (without_first (schedule_of d)) (c.bytes ++ drop (length c.bytes) out) (Ok (Some (length c.bytes))))
      pub rest : waiting (schedule_of (left_by_take (take_ready d now out))) ≡ cs

    pub take_first : (c : WaitingCopy) (cs : List WaitingCopy) → pop_copies now (waiting (schedule_of d)) ≡ leaves c cs → TakesFirst c cs
    unfolding take_ready
    take_first c cs h = let p = pop_packet (schedule_of d) now out c cs sound h in record { answer = ap (on_take d.path) p.answer; rest = rw p.answer p.rest }

    -- the schedule stays sound, and its times within bounds
    pub take_leaves : held_late (waiting_records (schedule_of d)) ≡ false → Leaves (schedule_of d) (schedule_of (left_by_take (take_ready d now out))) 0
    unfolding take_ready
    take_leaves times = pop_leaves (schedule_of d) now out sound times

    pub take_cleared : Cleared (schedule_of d) → Cleared (schedule_of (left_by_take (take_ready d now out)))
    unfolding take_ready
    take_cleared cleared = pop_cleared (schedule_of d) now out sound cleared

    pub taken_keeps : held_late (waiting_records (schedule_of d)) ≡ false → TakeKeeps d (left_by_take (take_ready d now out))
    unfolding take_ready
    taken_keeps times = let s = take_leaves times in record { channel = refl; used = refl; orders = s.next ∙ add-zero d.path.scheduler.next_order; records = s.records; places = s.places }

  module _ (rolls : List Float) (good : Good d rolls) where
    leaves_pop : Leaves (schedule_of d) (schedule_of (left_by_take (take_ready d now out))) 0
    leaves_pop = take_leaves good.sound good.times

    pub take_good : Good (left_by_take (take_ready d now out)) rolls
    unfolding take_ready
    take_good =
        record {
          config = good.config;
          counted = subst (λ (n : ℕ). Counted d.path.channel.stats n d.path.used) (sym (leaves_pop.next ∙ add-zero d.path.scheduler.next_order)) good.counted;
          doubles = good.doubles;
          in_bounds = good.in_bounds;
          used = good.used;
          sound = leaves_pop.sound;
          times = leaves_pop.times;
          cleared = take_cleared good.sound good.cleared;
        }

    pub take_keeps : Keeps d (left_by_take (take_ready d now out))
    unfolding take_ready
    take_keeps = record { config = refl; records = leaves_pop.records; places = leaves_pop.places }

    -- the same by the entry point
    pub pop_is : now ≤ max_time → max_datagram ≤ length out → take_ready d now out ≡ on_take d.path (pop_ready_at (schedule_of d) now out)
    unfolding take_ready
    pop_is t h = ap (on_take d.path) (sym (pop_accepted (schedule_of d) now out (pop_accepts (schedule_of d) now out (can_pop (schedule_of d) now out good.sound h) (orders_below d rolls good) (le-ltb max_time now t) good.times)))

-- whatever holds where nothing is due, and before a copy is taken if it holds after it, holds; `next` is what the copy of n bytes makes of s
pub by_takes : {S : Type 0} (now : ℕ) (out : List ℕ) (next : Direction → S → ℕ → S) (R : Direction → S → Type 0)
    → ((d : Direction) (s : S) → (take_ready d now out).result.answer ≡ Ok None → R d s)
    → ((d : Direction) (s : S) (n : ℕ) → (take_ready d now out).result.answer ≡ Ok (Some n) → R (left_by_take (take_ready d now out)) (next d s n) → R d s)
    → (d : Direction) (s : S) → R d s
by_takes {S} now out next R idle taken d s = by_count d.path.scheduler.count d s refl
  where
    by_answer : (d : Direction) (s : S) → ((n : ℕ) → (take_ready d now out).result.answer ≡ Ok (Some n) → R (left_by_take (take_ready d now out)) (next d s n))
        → (a : Result (Option ℕ) Refusal) → (take_ready d now out).result.answer ≡ a → R d s
    by_answer d s rest (Ok None) e = idle d s e
    by_answer d s rest (Err r) e = absurd (take_never_refused d now out r e)
    by_answer d s rest (Ok (Some n)) e = taken d s n e (rest n e)

    by_count : (k : ℕ) (d : Direction) (s : S) → d.path.scheduler.count ≡ k → R d s
    by_count zero d s h = by_answer d s (λ n e. absurd (omega (arith, h, take_count d now out n e))) (take_ready d now out).result.answer refl
    by_count (suc k) d s h = by_answer d s (λ n e. by_count k (left_by_take (take_ready d now out)) (next d s n) (omega (arith, h, take_count d now out n e))) (take_ready d now out).result.answer refl

-- ---- reading
module _ (d : Direction) (sound : state_broken (schedule_of d) ≡ false) where
  -- what `next_deadline_unchecked` asks
  pub records_within : d.path.scheduler.count ≤ length d.records
  records_within = count_within (schedule_of d) sound

  pub deadline_none : waiting (schedule_of d) ≡ [] → next_deadline d.path d.records ≡ None
  unfolding deadline_of first_deadline
  deadline_none e = ap deadline_of (first_time_is (schedule_of d) sound ∙ ap first_deadline e)

  pub deadline_is : (c : WaitingCopy) (cs : List WaitingCopy) → waiting (schedule_of d) ≡ c ∷ cs → next_deadline d.path d.records ≡ Some c.time
  unfolding deadline_of first_deadline
  deadline_is c cs e = ap deadline_of (first_time_is (schedule_of d) sound ∙ ap first_deadline e)

  pub empty_is : is_empty d.path ≡ eqb (length (waiting (schedule_of d))) 0
  empty_is = ap (λ (n : ℕ). eqb n 0) (sym (waits_count (schedule_of d) sound))
