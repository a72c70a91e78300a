-- A packet that is due: what its calls below ask follows from a good path, and what they give is `carry`.
use Rattle.std.specs.Prelude.{Err, Ok}
use mathlib.Core.Path.{◌≡◌, ◌∙◌, ap}
use Prim.Native.Nat.{ℕ, zero, suc, ◌+◌, ◌*◌, ◌^◌, ◌<◌, ◌≤◌}
use native.Mathlib.Omega.{arith}
use mathlib.Core.Bool.{Bool, true, false, cond, not, ◌||◌, and-false}
use mathlib.Core.List.{List, [], ◌∷◌}
use lib.ListN.{length}
use lib.Ieee.{Float}
use borrow.Author.Tests.{not-false, ltb-false, le-ltb, lt-leb}
use Rattle.bounds.specs.Bounds.{count_limit, max_datagram, max_delivery_delay, max_duration, max_time}
use Rattle.float.specs.Roll.{roll_in_bounds}
use Rattle.refusal.proofs.Laws.{or_false}
use Rattle.schedule.specs.State.{counts_broken, leaves_at, deliveries_late, copies, lacks_room, CanSchedule}
use Rattle.schedule.specs.Schedule.{schedule_at_unchecked}
use Rattle.schedule.proofs.Laws.{or_both, delays_in_time}
use Rattle.channel.specs.Bounds as channel-bounds
use Rattle.channel.specs.Faults.{is_lost, deliveries_of}
use Rattle.channel.specs.Process.{TransitExit, CanProcess}
use Rattle.channel.specs.declared.ChannelStats.{ChannelStats}
use Rattle.channel.specs.declared.Rolls.{Rolls}
use Rattle.channel.proofs.Laws.{counts_not_full, delays_in_bounds}
use Rattle.path.specs.Rolls.{packet_rolls, roll_at, rolls_at, rolls_broken, Doubles}
use Rattle.path.specs.Direction.{Direction, schedule_of, Counted, Good}
use Rattle.path.specs.Path.{on_path, CarryExit, on_carry, rolls_spent, sent, sent_bytes, copy_fold, carry, CanCarry}
use Rattle.path.specs.declared.Stop.TheVariants as stop

-- ---- rolls
four_fine : (a b c d : Bool) → a ≡ true → b ≡ true → c ≡ true → d ≡ true → (not a || (not b || (not c || not d))) ≡ false
four_fine a b c d p q r s = rw (p, q, r, s)

roll_fine : (xs : List Float) (i : ℕ) → rolls_broken xs ≡ false → i < length xs → roll_in_bounds (roll_at xs i) ≡ true
unfolding rolls_broken
roll_fine [] i h l = absurd (omega arith)
roll_fine (x ∷ xs) zero h l = not-false (roll_in_bounds x) (or_false (not (roll_in_bounds x)) (rolls_broken xs) h).0
roll_fine (x ∷ xs) (suc i) h l = roll_fine xs i (or_false (not (roll_in_bounds x)) (rolls_broken xs) h).1 (omega arith)

module _ (rolls : List Float) (at : ℕ) (h : at + packet_rolls ≤ length rolls) where
  pub rolls_fine : rolls_broken rolls ≡ false → channel-bounds.rolls_broken (rolls_at rolls at) ≡ false
  unfolding channel-bounds.rolls_broken rolls_at
  rolls_fine w =
      or_both _ _
      (four_fine _ _ _ _ (fine at (omega arith)) (fine (at + 1) (omega arith)) (fine (at + 2) (omega arith)) (fine (at + 3) (omega arith)))
      (four_fine _ _ _ _ (fine (at + 4) (omega arith)) (fine (at + 5) (omega arith)) (fine (at + 6) (omega arith)) (fine (at + 7) (omega arith)))
    where
      fine : (i : ℕ) → i < length rolls → roll_in_bounds (roll_at rolls i) ≡ true
      fine i l = roll_fine rolls i w l

  pub rolls_doubles : Doubles rolls → channel-bounds.Doubles (rolls_at rolls at)
  unfolding rolls_at
  rolls_doubles d = record { byte = d.each (at + 4) (omega arith); bit = d.each (at + 5) (omega arith); jitter = d.each (at + 6) (omega arith); dup_jitter = d.each (at + 7) (omega arith) }

-- ---- counters: below their bound, whatever the number of rolls
far : (n used size : ℕ) → n * packet_rolls ≤ 2 * used → used ≤ size → size * 8 < 2 ^ 63 → n < count_limit
far n used size h k l = omega arith

stats_below : (s : ChannelStats) (next used size : ℕ) → Counted s next used → used ≤ size → size * 8 < 2 ^ 63 → channel-bounds.stats_full s ≡ false
stats_below s next used size c k l =
    counts_not_full s
    (record {
      seen = far _ used size c.seen k l;
      lost = far _ used size c.lost k l;
      corrupted = far _ used size c.corrupted k l;
      duplicated = far _ used size c.duplicated k l;
      reordered = far _ used size c.reordered k l;
      delivered = far _ used size c.delivered k l;
    })

pub orders_below : (d : Direction) (rolls : List Float) → Good d rolls → counts_broken (schedule_of d) ≡ false
orders_below d rolls good = lt-leb count_limit d.path.scheduler.next_order (far _ d.path.used (length rolls) good.counted.orders good.used good.doubles.size)

-- ---- the packet after the channel
abbrev pub carry_by : Direction → TransitExit → ℕ → List ℕ → CarryExit
carry_by d x now wire =
    cond (lacks_room (schedule_of d) (copies x.result.deliveries)) (on_carry d (Err stop.ScheduleFull))
    (on_carry (on_path (schedule_at_unchecked (schedule_of d) now (sent_bytes x wire) x.result.deliveries) x.result.channel (d.path.used + packet_rolls))
    (Ok (x.result.deliveries, copy_fold x.result.deliveries (sent_bytes x wire))))

module _ (d : Direction) (x : TransitExit) (now : ℕ) (wire : List ℕ) where
  pub by_full : lacks_room (schedule_of d) (copies x.result.deliveries) ≡ true → on_carry d (Err stop.ScheduleFull) ≡ carry_by d x now wire
  by_full h = simp h

  pub by_room : lacks_room (schedule_of d) (copies x.result.deliveries) ≡ false
      → on_carry (on_path (schedule_at_unchecked (schedule_of d) now (sent_bytes x wire) x.result.deliveries) x.result.channel (d.path.used + packet_rolls)) (Ok (x.result.deliveries, copy_fold x.result.deliveries (sent_bytes x wire))) ≡ carry_by d x now wire
  by_room h = simp h

module _ (d : Direction) (rolls : List Float) (entry_free : Bool) (now : ℕ) (wire : List ℕ) where
  pub carry_spent : rolls_spent d.path rolls ≡ true → on_carry d (Err stop.RollsSpent) ≡ carry d rolls entry_free now wire
  unfolding carry
  carry_spent h = simp h

  pub carry_no_entry : rolls_spent d.path rolls ≡ false → not entry_free ≡ true → on_carry d (Err stop.EventsFull) ≡ carry d rolls entry_free now wire
  unfolding carry
  carry_no_entry h k = simp (h, k)

  pub carry_by_lem : rolls_spent d.path rolls ≡ false → not entry_free ≡ false → carry_by d (sent d.path rolls wire) now wire ≡ carry d rolls entry_free now wire
  unfolding carry
  carry_by_lem h k = simp (h, k)

  pub rolls_left : rolls_spent d.path rolls ≡ false → d.path.used + packet_rolls ≤ length rolls
  rolls_left h = ltb-false (length rolls) (d.path.used + packet_rolls) h

  module _ (left : rolls_spent d.path rolls ≡ false) (can : CanCarry d rolls now wire) where
    pub used_fits : (k : ℕ) → k ≤ packet_rolls → d.path.used + k < 2 ^ 64
    used_fits k h = omega (arith, rolls_left left, can.good.doubles.size)

    pub can_process : {r : Rolls} {out : List ℕ} → r ≡ rolls_at rolls d.path.used → length wire ≤ length out → CanProcess d.path.channel wire r out
    can_process {r} {out} e size =
        record {
          config = can.good.config;
          counts = stats_below d.path.channel.stats d.path.scheduler.next_order d.path.used (length rolls) can.good.counted can.good.used can.good.doubles.size;
          rolls = ap channel-bounds.rolls_broken e ∙ rolls_fine rolls d.path.used (rolls_left left) can.good.in_bounds;
          short = le-ltb max_datagram (length wire) can.short;
          room = rw (le-ltb (length out) (length wire) size) (and-false (not (is_lost d.path.channel.config r)));
        }

    -- the schedule takes the copies that these rolls grant
    pub delays_fine : deliveries_late now (deliveries_of d.path.channel.config (rolls_at rolls d.path.used)) ≡ false
    delays_fine = delays_in_time now (deliveries_of d.path.channel.config (rolls_at rolls d.path.used)) (soon now can.in_time) (delays_in_bounds d.path.channel.config (rolls_at rolls d.path.used) (rolls_doubles rolls d.path.used (rolls_left left) can.good.doubles) can.good.config (rolls_fine rolls d.path.used (rolls_left left) can.good.in_bounds))
      where
        soon : (now : ℕ) → now ≤ max_duration → leaves_at now max_delivery_delay ≤ max_time
        soon now h = omega arith

    pub can_put : {packet : List ℕ} → lacks_room (schedule_of d) (copies (deliveries_of d.path.channel.config (rolls_at rolls d.path.used))) ≡ false → length packet ≡ length wire → CanSchedule (schedule_of d) now packet (deliveries_of d.path.channel.config (rolls_at rolls d.path.used))
    can_put {packet} h s = record { sound = can.good.sound; counts = orders_below d rolls can.good; times = delays_fine; short = le-ltb max_datagram (length packet) (rw s can.short); room = h }
