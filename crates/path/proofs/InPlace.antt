-- What the calls of a packet that is due give is `carry`, where its bytes become those of its copies where they lie.
use Rattle.std.specs.Prelude.{Err, Ok}
use mathlib.Core.Path.{◌≡◌, sym, ◌∙◌, ap, subst}
use Prim.Native.Nat.{ℕ, ◌+◌, ◌<◌, ◌≤◌}
use mathlib.Core.Bool.{Bool, true, false, not}
use mathlib.Core.List.{List}
use lib.ListN.{length}
use lib.Ieee.{Float}
use borrow.Author.Tests.{not-false}
use Rattle.schedule.specs.State.{Schedule, schedule, copies, lacks_room, CanSchedule}
use Rattle.schedule.specs.Schedule.{schedule_at_unchecked, room_of}
use Rattle.schedule.specs.declared.ChannelScheduler.{ChannelScheduler}
use Rattle.schedule.specs.declared.Deliveries.{Deliveries}
use Rattle.schedule.proofs.Laws.{room_enough, room_lacks}
use Rattle.channel.specs.Faults.{carried_bytes, deliveries_of}
use Rattle.channel.specs.Process.{TransitExit, transit_exit, channel_of, counted_stats, process_unchecked}
use Rattle.channel.specs.declared.Channel.{Channel}
use Rattle.channel.specs.declared.Rolls.{Rolls}
use Rattle.channel.specs.declared.Transit.{Transit}
use Rattle.channel.proofs.Laws.{in_place_bytes, carried_length}
use Rattle.path.specs.Rolls.{packet_rolls, rolls_at}
use Rattle.path.specs.Direction.{Direction, schedule_of}
use Rattle.path.specs.Path.{path_of, on_path, carry_exit, on_carry, rolls_spent, copy_fold, carry, wire_after, CanCarry}
use Rattle.path.proofs.Packets.{can_put}
use Rattle.path.proofs.Answers.{granted, copy_bytes, counted_channel, fills, carries}
use Rattle.path.specs.declared.Stop.TheVariants as stop

module _ (d : Direction) (rolls : List Float) (entry_free : Bool) (now : ℕ) (wire : List ℕ) where
  pub wire_spent : rolls_spent d.path rolls ≡ true → wire ≡ wire_after d.path rolls entry_free wire
  unfolding wire_after
  wire_spent h = simp h

  pub wire_no_entry : rolls_spent d.path rolls ≡ false → not entry_free ≡ true → wire ≡ wire_after d.path rolls entry_free wire
  unfolding wire_after
  wire_no_entry h k = simp (h, k)

  wire_sent : rolls_spent d.path rolls ≡ false → not entry_free ≡ false → copy_bytes d rolls wire ≡ wire_after d.path rolls entry_free wire
  unfolding wire_after
  wire_sent h k = simp (h, k)

  module _ {r : Rolls} {t : Transit} {o : List ℕ} (left : rolls_spent d.path rolls ≡ false) (free : not entry_free ≡ false) (e : r ≡ rolls_at rolls d.path.used) (done : transit_exit o t ≡ process_unchecked d.path.channel wire r wire) where
    granted_is : t.deliveries ≡ granted d rolls
    unfolding process_unchecked
    granted_is = ap (λ (x : TransitExit). x.result.deliveries) done ∙ ap (deliveries_of d.path.channel.config) e

    channel_is : t.channel ≡ counted_channel d rolls wire
    unfolding process_unchecked
    channel_is = ap (λ (x : TransitExit). x.result.channel) done ∙ ap (λ (x : Rolls). channel_of d.path.channel.config (counted_stats d.path.channel.config x (length wire) d.path.channel.stats)) e

    bytes_are : o ≡ copy_bytes d rolls wire
    bytes_are = ap (λ (x : TransitExit). x.out) done ∙ in_place_bytes d.path.channel wire r ∙ ap (λ (x : Rolls). carried_bytes d.path.channel.config x wire) e

    pub wire_carried : o ≡ wire_after d.path rolls entry_free wire
    wire_carried = bytes_are ∙ wire_sent left free

    pub carry_full : {n k : ℕ} → n ≡ room_of (schedule_of d) → k ≡ copies t.deliveries → n < k → on_carry d (Err stop.ScheduleFull) ≡ carry d rolls entry_free now wire
    carry_full {n} {k} p q h = sym (fills d rolls entry_free now wire left (not-false entry_free free) (rw (← granted_is) (room_lacks (schedule_of d) (copies t.deliveries) (rw (← p, ← q) h))))

    module _ {n k : ℕ} (p : n ≡ room_of (schedule_of d)) (q : k ≡ copies t.deliveries) (h : k ≤ n) where
      room : lacks_room (schedule_of d) (copies (granted d rolls)) ≡ false
      room = rw (← granted_is) (room_enough (schedule_of d) (copies t.deliveries) (rw (← q, ← p) h))

      pub can_schedule : CanCarry d rolls now wire → CanSchedule (schedule_of d) now o t.deliveries
      can_schedule can = subst (λ (ds : Deliveries). CanSchedule (schedule_of d) now o ds) (sym granted_is) (can_put d rolls entry_free now wire left can room (ap length bytes_are ∙ carried_length d.path.channel.config (rolls_at rolls d.path.used) wire))

      pub carry_done : {fold : ℕ} {rs : List (List ℕ)} {ps : List ℕ} {s : ChannelScheduler} → fold ≡ copy_fold t.deliveries o → schedule rs ps s ≡ schedule_at_unchecked (schedule_of d) now o t.deliveries
          → carry_exit rs ps (record { path = path_of t.channel s (d.path.used + packet_rolls); answer = Ok (t.deliveries, fold) }) ≡ carry d rolls entry_free now wire
      carry_done {fold} f m =
          ap (λ (x : Schedule). on_carry (on_path x t.channel (d.path.used + packet_rolls)) (Ok (t.deliveries, fold))) m
          ∙ ap (λ (y : ℕ). on_carry (on_path (schedule_at_unchecked (schedule_of d) now o t.deliveries) t.channel (d.path.used + packet_rolls)) (Ok (t.deliveries, y))) f
          ∙ same granted_is channel_is bytes_are
          ∙ sym (carries d rolls entry_free now wire (record { left = left; entry = not-false entry_free free; room = room }))
        where
          same : {a b : Deliveries} {ch ch' : Channel} {x y : List ℕ} → a ≡ b → ch ≡ ch' → x ≡ y
              → on_carry (on_path (schedule_at_unchecked (schedule_of d) now x a) ch (d.path.used + packet_rolls)) (Ok (a, copy_fold a x)) ≡ on_carry (on_path (schedule_at_unchecked (schedule_of d) now y b) ch' (d.path.used + packet_rolls)) (Ok (b, copy_fold b y))
          same u v w = rw (u, v, w)
