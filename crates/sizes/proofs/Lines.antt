-- A packet that finds rolls, an event and room for its copies goes on; both lines have them for as many packets as they are sized for.
use Rattle.std.specs.Prelude.{None}
use Prim.Native.Nat.{ℕ, ◌+◌, ◌-◌, ◌*◌, ◌/◌, ◌≤◌, ◌<◌}
use native.Mathlib.Omega.{arith}
use mathlib.Core.Path.{◌≡◌}
use mathlib.Core.Bool.{false}
use mathlib.Core.List.{List}
use lib.Ieee.{Float}
use lib.ListN.{length}
use borrow.Author.Tests.{lt-ltb, le-ltb}
use Rattle.bounds.specs.Bounds.{place_size}
use Rattle.schedule.specs.State.{state_broken, copies, lacks_room, unused_places}
use Rattle.schedule.proofs.Memory.{places_count, has_room}
use Rattle.channel.proofs.Laws.{granted_le}
use Rattle.path.specs.Rolls.{packet_rolls}
use Rattle.path.specs.Direction.{Direction, schedule_of}
use Rattle.path.proofs.Laws.{next_rolls, granted}
use Rattle.clock.specs.Clock.{Submission}
use Rattle.clock.specs.declared.Timing.{Timing}
use Rattle.submission.specs.Submission.{Outgoing, submit, CanSubmit}
use Rattle.submission.proofs.Laws.{FitsLine, submit_goes, submit_keeps, submit_orders, going_written, going_used}

-- ---- records and places for n copies, of which so many wait
places_left : (unused count n k size : ℕ) → unused + count ≡ size / place_size → count + k ≤ n → n * place_size ≤ size → k ≤ unused
places_left unused count n k size e h s = let p : n ≤ size / place_size = omega (arith, s) in omega (arith, e, h, p)

records_left : (count n k size : ℕ) → count + k ≤ n → n ≤ size → k ≤ size - count
records_left count n k size h s = omega arith

pub room_left : (d : Direction) (n k : ℕ) → state_broken (schedule_of d) ≡ false → d.path.scheduler.count + k ≤ n → n ≤ length d.records → n * place_size ≤ length d.places → lacks_room (schedule_of d) k ≡ false
room_left d n k sound h r p =
    has_room (schedule_of d) k (places_left (unused_places (schedule_of d)) d.path.scheduler.count n k (length d.places) (places_count (schedule_of d) sound) h p)
    (records_left d.path.scheduler.count n k (length d.records) h r)

-- ---- the forward line, sized for n packets: each that was written used its rolls, and no more copies wait than were scheduled
pub record Room (n : ℕ) (rolls : List Float) (o : Outgoing) : Type 0 where
  pub events : n ≤ length o.events
  pub enough : n * packet_rolls ≤ length rolls
  pub records : 2 * n ≤ length o.forward.records
  pub places : 2 * n * place_size ≤ length o.forward.places
  pub used : o.forward.path.used ≡ o.written * packet_rolls
  pub waiting : o.forward.path.scheduler.count ≤ o.forward.path.scheduler.next_order

rolls_enough : (used written n size : ℕ) → used ≡ written * packet_rolls → written < n → n * packet_rolls ≤ size → used + packet_rolls ≤ size
rolls_enough used written n size e h s = omega arith

copies_few : (count next used written n k : ℕ) → count ≤ next → next * packet_rolls ≤ 2 * used → used ≡ written * packet_rolls → written < n → k ≤ 2 → count + k ≤ 2 * n
copies_few count next used written n k a b c d e = omega arith

used_more : (used written : ℕ) {used' written' : ℕ} → used ≡ written * packet_rolls → used' ≡ used + packet_rolls → written' ≡ written + 1 → used' ≡ written' * packet_rolls
used_more used written e f g = omega arith

waits_fewer : (count next count' next' : ℕ) → count ≤ next → count' + next ≡ count + next' → count' ≤ next'
waits_fewer count next count' next' h e = omega arith

below : {a b n : ℕ} → a < n → n ≤ b → a < b
below h k = omega arith

module _ (n : ℕ) (t : Timing) (rolls : List Float) (x : Submission) (wire : List ℕ) (o : Outgoing) (room : Room n rolls o) (can : CanSubmit t rolls x wire o) (few : o.written < n) where
  fits : FitsLine t rolls x wire o
  fits =
      record {
        left = le-ltb (length rolls) (o.forward.path.used + packet_rolls) (rolls_enough o.forward.path.used o.written n (length rolls) room.used few room.enough);
        entry = lt-ltb o.written (length o.events) (below few room.events);
        room = room_left o.forward (2 * n) (copies (granted o.forward rolls)) can.good.forward.sound
            (copies_few o.forward.path.scheduler.count o.forward.path.scheduler.next_order o.forward.path.used o.written n (copies (granted o.forward rolls)) room.waiting can.good.forward.counted.orders room.used few
            (granted_le o.forward.path.channel.config (next_rolls o.forward rolls)))
            room.records room.places;
      }

  pub submit_sized : (submit t rolls x wire o).stop ≡ None
  submit_sized = submit_goes t rolls x wire o fits

  pub written_more : (submit t rolls x wire o).outgoing.written ≡ o.written + 1
  written_more = going_written t rolls x wire o submit_sized

  pub room_kept : Room n rolls (submit t rolls x wire o).outgoing
  room_kept =
      let k = submit_keeps t rolls x wire o can in
      record {
        events = rw k.events room.events;
        enough = room.enough;
        records = rw k.forward.records room.records;
        places = rw k.forward.places room.places;
        used = used_more o.forward.path.used o.written room.used (going_used t rolls x wire o submit_sized) written_more;
        waiting = waits_fewer o.forward.path.scheduler.count o.forward.path.scheduler.next_order _ _ room.waiting (submit_orders t rolls x wire o).alike;
      }
