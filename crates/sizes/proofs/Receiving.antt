-- What is due on both lines: where the reverse line is sized for as many ACKs as copies may come, no ACK ends the run.
use Rattle.std.specs.Prelude.{Ok, Some, None}
use Prim.Native.Nat.{ℕ, ◌+◌, ◌*◌, ◌≤◌, ◌<◌}
use native.Mathlib.Omega.{arith}
use mathlib.Core.Path.{◌≡◌, refl, sym, ap, ◌∙◌, subst}
use mathlib.Core.Bool.{true, false, true≢false}
use mathlib.Core.List.{List, []}
use lib.Ieee.{Float}
use lib.ListN.{length, take}
use borrow.Author.Tests.{le-ltb}
use Rattle.bounds.specs.Bounds.{place_size, max_datagram}
use Rattle.packet.specs.Format.{new_packet, made}
use Rattle.packet.specs.declared.PacketType.TheVariants as packetType
use Rattle.packet.proofs.Laws.{made_length}
use Rattle.schedule.specs.State.{copies, lacks_room}
use Rattle.schedule.specs.Schedule.{put_copy, schedule_at_unchecked}
use Rattle.schedule.specs.declared.Deliveries.{Deliveries}
use Rattle.schedule.specs.declared.Deliveries.TheVariants.{One}
use Rattle.channel.proofs.NoFaults.{NoFaults}
use Rattle.path.specs.Rolls.{packet_rolls}
use Rattle.path.specs.Direction.{Direction, schedule_of}
use Rattle.path.specs.Path.{CarryExit, left_by_carry, rolls_spent, is_going, packet_buffer, left_by_take, CanCarry}
use Rattle.path.proofs.Laws.{granted, copy_bytes, carried_on, Fits, carries, Keeps, carry_keeps, whole_delay, whole_granted, TakeKeeps, take_count}
use Rattle.clock.specs.declared.Timing.{Timing}
use Rattle.acks.proofs.Laws.{AckCounts, serve_reverse_counts, serve_reverse_keeps_direction}
use Rattle.receiving.specs.Receiving.{Inbound, ForwardExit, submit_ack, received, on_forward, ServeForwardExit, serve_forward}
use Rattle.receiving.specs.Good.{CanOnForward, CanServeForward}
use Rattle.receiving.proofs.Laws.{data_received, received_good, submit_carries, forward_either, forward_counts, next_taken, next_exit, can_hand_over, turn_good, serve_turns}
use Rattle.arrivals.specs.Arrivals.{ArrivalState, ArrivalExit, acks_of, serve_arrivals, CanServeArrivals}
use Rattle.arrivals.proofs.Laws.{served, can_serve_reverse, between, replied, either_exit}
use Rattle.sizes.proofs.Lines.{room_left}

-- ---- the reverse line, sized for m ACKs: each that was sent used its rolls, and has one copy at most that waits
pub record Replies (m : ℕ) (rolls : List Float) (b : Inbound) : Type 0 where
  pub enough : m * packet_rolls ≤ length rolls
  pub records : m ≤ length b.reverse.records
  pub places : m * place_size ≤ length b.reverse.places
  pub none : NoFaults b.reverse.path.channel.config
  pub used : b.reverse.path.used ≡ b.side.ack_sent * packet_rolls
  pub waiting : b.reverse.path.scheduler.count ≤ b.side.ack_sent

-- the run goes on, and the line has room as before
pub record Replied (m : ℕ) (rolls : List Float) (x : ForwardExit) : Type 0 where
  pub goes : x.stop ≡ None
  pub replies : Replies m rolls x.inbound

rolls_enough : (used acks m size : ℕ) → used ≡ acks * packet_rolls → acks < m → m * packet_rolls ≤ size → used + packet_rolls ≤ size
rolls_enough used acks m size e h s = omega arith

one_more : (count acks m : ℕ) → count ≤ acks → acks < m → count + 1 ≤ m
one_more count acks m h k = omega arith

used_more : (used acks : ℕ) → used ≡ acks * packet_rolls → used + packet_rolls ≡ (acks + 1) * packet_rolls
used_more used acks e = omega arith

waits_more : (count acks count' : ℕ) → count ≤ acks → count' ≡ count + 1 → count' ≤ acks + 1
waits_more count acks count' h e = omega arith

count_more : (d : Direction) (rolls : List Float) (now : ℕ) (wire : List ℕ) {k : ℕ} → granted d rolls ≡ One k → (carried_on d rolls now wire).path.scheduler.count ≡ d.path.scheduler.count + 1
unfolding schedule_at_unchecked put_copy
count_more d rolls now wire e = ap (λ (ds : Deliveries). (schedule_at_unchecked (schedule_of d) now (copy_bytes d rolls wire) ds).scheduler.count) e

-- ---- an ACK
module _ (m : ℕ) (rolls : List Float) (now seq : ℕ) (wire : List ℕ) (b : Inbound) (q : Replies m rolls b) (can : CanCarry b.reverse rolls now wire) (few : b.side.ack_sent < m) where
  left : rolls_spent b.reverse.path rolls ≡ false
  left = le-ltb (length rolls) (b.reverse.path.used + packet_rolls) (rolls_enough b.reverse.path.used b.side.ack_sent m (length rolls) q.used few q.enough)

  once : granted b.reverse rolls ≡ One (whole_delay b.reverse rolls true now wire can q.none left)
  once = whole_granted b.reverse rolls true now wire can q.none left

  fits : Fits b.reverse rolls true now wire
  fits =
      record {
        left = left;
        entry = refl;
        room = ap (λ (ds : Deliveries). lacks_room (schedule_of b.reverse) (copies ds)) once
            ∙ room_left b.reverse m 1 can.good.sound (one_more b.reverse.path.scheduler.count b.side.ack_sent m q.waiting few) q.records q.places;
      }

  line_kept : Keeps b.reverse (carried_on b.reverse rolls now wire)
  line_kept = subst (λ (c : CarryExit). Keeps b.reverse (left_by_carry c)) (carries b.reverse rolls true now wire fits) (carry_keeps b.reverse rolls true now wire can)

  ack_sized : Replied m rolls (submit_ack rolls now seq wire b)
  ack_sized =
      subst (Replied m rolls) (sym (submit_carries rolls now seq wire b fits))
      (record {
        goes = refl;
        replies = record {
          enough = q.enough;
          records = rw line_kept.records q.records;
          places = rw line_kept.places q.places;
          none = q.none;
          used = used_more b.reverse.path.used b.side.ack_sent q.used;
          waiting = waits_more b.reverse.path.scheduler.count b.side.ack_sent _ q.waiting (count_more b.reverse rolls now wire once);
        };
      })

-- ---- a datagram
module _ (m : ℕ) (rolls : List Float) (total now : ℕ) where
  ack_short : (n : ℕ) → length (made (new_packet n packetType.Ack) []) ≤ max_datagram
  ack_short n = omega (arith, made_length (new_packet n packetType.Ack) [])

  forward_sized : (raw : List ℕ) (b : Inbound) → CanOnForward b rolls now → Replies m rolls b → b.side.ack_sent < m → Replied m rolls (on_forward rolls total now raw b)
  forward_sized raw b can q few =
      forward_either rolls total now raw b (Replied m rolls) (λ h. record { goes = refl; replies = q }) (λ h. record { goes = refl; replies = after })
      (λ h n e. ack_sized m rolls now n (made (new_packet n packetType.Ack) []) (received total now raw b) after (record { good = (received_good total now raw b rolls can.good).reverse; in_time = can.in_time; short = ack_short n }) (rw (data_received total now raw b).acks few))
    where
      after : Replies m rolls (received total now raw b)
      after =
          let d = data_received total now raw b in
          record {
            enough = q.enough;
            records = rw d.reverse q.records;
            places = rw d.reverse q.places;
            none = rw d.reverse q.none;
            used = rw (d.reverse, d.acks) q.used;
            waiting = rw (d.reverse, d.acks) q.waiting;
          }

  -- ---- what is due on the forward line
  ack_few : (acks datas count left : ℕ) → acks ≤ datas → datas + count ≤ m → left + 1 ≡ count → acks < m
  ack_few acks datas count left h k e = omega arith

  copies_few : (datas count datas' left : ℕ) → datas + count ≤ m → left + 1 ≡ count → datas' ≤ datas + 1 → datas' + left ≤ m
  copies_few datas count datas' left h e k = omega arith

  abbrev Goes : ServeForwardExit → Type 0
  Goes x = (x.stop ≡ None) × Replies m rolls x.inbound

  abbrev Can : Direction → Inbound → Type 0
  Can f c = CanServeForward f c rolls now × (Replies m rolls c × (c.side.data_received + f.path.scheduler.count ≤ m))

  turn_sized : (f : Direction) (c : Inbound) (n : ℕ) → (next_taken now f).result.answer ≡ Ok (Some n) → Can f c → Replied m rolls (next_exit rolls total now f c n)
  turn_sized f c n e h =
      forward_sized (take n (next_taken now f).out) c (can_hand_over rolls total now f c h.0 n e) h.1.0
      (ack_few c.side.ack_sent c.side.data_received f.path.scheduler.count _ h.0.good.acks h.1.1 (take_count f now packet_buffer n e))

  turn_can : (f : Direction) (c : Inbound) (n : ℕ) → (next_taken now f).result.answer ≡ Ok (Some n) → Can f c → Can (left_by_take (next_taken now f)) (next_exit rolls total now f c n).inbound
  turn_can f c n e h = (
    turn_good rolls total now f c h.0 n e,
    (
      (turn_sized f c n e h).replies,
      copies_few c.side.data_received f.path.scheduler.count _ _ h.1.1 (take_count f now packet_buffer n e) (forward_counts rolls total now (take n (next_taken now f).out) c).datas.1,
    ),
  )

  serve_sized : (f : Direction) (c : Inbound) → Can f c → Goes (serve_forward rolls total now f c)
  serve_sized =
      serve_turns rolls total now (λ (f : Direction) (c : Inbound) (x : ServeForwardExit). Can f c → Goes x) (λ f c e h. (refl, h.1.0)) (λ f c n x e g rest h. rest (turn_can f c n e h))
      (λ f c n e g h. absurd (true≢false (sym (ap is_going (turn_sized f c n e h).goes) ∙ g)))

  -- ---- and on the reverse line
  fewer : (count acks received received' count' : ℕ) → count ≤ acks → received ≤ received' → received' + count' ≤ received + count → count' ≤ acks
  fewer count acks received received' count' h k l = omega arith

  pub arrivals_sized : (t : Timing) (s : ArrivalState) → CanServeArrivals rolls now s → Replies m rolls s.inbound → s.inbound.side.data_received + s.forward.path.scheduler.count ≤ m
      → ((serve_arrivals t rolls total now s).stop ≡ None) × Replies m rolls (serve_arrivals t rolls total now s).state.inbound
  arrivals_sized t s can q few =
      either_exit t rolls total now s can (λ (x : ArrivalExit). (x.stop ≡ None) × Replies m rolls x.state.inbound) (λ e. absurd (true≢false (sym (ap is_going first.0) ∙ e)))
      (λ e. (
        refl,
        record {
          enough = first.1.enough;
          records = rw kept.records first.1.records;
          places = rw kept.places first.1.places;
          none = rw kept.channel first.1.none;
          used = rw kept.used first.1.used;
          waiting = fewer (between t rolls total now s can).inbound.reverse.path.scheduler.count _ s.received _ _ first.1.waiting counts.received.0 counts.received.1;
        },
      ))
    where
      first : Goes (served rolls total now s)
      first = serve_sized s.forward s.inbound (can.forward, (q, few))

      kept : TakeKeeps (between t rolls total now s can).inbound.reverse (replied t rolls total now s can).reverse
      kept = serve_reverse_keeps_direction t now (between t rolls total now s can).inbound.reverse (acks_of (between t rolls total now s can)) (can_serve_reverse rolls total now s can)

      counts : AckCounts (between t rolls total now s can).inbound.reverse.path.scheduler.count (replied t rolls total now s can).reverse.path.scheduler.count (acks_of (between t rolls total now s can)) (replied t rolls total now s can).state
      counts = serve_reverse_counts t now (between t rolls total now s can).inbound.reverse (acks_of (between t rolls total now s can))
