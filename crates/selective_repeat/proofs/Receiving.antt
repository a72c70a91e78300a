-- A packet received below the entry point, and what `handle_packet` adds to it.
use Rattle.std.specs.Prelude.{Err, Ok, Option, Result}
use Prim.Native.Nat.{ℕ}
use mathlib.Core.Path.{◌≡◌, ap}
use mathlib.Core.Bool.{Bool, true, false}
use mathlib.Core.List.{List}
use lib.ListN.{length}
use Rattle.refusal.specs.declared.Refusal.{Refusal}
use Rattle.refusal.specs.declared.Refusal.TheVariants.{Full}
use Rattle.refusal.specs.Order.{verdict, held_checks}
use Rattle.packet.specs.Reading.{payload_of, read_datagram}
use Rattle.packet.proofs.Laws.{Taken}
use Rattle.receiver.specs.Reading.{number_high, read_packet, read_after}
use Rattle.receiver.specs.Reply.{room_missing, answer_of, apply_exit, applied}
use Rattle.receiver.specs.Receive.{receive_exit, apply_result, receive_unchecked}
use Rattle.receiver.specs.declared.PacketReading.{PacketReading}
use Rattle.receiver.proofs.Laws.{Read, read_facts, receive_refused, receive_read, receive_unchecked_lem}
use Rattle.selective_repeat.specs.Receiver.{Receiver, receiver, with_filled, receiving_broken, counters_broken, decision, delivered_bytes, changed_slots, after_packet, reception, handle_packet, handle_packet_unchecked}
use Rattle.selective_repeat.specs.declared.SelectiveRepeatDecision.{SelectiveRepeatDecision}

module _ (v : Receiver) (h : PacketReading) (payload output ack : List ℕ) {d : SelectiveRepeatDecision} {size : ℕ}
    (decides : d ≡ decision v h) (sized : size ≡ length (delivered_bytes v payload d.change)) where
  pub unchecked_full : room_missing d.decision size v.state.filled output ack ≡ true
      → receive_exit (Err Full) v output ack ≡ handle_packet_unchecked v h payload output ack
  unfolding receive_unchecked
  unchecked_full room = rw (← decides, ← sized, room)

  pub unchecked_received : {a : Result (Option ℕ) Refusal} {filled : ℕ} {store written acked : List ℕ} → room_missing d.decision size v.state.filled output ack ≡ false
      → a ≡ answer_of d.decision.reply → apply_exit filled written acked ≡ applied d.decision (delivered_bytes v payload d.change) v.state.filled output ack
      → store ≡ changed_slots v payload d.change
      → receive_exit a (receiver (with_filled d.receiver filled) store) written acked ≡ handle_packet_unchecked v h payload output ack
  unfolding receive_unchecked
  unchecked_received room replied done changed = rw (← decides, ← sized, room, replied, changed) (ap (apply_result (after_packet v payload d) d.decision) done)

-- nothing but 5 is left of a packet that was read
pub handle_packet_unchecked_lem : (v : Receiver) (raw output ack : List ℕ) → receiving_broken v.state v.store output ≡ false → counters_broken v.state ≡ false
    → Taken raw → number_high (read_datagram raw) ≡ false
    → handle_packet_unchecked v (read_packet raw) (payload_of raw) output ack ≡ handle_packet v raw output ack
handle_packet_unchecked_lem v raw output ack = receive_unchecked_lem (reception v (read_packet raw) (payload_of raw) output) raw output ack

-- read after the verdict t on what the receiver holds
module _ (v : Receiver) (raw output ack : List ℕ) {broken counts : Bool} {t : Result Unit Refusal} (held : t ≡ verdict (held_checks broken counts))
    (state_is : broken ≡ receiving_broken v.state v.store output) (counts_are : counts ≡ counters_broken v.state) where
  after : (x : Result PacketReading Refusal) → read_after t raw ≡ x → read_after (verdict (held_checks (receiving_broken v.state v.store output) (counters_broken v.state))) raw ≡ x
  after x e = rw (← state_is, ← counts_are, ← held) e

  pub packet_refused : (s : Refusal) → read_after t raw ≡ Err s → receive_exit (Err s) v output ack ≡ handle_packet v raw output ack
  packet_refused s e = receive_refused (reception v (read_packet raw) (payload_of raw) output) raw output ack s (after (Err s) e)

  pub packet_read : (h : PacketReading) → read_after t raw ≡ Ok h → Read (receiving_broken v.state v.store output) (counters_broken v.state) raw h
  packet_read h e = read_facts raw (receiving_broken v.state v.store output) (counters_broken v.state) h (after (Ok h) e)

  pub packet_received : (h : PacketReading) {payload : List ℕ} → read_after t raw ≡ Ok h → payload ≡ payload_of raw
      → handle_packet_unchecked v h payload output ack ≡ handle_packet v raw output ack
  packet_received h e p =
      rw ((packet_read h e).is_read, p) (receive_read (reception v (read_packet raw) (payload_of raw) output) raw output ack h (after (Ok h) e))
