-- A Selective Repeat receiver's state stays unbroken.
use Prim.Native.Nat.{ℕ, ◌+◌, ◌-◌, ◌%◌, ◌≤◌, ◌<◌}
use mathlib.Core.Path.{◌≡◌, refl}
use mathlib.Core.Bool.{false}
use mathlib.Core.List.{List}
use native.Mathlib.Omega.{arith}
use borrow.Author.Tests.{le-ltb}
use lib.ListN.{length}
use lib.Dec.{eqb}
use Rattle.protocol.specs.declared.ProtocolType.TheVariants.{SelectiveRepeat}
use Rattle.refusal.proofs.Laws.{any_of_none}
use Rattle.packet.specs.Reading.{payload_of}
use Rattle.store.specs.Slot.{slot_bytes}
use Rattle.store.specs.Sound.{receiver_slots_broken, slot_of}
use Rattle.store.proofs.Laws.{slot_in, put_length, slot_bytes_length, run_within}
use Rattle.receiver.specs.Reading.{read_packet}
use Rattle.receiver.specs.declared.PacketReading.{PacketReading}
use Rattle.receiver.specs.declared.PacketReading.TheVariants as reading
use Rattle.selective_repeat.specs.Receiver.{Receiver, receiving_broken, held_run, in_order, out_of_order, duplicate, unanswered, decision, counted, after_packet, reception, handle_packet, Ready}
use Rattle.selective_repeat.specs.declared.SelectiveRepeatDecision.{SelectiveRepeatDecision}
use Rattle.selective_repeat.proofs.States.{ready, not_broken, receiving_sound}
use Rattle.refinement.specs.Good.{NoneHeldFrom, GoodSelectiveReceiver}
use Rattle.refinement.proofs.Writes.{emptied_length}
use Rattle.refinement.proofs.Good.{none_below}
use Rattle.refinement.proofs.Held.{slot_broken}
use Rattle.refinement.proofs.GoodHeld.{held_slots, held_low, delivered_slots, delivered_low, run_stop, run_low}
use Rattle.refinement.proofs.Receiving.{after_packet_lem, outcome_mark}
use Rattle.receiver.proofs.Laws.{read_low}
use Rattle.refinement.proofs.SelectiveReceiver.{in_order_lem, held_already, to_be_held, delivered_already, old, high, data_case, each_slot, selective_receives}

-- all of it but the fill mark
record Kept (v : Receiver) : Type 0 where
  pub sound : Ready v.state v.store
  pub none_high : NoneHeldFrom 4294901760 v.store v.state.window_size v.state.recv_base

module _ (v : Receiver) (payload : List ℕ) (k : Kept v) (short : length payload ≤ 1400) where
  by_decision_lem : {x y : SelectiveRepeatDecision} (filled : ℕ) → x ≡ y → Kept (after_packet v payload y filled) → Kept (after_packet v payload x filled)
  by_decision_lem filled e h = rw e h

  abbrev w : ℕ
  w = v.state.window_size

  abbrev base : ℕ
  base = v.state.recv_base

  slots : (i : ℕ) → i < w → slot_broken (eqb i 0) (slot_of v.store w base i) ≡ false
  slots = each_slot v k.sound

  unchanged : (filled : ℕ) → Kept (after_packet v payload (unanswered (counted v).state) filled)
  unchanged filled =
      let s = k.sound in
      record { sound = record { positive = s.positive; small = s.small; room = s.room; low = s.low; slots = s.slots }; none_high = k.none_high }

  counted_again : (n filled : ℕ) → Kept (after_packet v payload (duplicate (counted v) n) filled)
  counted_again n filled =
      let s = k.sound in
      record { sound = record { positive = s.positive; small = s.small; room = s.room; low = s.low; slots = s.slots }; none_high = k.none_high }

  delivered : (n filled : ℕ) → base < 4294901760 → Kept (after_packet v payload (in_order (counted v) n) filled)
  unfolding receiver_slots_broken
  delivered n filled low =
      let s = k.sound in
      let few = run_within 1 v.store w (base + 1) (w - 1) in
      record {
        sound = record {
          positive = s.positive;
          small = s.small;
          room = rw (emptied_length v.store w (base + 1) (held_run v) s.positive s.room) s.room;
          low = run_low v.store w base s.positive s.room slots 4294901760 low k.none_high;
          slots = none_below w _ (delivered_slots v.store w base s.positive s.room slots (held_run v) few (run_stop v.store w base s.positive s.room slots));
        };
        none_high = delivered_low v.store w base s.positive s.room slots (held_run v) few 4294901760 k.none_high;
      }

  held : (n filled : ℕ) → base < n → n < base + w → n < 4294901760 → Kept (after_packet v payload (out_of_order (counted v) n) filled)
  unfolding receiver_slots_broken
  held n filled h l low =
      let s = k.sound in
      let e : base + (n - base) ≡ n = omega arith in
      record {
        sound = record {
          positive = s.positive;
          small = s.small;
          room = rw (put_length v.store (n % w) (slot_bytes payload 1 0) (slot_in v.store n w s.positive s.room) (slot_bytes_length payload 1 0 short)) s.room;
          low = s.low;
          slots = none_below w _ (λ i j. rw e at (held_slots v.store w base s.positive s.room slots (n - base) payload (omega arith) (omega arith) short i j));
        };
        none_high = rw e at (held_low v.store w base s.positive s.room slots (n - base) payload 4294901760 (omega arith) short (omega arith) k.none_high);
      }

  data_kept : (n filled : ℕ) → n < 4294901760 → Kept (after_packet v payload (decision v (reading.Data n)) filled)
  data_kept n filled low = elim (data_case v n k.sound.positive) [
    | in_order_lem e d ↦ by_decision_lem filled d (delivered n filled (omega arith))
    | held_already h l m d ↦ by_decision_lem filled d (counted_again n filled)
    | to_be_held h l m d ↦ by_decision_lem filled d (held n filled h l low)
    | delivered_already h l d ↦ by_decision_lem filled d (counted_again n filled)
    | old h d ↦ by_decision_lem filled d (unchanged filled)
    | high h d ↦ by_decision_lem filled d (unchanged filled)
  ]

  reading_kept : (h : PacketReading) (filled : ℕ) → ((n : ℕ) → h ≡ reading.Data n → n < 4294901760) → Kept (after_packet v payload (decision v h) filled)
  unfolding decision
  reading_kept (reading.Data n) filled low = data_kept n filled (low n refl)
  reading_kept (reading.Fin n) filled low = unchanged filled
  reading_kept reading.Ack filled low = unchanged filled
  reading_kept reading.Corrupted filled low = unchanged filled

pub selective_receiver_good : (v : Receiver) (raw output ack : List ℕ) → GoodSelectiveReceiver v output
    → GoodSelectiveReceiver (handle_packet v raw output ack).receiver (handle_packet v raw output ack).output
unfolding receiving_broken
selective_receiver_good v raw output ack g =
    let parts = receiving_sound v.state v.store output g.sound in
    let before : Kept v = record { sound = ready v.state v.store parts.0; none_high = g.none_high } in
    let after = (handle_packet v raw output ack).receiver in
    let kept : Kept after = after_packet_lem Kept (reception v (read_packet raw) (payload_of raw) output) raw output ack before
    (λ k n. reading_kept v (payload_of raw) before k.short (read_packet raw) n (λ m e. read_low raw m k.taken k.not_high e)) in
    let mark = outcome_mark SelectiveRepeat _ _ _ v raw output ack _ (selective_receives v raw output ack) parts.1 in
    record {
      sound = any_of_none _ (not_broken after.state after.store kept.sound, (le-ltb _ _ mark, tt));
      none_high = kept.none_high;
    }
