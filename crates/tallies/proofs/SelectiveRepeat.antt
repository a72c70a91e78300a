-- The Selective Repeat receiver: each call's reading is counted.
use Rattle.std.specs.Prelude.{None, Option, Some}
use Prim.Native.Nat.{ℕ, suc, ◌+◌, ◌-◌, ◌%◌, ◌≤◌, ◌<◌}
use mathlib.Core.Path.{◌≡◌, refl, sym, ap, ◌∙◌}
use mathlib.Core.Bool.{Bool, true, false, cond, not, ◌&&◌}
use mathlib.Core.List.{List, [], ◌∷◌}
use native.Mathlib.Omega.{arith}
use borrow.Author.Tests.{lt-ltb, le-ltb, le-leb, lt-leb, eq-eqb, ne_eqb}
use lib.ListN.{length, get_or}
use lib.Dec.{ltb, leb, eqb}
use Rattle.packet.specs.Reading.{payload_of}
use Rattle.protocol.specs.Runs.{lead}
use Rattle.protocol.specs.PlainMachine.{note}
use Rattle.protocol.proofs.Marks.{lead_stop, note_on}
use Rattle.store.specs.Slot.{slot_at, slot_mark}
use Rattle.store.specs.Sound.{slot_of}
use Rattle.receiver.specs.Reading.{read_packet}
use Rattle.receiver.specs.declared.PacketReading.{PacketReading}
use Rattle.receiver.specs.declared.PacketReading.TheVariants as reading
use Rattle.selective_repeat.specs.Receiver.{Receiver, receiver, reception, state_broken, held_run, decided, decision, changed_slots, after_packet, handle_packet, Ready}
use Rattle.selective_repeat.specs.declared.SelectiveRepeatReceiver.{SelectiveRepeatReceiver}
use Rattle.selective_repeat.specs.declared.SlotChange.{SlotChange}
use Rattle.selective_repeat.specs.declared.SlotChange.TheVariants as slotChange
use Rattle.selective_repeat.proofs.States.{ready, receiving_sound}
use Rattle.refinement.proofs.Held.{slot_broken}
use Rattle.refinement.proofs.SelectiveReceiver.{each_slot, DataCase, in_order_lem, held_already, to_be_held, delivered_already, old, high, data_case}
use Rattle.tallies.specs.Readings.{count, noted, is_noted, base, is_buffered, is_duplicate}
use Rattle.tallies.specs.Receivers.{Call, after_calls, readings, selective_repeat_after, new_selective_repeat}
use Rattle.tallies.proofs.Receivers.{EachReadingCounted, every_list, one_call}
use Rattle.tallies.proofs.InOrder.{plus_one}
use Rattle.tallies.proofs.Noted.{Slots, fresh_slots, base_delivered, delivered_slots, base_kept, held_slots}

pub record Kept (w : ℕ) (hs : List PacketReading) (v : Receiver) : Type 0 where
  pub filled : ℕ
  pub store : List ℕ
  pub is : v ≡ receiver (selective_repeat_after w hs filled) store
  pub slots : Slots w (noted w hs) store

abbrev state : ℕ → ℕ → ℕ → ℕ → ℕ → ℕ → SelectiveRepeatReceiver
state w base filled received buffered duplicates = record {
  window_size = w;
  recv_base = base;
  filled = filled;
  total_received = received;
  buffered_out_of_order = buffered;
  duplicates_count = duplicates;
}

end_is : (w filled : ℕ) (store : List ℕ) {b b' r r' x x' y y' : ℕ} → b ≡ b' → r ≡ r' → x ≡ x' → y ≡ y' → receiver (state w b filled r x y) store ≡ receiver (state w b' filled r' x' y') store
end_is w filled store e f g h = rw (e, f, g, h)

counted_as : (test : List PacketReading → PacketReading → Bool) (hs : List PacketReading) (h : PacketReading) (t : Bool) → test hs h ≡ t → cond t (suc (count test hs)) (count test hs) ≡ count test (h ∷ hs)
unfolding count
counted_as test hs h t e = rw e

not_and : (b : Bool) → (not b && false) ≡ false
not_and true = refl
not_and false = refl

module _ (w : ℕ) (hs : List PacketReading) (filled : ℕ) (store payload : List ℕ) (mark : ℕ) (slots : Slots w (noted w hs) store) (ok : Ready (selective_repeat_after w hs filled) store) (short : length payload ≤ 1400) where
  abbrev before : Receiver
  before = receiver (selective_repeat_after w hs filled) store

  abbrev b : ℕ
  b = base w hs

  abbrev buffered : ℕ
  buffered = count (is_buffered w) hs

  abbrev duplicates : ℕ
  duplicates = count (is_duplicate w) hs

  -- the receiver after a reading is counted
  abbrev After : PacketReading → Type 0
  After h = Kept w (h ∷ hs) (after_packet before payload (decision before h) mark)

  -- by what was decided
  kept_by : (h : PacketReading) (c x y : ℕ) (deliver : Bool) (r : Option ℕ) (change : SlotChange)
      → decision before h ≡ decided (state w c filled (length hs + 1) x y) deliver r change
      → c ≡ base w (h ∷ hs) → x ≡ count (is_buffered w) (h ∷ hs) → y ≡ count (is_duplicate w) (h ∷ hs) → Slots w (noted w (h ∷ hs)) (changed_slots before payload change)
      → After h
  kept_by h c x y deliver r change d e f g s =
      record {
        filled = mark;
        store = changed_slots before payload change;
        is = ap (λ q. after_packet before payload q mark) d ∙ end_is w mark (changed_slots before payload change) e (plus_one (length hs)) f g;
        slots = s;
      }

  -- nothing noted, nothing held
  unchanged : (h : PacketReading) (y : Bool) (r : Option ℕ) → noted w (h ∷ hs) ≡ noted w hs
      → decision before h ≡ decided (state w b filled (length hs + 1) buffered (cond y (suc duplicates) duplicates)) false r slotChange.Unchanged
      → is_buffered w hs h ≡ false → is_duplicate w hs h ≡ y
      → After h
  unchanged h y r e d f g =
      kept_by h b buffered (cond y (suc duplicates) duplicates) false r slotChange.Unchanged d (sym (ap lead e)) (counted_as (is_buffered w) hs h false f) (counted_as (is_duplicate w) hs h y g) (rw e slots)

  sound : (k : ℕ) → k < w → slot_broken (eqb k 0) (slot_of store w b k) ≡ false
  sound k h = each_slot before ok k h

  -- one duplicate more, as it is decided
  duplicate_more : (n : ℕ)
      → decided (state w b filled (length hs + 1) buffered (duplicates + 1)) false (Some n) slotChange.Unchanged
      ≡ decided (state w b filled (length hs + 1) buffered (suc duplicates)) false (Some n) slotChange.Unchanged
  duplicate_more n = ap (λ (m : ℕ). decided (state w b filled (length hs + 1) buffered m) false (Some n) slotChange.Unchanged) (plus_one duplicates)

  data_kept : (n : ℕ) → DataCase before n
      → After (reading.Data n)
  unfolding noted
  data_kept n (in_order_lem e d) =
      let p = ok.positive in
      let low : leb b n ≡ true = le-leb b n (omega arith) in
      let below : ltb n (b + w) ≡ true = lt-ltb n (b + w) (omega arith) in
      let same = eq-eqb n b e in
      let not_below : ltb n b ≡ false = le-ltb n b (omega arith) in
      let older : leb (b - w) n ≡ true = le-leb (b - w) n (omega arith) in
      let new : is_noted w hs n ≡ false = ap (λ (m : ℕ). get_or (noted w hs) m false) e ∙ lead_stop (noted w hs) in
      let all : noted w (reading.Data n ∷ hs) ≡ note (noted w hs) b = rw (low, below) (ap (note (noted w hs)) e) in
      kept_by (reading.Data n) (b + 1 + held_run before) buffered duplicates true (Some n) (slotChange.Release (held_run before)) d
      (sym (ap lead all ∙ base_delivered w (noted w hs) store p ok.room sound slots))
      (counted_as (is_buffered w) hs (reading.Data n) false (rw (low, below, same)))
      (counted_as (is_duplicate w) hs (reading.Data n) false (rw (low, below, new, older, not_below)))
      (rw all (delivered_slots w (noted w hs) store p ok.room sound slots))
  data_kept n (held_already h k m d) =
      let noted_before : is_noted w hs n ≡ true = sym (slots.held n h k) ∙ eq-eqb (slot_mark (slot_at store (n % w))) 1 m in
      let low : leb b n ≡ true = le-leb b n (omega arith) in
      let below : ltb n (b + w) ≡ true = lt-ltb n (b + w) k in
      let all : noted w (reading.Data n ∷ hs) ≡ noted w hs = rw (low, below) (note_on (noted w hs) n noted_before) in
      let again = duplicate_more n in
      unchanged (reading.Data n) true (Some n) all (d ∙ again) (rw (low, below, noted_before) (not_and (eqb n b))) (rw (low, below, noted_before))
  data_kept n (to_be_held h k m d) =
      let p = ok.positive in
      let new : is_noted w hs n ≡ false = sym (slots.held n h k) ∙ ne_eqb (slot_mark (slot_at store (n % w))) 1 m in
      let low : leb b n ≡ true = le-leb b n (omega arith) in
      let below : ltb n (b + w) ≡ true = lt-ltb n (b + w) k in
      let other : eqb n b ≡ false = ne_eqb n b (λ e. omega arith) in
      let not_below : ltb n b ≡ false = le-ltb n b (omega arith) in
      let older : leb (b - w) n ≡ true = le-leb (b - w) n (omega arith) in
      let all : noted w (reading.Data n ∷ hs) ≡ note (noted w hs) n = rw (low, below) refl in
      kept_by (reading.Data n) b (buffered + 1) duplicates false (Some n) (slotChange.Hold n) d
      (sym (ap lead all ∙ base_kept w (noted w hs) store p ok.room sound slots n payload h k short))
      (plus_one buffered ∙ counted_as (is_buffered w) hs (reading.Data n) true (rw (low, below, other, new)))
      (counted_as (is_duplicate w) hs (reading.Data n) false (rw (low, below, new, older, not_below)))
      (rw all (held_slots w (noted w hs) store p ok.room sound slots n payload h k short))
  data_kept n (delivered_already h k d) =
      let low : leb b n ≡ false = lt-leb b n h in
      let older : leb (b - w) n ≡ true = le-leb (b - w) n (omega arith) in
      let below : ltb n b ≡ true = lt-ltb n b h in
      unchanged (reading.Data n) true (Some n) (rw low) (d ∙ duplicate_more n) (rw low) (rw (low, older, below))
  data_kept n (old h d) =
      let low : leb b n ≡ false = lt-leb b n (omega arith) in
      let older : leb (b - w) n ≡ false = lt-leb (b - w) n (omega arith) in
      unchanged (reading.Data n) false None (rw low) d (rw low) (rw (low, older))
  data_kept n (high h d) =
      let low : leb b n ≡ true = le-leb b n (omega arith) in
      let above : ltb n (b + w) ≡ false = le-ltb n (b + w) h in
      let older : leb (b - w) n ≡ true = le-leb (b - w) n (omega arith) in
      let not_below : ltb n b ≡ false = le-ltb n b (omega arith) in
      unchanged (reading.Data n) false None (rw (low, above)) d (rw (low, above)) (rw (low, above, older, not_below))

  reading_kept : (h : PacketReading) → After h
  unfolding noted decision
  reading_kept (reading.Data n) = data_kept n (data_case before n ok.positive)
  reading_kept (reading.Fin n) = unchanged (reading.Fin n) false (Some n) refl refl refl refl
  reading_kept reading.Ack = unchanged reading.Ack false None refl refl refl refl
  reading_kept reading.Corrupted = unchanged reading.Corrupted false None refl refl refl refl

-- from any state that the readings say
kept_after : (w : ℕ) (hs : List PacketReading) (v : Receiver) (payload : List ℕ) (mark : ℕ) → Kept w hs v → state_broken v.state v.store ≡ false → length payload ≤ 1400 → (h : PacketReading)
    → Kept w (h ∷ hs) (after_packet v payload (decision v h) mark)
kept_after w hs v payload mark s sound short h =
    let ok : Ready (selective_repeat_after w hs s.filled) s.store = ready _ _ (rw s.is at sound) in
    rw s.is (reading_kept w hs s.filled s.store payload mark s.slots ok short h)

pub fresh_kept : (w : ℕ) (store : List ℕ) → Kept w [] (new_selective_repeat w store)
unfolding noted count
fresh_kept w store = record { filled = 0; store = (new_selective_repeat w store).store; is = refl; slots = fresh_slots w store }

-- after any list, the state but for its fill mark
pub kept_state : (w : ℕ) (hs : List PacketReading) (v : Receiver) → Kept w hs v → v.state ≡ selective_repeat_after w hs v.state.filled
kept_state w hs v s =
    let e = ap (λ (u : Receiver). u.state) s.is in
    e ∙ ap (selective_repeat_after w hs) (sym (ap (λ (r : SelectiveRepeatReceiver). r.filled) e))

pub selective_repeat_each : (w : ℕ) → EachReadingCounted handle_packet (Kept w)
selective_repeat_each w =
    λ hs v s raw output ack. one_call (Kept w) hs (reception v (read_packet raw) (payload_of raw) output) raw output ack s
    (λ k n. kept_after w hs v (payload_of raw) n s (receiving_sound v.state v.store output k.state_sound).0 k.short (read_packet raw))

pub selective_repeat_receiver : (w : ℕ) (store : List ℕ) (cs : List Call)
    → (after_calls handle_packet (new_selective_repeat w store) cs).state
    ≡ selective_repeat_after w (readings handle_packet (new_selective_repeat w store) cs) (after_calls handle_packet (new_selective_repeat w store) cs).state.filled
selective_repeat_receiver w store cs =
    kept_state w _ _
    (every_list handle_packet (Kept w) (selective_repeat_each w) [] (new_selective_repeat w store) (fresh_kept w store) cs)
