-- An ACK of one number in Selective Repeat: its slot marked, then what is marked from base on released.
use Prim.Native.Nat.{ℕ, zero, suc, ◌+◌, ◌-◌, ◌*◌, ◌≤◌, ◌<◌}
use mathlib.Core.Path.{◌≡◌, refl, sym, ap, ◌∙◌}
use mathlib.Core.Bool.{Bool, true, false, cond}
use mathlib.Core.List.{List, ◌∷◌}
use native.Mathlib.Omega.{arith}
use native.Mathlib.Decide.{ℕ_discrete}
use borrow.Author.Tests.{lt-ltb, le-ltb, eq-eqb}
use lib.ListN.{length, set, length-set}
use lib.Seq.{get_or-set_same, get_or-set_other}
use Rattle.protocol.specs.Runs.{lead}
use Rattle.protocol.specs.Machine.{slide}
use Rattle.protocol.specs.Machine
use Rattle.store.specs.Slot.{slot_length, slot_mark, slot_payload, set_mark}
use Rattle.store.specs.Sound.{sender_slot_broken, slot_of}
use Rattle.store.specs.Numbers.{marked, marked_run}
use Rattle.store.proofs.Laws.{slot_in, slot_length_lem, run_within}
use Rattle.window.specs.State.{outstanding}
use Rattle.window.specs.Slots.{Sender, sender, slot_for, release}
use Rattle.refinement.specs.Follows.{acknowledged_in, slots_read, sender_of}
use Rattle.refinement.specs.Good.{Good}
use Rattle.store.proofs.Ring.{set_number, set_number_other}
use Rattle.refinement.proofs.Rows.{read_length, read_at, read_is, read_first}
use Rattle.refinement.proofs.Writes.{length_kept, payload_kept}
use Rattle.refinement.proofs.Good.{slot_broken, same_broken, SoundWith, release_good, slot_short}
use Rattle.refinement.proofs.Senders.{state_is, byte_read, release_follows}
use Rattle.refinement.proofs.MarkedRuns.{run_stops}

-- the lowest number that isn't marked
lead_more : (b : Bool) (marks : List Bool) (k : ℕ) → lead marks ≡ k → lead (b ∷ marks) ≡ cond b (suc k) 0
lead_more true marks k e = ap suc e
lead_more false marks k e = refl

pub lead_is : (store : List ℕ) (w n k : ℕ) → lead (slots_read acknowledged_in store w n k) ≡ marked_run 2 store w n k
unfolding slots_read marked_run
lead_is store w n zero = refl
lead_is store w n (suc k) = ap lead (read_first acknowledged_in store w n k) ∙ lead_more (marked 2 store w n) (slots_read acknowledged_in store w (n + 1) k) (marked_run 2 store w (n + 1) k) (lead_is store w (n + 1) k)

-- the slot of base + j marked
marked_slot : (n : ℕ) → n ≤ 1400 → sender_slot_broken true true n 2 ≡ false
unfolding sender_slot_broken
marked_slot n h = rw (le-ltb 1400 n h)

module _ (v : Sender) (n : ℕ) (s : SoundWith (λ k. true) v) (from : v.window.send_base ≤ n) (below : n < v.window.next_seq_num) where
  abbrev pub marked_sender : Sender
  marked_sender = sender v.window (set_mark v.store (slot_for v.window n) 2)

  abbrev place : ℕ
  place = n - v.window.send_base

  placed : place < v.window.window_size
  placed = let few = s.few in omega arith

  same_slot : slot_of marked_sender.store v.window.window_size v.window.send_base place ≡ set (slot_of v.store v.window.window_size v.window.send_base place) 2 2
  same_slot =
      let few = s.few in
      set_number v.store v.window.window_size v.window.send_base n s.positive s.room from (omega arith) 2 2 (omega arith)

  other_slot : (i : ℕ) → i < v.window.window_size → (i ≡ place → ⊥)
      → slot_of marked_sender.store v.window.window_size v.window.send_base i ≡ slot_of v.store v.window.window_size v.window.send_base i
  other_slot i h ne =
      let few = s.few in
      set_number_other v.store v.window.window_size v.window.send_base n s.positive s.room from (omega arith) 2 2 (omega arith) i h ne

  marked_mark : (slot : List ℕ) → length slot ≡ 1404 → slot_mark (set slot 2 2) ≡ 2
  marked_mark slot e = get_or-set_same slot 2 2 0 (rw e (omega arith))

  size : length (slot_of v.store v.window.window_size v.window.send_base place) ≡ 1404
  size = slot_length_lem v.store _ (slot_in v.store (v.window.send_base + place) v.window.window_size s.positive s.room)

  pub marked_sound : SoundWith (λ k. true) marked_sender
  marked_sound =
      record {
        positive = s.positive;
        small = s.small;
        room = rw (length-set v.store (slot_for v.window n * 1404 + 2) 2) s.room;
        ordered = s.ordered;
        few = s.few;
        low = s.low;
        slots = λ k h. elim (ℕ_discrete k place) [
          | yes e ↦ rw e (same_broken (lt-ltb place (outstanding v.window) (omega arith)) refl same_slot at_place)
          | no e ↦ same_broken refl refl (other_slot k h e) (s.slots k h)
        ];
      }
    where
      at_place : slot_broken true true (set (slot_of v.store v.window.window_size v.window.send_base place) 2 2) ≡ false
      at_place =
          let slot = slot_of v.store v.window.window_size v.window.send_base place in
          let short = slot_short _ _ _ _ (s.slots place placed) in
          let l = length_kept 2 (omega arith) slot 2 in
          rw (marked_mark slot size, l) (marked_slot (slot_length slot) short)

  pub marked_follows : sender_of marked_sender ≡ Machine.mark_acknowledged (sender_of v) n
  marked_follows =
      let w = v.window.window_size in
      let base = v.window.send_base in
      let count = outstanding v.window in
      let before = slots_read acknowledged_in v.store w base count in
      let m = read_length acknowledged_in v.store w base count in
      let few = s.few in
      state_is refl
      (byte_read slot_payload v.store w base count s.positive s.room 2 (omega arith) (payload_kept 2 (omega arith) (omega arith)) (slot_for v.window n) 2)
      (read_is acknowledged_in marked_sender.store w base count false (set before place true) (length-set before place true ∙ m)
      (λ i h. elim (ℕ_discrete i place) [
        | yes e ↦ rw e (ap acknowledged_in same_slot ∙ eq-eqb _ 2 (marked_mark (slot_of v.store w base place) size) ∙ sym (get_or-set_same before place true false (rw m (omega arith))))
        | no e ↦ ap acknowledged_in (other_slot i (omega arith) e) ∙ sym (read_at acknowledged_in v.store w base count false i h) ∙ sym (get_or-set_other before place i true false e)
      ]))

-- what is marked from base on released
module _ (v : Sender) (s : SoundWith (λ k. true) v) where
  abbrev run : ℕ
  run = marked_run 2 v.store v.window.window_size v.window.send_base (outstanding v.window)

  run_few : run ≤ outstanding v.window
  run_few = run_within 2 v.store v.window.window_size v.window.send_base (outstanding v.window)

  pub slid_follows : sender_of (release v (v.window.send_base + run)) ≡ slide (sender_of v)
  slid_follows =
      let o = s.ordered in
      let f = run_few in
      let e : v.window.send_base + run - v.window.send_base ≡ run = omega arith in
      release_follows (λ k. true) v (v.window.send_base + run) s (omega arith) (omega arith)
      ∙ ap (Machine.move_base (sender_of v)) (e ∙ sym (lead_is v.store v.window.window_size v.window.send_base (outstanding v.window)))

  pub slid_good : Good true (release v (v.window.send_base + run))
  slid_good =
      let o = s.ordered in
      let f = run_few in
      release_good true v (v.window.send_base + run) s (omega arith) (omega arith)
      (λ h. run_stops 2 v.store v.window.window_size v.window.send_base (outstanding v.window) (omega arith))
