-- The slots of a Selective Repeat receiver, read as what the machine holds: a run of them, one more held, a run delivered.
use Rattle.std.specs.Prelude.{Option, None, Some}
use Prim.Native.Nat.{ℕ, zero, suc, ◌+◌, ◌-◌, ◌*◌, ◌%◌, ◌≤◌, ◌<◌}
use mathlib.Core.Path.{◌≡◌, refl, sym, ap, ◌∙◌}
use mathlib.Core.Bool.{Bool, true, false, ◌||◌, ◌&&◌}
use mathlib.Core.List.{List, ◌∷◌, ◌++◌, flatten}
use native.Mathlib.Omega.{arith}
use native.Mathlib.Decide.{ℕ_discrete, dec_lt}
use borrow.Author.Tests.{ltb-false, eqb-true, eqb-false, eq-eqb, ne_eqb, not-false}
use lib.ListN.{length, get_or, drop, set, replicate, length-append, length-drop, length-set, length-replicate, get_or-replicate, get_or-append}
use lib.Seq.{get_or-drop, get_or-append-add, get_or-set_same, get_or-set_other}
use lib.Dec.{ltb, eqb}
use Rattle.protocol.specs.Machine.{Chunk, held_run}
use Rattle.refusal.proofs.Laws.{or_false}
use Rattle.store.specs.Slot.{slot_at, slot_length, slot_mark, slot_payload, slot_bytes, fill_slot}
use Rattle.store.specs.Sound.{is_filled, out_of_bounds, receiver_slot_broken, slot_of}
use Rattle.store.specs.Numbers.{marked_run, payloads_from}
use Rattle.store.proofs.Laws.{filled_mark, filled_payload}
use Rattle.window.specs.Slots.{empty_from}
use Rattle.refinement.specs.Follows.{held_in, slots_read}
use Rattle.store.proofs.Ring.{turn, higher_base}
use Rattle.refinement.proofs.Rows.{read_length, read_at, read_is, read_first}
use Rattle.refinement.proofs.Writes.{filled_same, filled_other, released_kept, released_empty}
use Rattle.refinement.proofs.Good.{zeros_mark}

-- a slot's mark is 0 or 1, base's 0
abbrev pub slot_broken : Bool → List ℕ → Bool
slot_broken isBase slot = receiver_slot_broken isBase (slot_length slot) (slot_mark slot)

low_mark : (isBase : Bool) (n mark : ℕ) → receiver_slot_broken isBase n mark ≡ false → mark < 2
unfolding receiver_slot_broken
low_mark isBase n mark e =
    let f = or_false (out_of_bounds n mark || (isBase && is_filled mark)) (eqb mark 2) e in
    let g = or_false (out_of_bounds n mark) (isBase && is_filled mark) f.0 in
    let two = eqb-false mark 2 f.1 in
    let le = ltb-false 2 mark (or_false (ltb 1400 n) (ltb 2 mark) g.0).1 in
    omega arith

base_empty : (n mark : ℕ) → receiver_slot_broken true n mark ≡ false → mark ≡ 0
unfolding receiver_slot_broken
base_empty n mark e =
    let f = or_false (out_of_bounds n mark || is_filled mark) (eqb mark 2) e in
    eqb-true mark 0 (not-false (eqb mark 0) (or_false (out_of_bounds n mark) (is_filled mark) f.0).1)

pub empty_none : (slot : List ℕ) → slot_mark slot ≡ 0 → held_in slot ≡ None
empty_none slot e = rw e

pub full_some : (slot : List ℕ) → slot_mark slot ≡ 1 → held_in slot ≡ Some (slot_payload slot)
full_some slot e = rw e

zeros_none : held_in (replicate 1404 0) ≡ None
zeros_none = empty_none (replicate 1404 0) zeros_mark

-- a run of slots that are held
pub record RunIs (store : List ℕ) (w n k : ℕ) : Type 0 where
  pub count : length (held_run (slots_read held_in store w n k)) ≡ marked_run 1 store w n k
  pub bytes : flatten (held_run (slots_read held_in store w n k)) ≡ payloads_from store w n (marked_run 1 store w n k)

run_more : (store : List ℕ) (w n k : ℕ) → slot_mark (slot_at store (n % w)) < 2 → RunIs store w (n + 1) k → Dec (slot_mark (slot_at store (n % w)) ≡ 1) → RunIs store w n (suc k)
unfolding marked_run payloads_from flatten
run_more store w n k l rest (yes e) =
    let first = full_some (slot_at store (n % w)) e in
    let test = eq-eqb (slot_mark (slot_at store (n % w))) 1 e in
    record {
      count = rw (read_first held_in store w n k, first, test) (ap suc rest.count);
      bytes = rw (read_first held_in store w n k, first, test) (ap (λ (l : List ℕ). slot_payload (slot_at store (n % w)) ++ l) rest.bytes);
    }
run_more store w n k l rest (no e) =
    let m : slot_mark (slot_at store (n % w)) ≡ 0 = omega arith in
    let first = empty_none (slot_at store (n % w)) m in
    let test = ne_eqb (slot_mark (slot_at store (n % w))) 1 e in
    record { count = rw (read_first held_in store w n k, first, test); bytes = rw (read_first held_in store w n k, first, test) }

pub run_is : (store : List ℕ) (w n k : ℕ) → ((i : ℕ) → i < k → slot_mark (slot_of store w n i) < 2) → RunIs store w n k
unfolding slots_read marked_run payloads_from flatten
run_is store w n zero h = record { count = refl; bytes = refl }
run_is store w n (suc k) h =
    let z : n + 0 ≡ n = omega arith in
    run_more store w n k (rw z at (h 0 (omega arith)))
    (run_is store w (n + 1) k (λ i l. let e : n + suc i ≡ n + 1 + i = omega arith in rw e at (h (suc i) (omega arith))))
    (ℕ_discrete (slot_mark (slot_at store (n % w))) 1)

-- a receiver's slots, none of them broken
module _ (store : List ℕ) (w base : ℕ) (positive : 0 < w) (room : w * 1404 ≤ length store) (slots : (k : ℕ) → k < w → slot_broken (eqb k 0) (slot_of store w base k) ≡ false) where
  pub marks_low : (k : ℕ) → k < w → slot_mark (slot_of store w base k) < 2
  marks_low k h = low_mark (eqb k 0) _ _ (slots k h)

  pub base_mark : slot_mark (slot_of store w base 0) ≡ 0
  base_mark = base_empty (slot_length (slot_of store w base 0)) (slot_mark (slot_of store w base 0)) (slots 0 positive)

  after_base : (i : ℕ) → slot_of store w (base + 1) i ≡ slot_of store w base (1 + i)
  after_base i = higher_base store w base 1 i

  -- base is not held
  pub held_is : slots_read held_in store w base w ≡ None ∷ slots_read held_in store w (base + 1) (w - 1)
  held_is =
      let e : w ≡ suc (w - 1) = omega arith in
      let z : base + 0 ≡ base = omega arith in
      ap (slots_read held_in store w base) e ∙ read_first held_in store w base (w - 1)
      ∙ ap (λ (o : Option Chunk). o ∷ slots_read held_in store w (base + 1) (w - 1)) (ap (λ (n : ℕ). held_in (slot_at store (n % w))) (sym z) ∙ empty_none (slot_of store w base 0) base_mark)

  pub run_after_base : RunIs store w (base + 1) (w - 1)
  run_after_base = run_is store w (base + 1) (w - 1) (λ i h. rw (after_base i) (marks_low (1 + i) (omega arith)))

  -- one more held
  pub held_more : (j : ℕ) (payload : List ℕ) → j < w → length payload ≤ 1400
      → slots_read held_in (fill_slot store ((base + j) % w) payload 1 0) w base w ≡ set (slots_read held_in store w base w) j (Some payload)
  held_more j payload h short =
      let before = slots_read held_in store w base w in
      let n = read_length held_in store w base w in
      read_is held_in (fill_slot store ((base + j) % w) payload 1 0) w base w None (set before j (Some payload)) (length-set before j (Some payload) ∙ n)
      (λ i l. elim (ℕ_discrete i j) [
        | yes e ↦ rw e (ap held_in (filled_same store w base j payload 1 positive room short) ∙ full_some (slot_bytes payload 1 0) (filled_mark payload 1 0) ∙ ap Some (filled_payload payload 1 0)
            ∙ sym (get_or-set_same before j (Some payload) None (rw n h)))
        | no e ↦ ap held_in (filled_other store w base j payload 1 positive room short i l h e) ∙ sym (read_at held_in store w base w None i l) ∙ sym (get_or-set_other before j i (Some payload) None e)
      ])

  -- base and the k numbers after it delivered
  pub wrapped : slot_of store w (base + 1) (w - 1) ≡ slot_of store w base 0
  wrapped = let e : 1 + (w - 1) ≡ 0 + w = omega arith in after_base (w - 1) ∙ ap (slot_of store w base) e ∙ turn store w base 0

  pub held_delivered : (k : ℕ) → k ≤ w - 1
      → slots_read held_in (empty_from store w (base + 1) k) w (base + 1 + k) w ≡ drop k (slots_read held_in store w (base + 1) (w - 1)) ++ replicate (suc k) None
  held_delivered k h =
      let rest = slots_read held_in store w (base + 1) (w - 1) in
      let n = read_length held_in store w (base + 1) (w - 1) in
      let m : length (drop k rest) ≡ w - 1 - k = length-drop k rest ∙ ap (λ (x : ℕ). x - k) n in
      let size : length (drop k rest ++ replicate (suc k) None) ≡ w = length-append (drop k rest) (replicate (suc k) None) ∙ simp (m, length-replicate) (omega arith) in
      read_is held_in (empty_from store w (base + 1) k) w (base + 1 + k) w None (drop k rest ++ replicate (suc k) None) size
      (λ i l. elim (dec_lt (k + i) (w - 1)) [
        | yes a ↦ ap held_in (released_kept w positive store (base + 1) k i room (omega arith)) ∙ sym (read_at held_in store w (base + 1) (w - 1) None (k + i) a) ∙ sym (get_or-drop k rest i None)
            ∙ sym (get_or-append (drop k rest) (replicate (suc k) None) None i (rw m (omega arith)))
        | no a ↦ freed k h i l (omega arith) ∙ sym (past k h i l m (omega arith))
      ])
    where
      freed : (k : ℕ) → k ≤ w - 1 → (i : ℕ) → i < w → w - 1 ≤ k + i → held_in (slot_of (empty_from store w (base + 1) k) w (base + 1 + k) i) ≡ None
      freed k h i l a = elim (dec_lt (k + i) w) [
        | yes b ↦ let e : k + i ≡ w - 1 = omega arith in
            ap held_in (released_kept w positive store (base + 1) k i room b ∙ ap (slot_of store w (base + 1)) e ∙ wrapped) ∙ empty_none (slot_of store w base 0) base_mark
        | no b ↦ ap held_in (released_empty w positive store (base + 1) k i room (omega arith) l (omega arith)) ∙ zeros_none
      ]

      past : (k : ℕ) → k ≤ w - 1 → (i : ℕ) → i < w → length (drop k (slots_read held_in store w (base + 1) (w - 1))) ≡ w - 1 - k → w - 1 ≤ k + i
          → get_or (drop k (slots_read held_in store w (base + 1) (w - 1)) ++ replicate (suc k) None) i None ≡ None
      past k h i l m a =
          let rest = drop k (slots_read held_in store w (base + 1) (w - 1)) in
          let e : i ≡ length rest + (i - (w - 1 - k)) = omega arith in
          ap (λ (x : ℕ). get_or (rest ++ replicate (suc k) None) x None) e ∙ get_or-append-add rest (replicate (suc k) None) (i - (w - 1 - k)) None
          ∙ get_or-replicate (suc k) (i - (w - 1 - k)) None None (omega arith)
