-- A Selective Repeat receiver's slots stay unbroken, and nothing is held at or above the limit.
use Prim.Native.Nat.{ℕ, zero, suc, ◌+◌, ◌-◌, ◌*◌, ◌%◌, ◌≤◌, ◌<◌}
use mathlib.Core.Path.{◌≡◌, refl, ap, ◌∙◌}
use mathlib.Core.Bool.{Bool, true, false, ◌||◌, ◌&&◌, and-false}
use mathlib.Core.List.{List}
use native.Mathlib.Omega.{arith}
use native.Mathlib.Decide.{ℕ_discrete, dec_lt}
use borrow.Author.Tests.{le-ltb, eqb-true, eqb-false, ne_eqb}
use lib.ListN.{length, replicate}
use lib.Dec.{ltb, eqb}
use Rattle.refusal.proofs.Laws.{or_false}
use Rattle.store.specs.Slot.{slot_mark, fill_slot}
use Rattle.store.specs.Sound.{is_filled, out_of_bounds, receiver_slot_broken, slot_of}
use Rattle.store.specs.Numbers.{marked_run}
use Rattle.store.proofs.Laws.{filled_length, filled_mark, run_within}
use Rattle.window.specs.Slots.{empty_from}
use Rattle.refinement.specs.Good.{NoneHeldFrom}
use Rattle.store.proofs.Ring.{higher_base}
use Rattle.refinement.proofs.Writes.{filled_same, filled_other, released_kept, released_empty}
use Rattle.refinement.proofs.Good.{zeros_length, zeros_mark}
use Rattle.refinement.proofs.MarkedRuns.{run_at, run_stops}
use Rattle.refinement.proofs.Held.{slot_broken, marks_low, base_mark, wrapped}

-- a slot that isn't broken, as base's or another's
any_place : (a b : Bool) (n mark : ℕ) → receiver_slot_broken a n mark ≡ false → (b ≡ true → mark ≡ 0) → receiver_slot_broken b n mark ≡ false
unfolding receiver_slot_broken
any_place a b n mark h z =
    let f = or_false (out_of_bounds n mark || (a && is_filled mark)) (eqb mark 2) h in
    let o = (or_false (out_of_bounds n mark) (a && is_filled mark) f.0).0 in
    by_place b z (or_false (ltb 1400 n) (ltb 2 mark) o).0 (or_false (ltb 1400 n) (ltb 2 mark) o).1 f.1
  where
    by_place : (b : Bool) → (b ≡ true → mark ≡ 0) → ltb 1400 n ≡ false → ltb 2 mark ≡ false → eqb mark 2 ≡ false → receiver_slot_broken b n mark ≡ false
    by_place false z p q r = rw (p, q, r)
    by_place true z p q r = let e = z refl in rw (e, p)

held_slot : (n mark : ℕ) → n ≤ 1400 → mark ≡ 1 → receiver_slot_broken false n mark ≡ false
unfolding receiver_slot_broken
held_slot n mark h e = rw (e, le-ltb 1400 n h)

pub empty_slot : (b : Bool) (n mark : ℕ) → n ≡ 0 → mark ≡ 0 → receiver_slot_broken b n mark ≡ false
unfolding receiver_slot_broken
empty_slot b n mark e f = rw (e, f, and-false b)

same_broken : {b c : Bool} {s t : List ℕ} → b ≡ c → s ≡ t → slot_broken c t ≡ false → slot_broken b s ≡ false
same_broken e f h = rw (e, f) h

module _ (store : List ℕ) (w base : ℕ) (positive : 0 < w) (room : w * 1404 ≤ length store) (slots : (k : ℕ) → k < w → slot_broken (eqb k 0) (slot_of store w base k) ≡ false) where
  -- one more held
  pub held_slots : (j : ℕ) (payload : List ℕ) → 0 < j → j < w → length payload ≤ 1400
      → (k : ℕ) → k < w → slot_broken (eqb k 0) (slot_of (fill_slot store ((base + j) % w) payload 1 0) w base k) ≡ false
  held_slots j payload p h short k l = elim (ℕ_discrete k j) [
    | yes e ↦ same_broken (ne_eqb k 0 (λ z. omega arith)) (ap (slot_of (fill_slot store ((base + j) % w) payload 1 0) w base) e ∙ filled_same store w base j payload 1 positive room short)
        (held_slot _ _ (rw (filled_length payload 1 0) short) (filled_mark payload 1 0))
    | no e ↦ same_broken refl (filled_other store w base j payload 1 positive room short k l h e) (slots k l)
  ]

  pub held_low : (j : ℕ) (payload : List ℕ) (limit : ℕ) → j < w → length payload ≤ 1400 → base + j < limit → NoneHeldFrom limit store w base
      → NoneHeldFrom limit (fill_slot store ((base + j) % w) payload 1 0) w base
  held_low j payload limit h short low none k l high = elim (ℕ_discrete k j) [
    | yes e ↦ absurd (omega arith)
    | no e ↦ ap slot_mark (filled_other store w base j payload 1 positive room short k l h e) ∙ none k l high
  ]

  -- base and the k numbers after it delivered
  module _ (k : ℕ) (few : k ≤ w - 1) where
    -- a slot of the window after it: one after base, base's, or one that was emptied
    placed : (P : List ℕ → Type 0) (i : ℕ) → i < w → (1 + (k + i) < w → P (slot_of store w base (1 + (k + i)))) → (k + i ≡ w - 1 → P (slot_of store w base 0)) → P (replicate 1404 0)
        → P (slot_of (empty_from store w (base + 1) k) w (base + 1 + k) i)
    placed P i h f g z = elim (dec_lt (k + i) w) [
      | yes l ↦ elim (dec_lt (1 + (k + i)) w) [
        | yes m ↦ rw (released_kept w positive store (base + 1) k i room l, higher_base store w base 1 (k + i)) (f m)
        | no m ↦ let e : k + i ≡ w - 1 = omega arith in
            rw (released_kept w positive store (base + 1) k i room l ∙ ap (slot_of store w (base + 1)) e ∙ wrapped store w base positive room slots) (g e)
      ]
      | no l ↦ rw (released_empty w positive store (base + 1) k i room (omega arith) h (omega arith)) z
    ]

    pub delivered_slots : (k < w - 1 → slot_mark (slot_of store w (base + 1) k) ≡ 0) → (i : ℕ) → i < w → slot_broken (eqb i 0) (slot_of (empty_from store w (base + 1) k) w (base + 1 + k) i) ≡ false
    delivered_slots stop i h =
        placed (λ s. slot_broken (eqb i 0) s ≡ false) i h
        (λ l. any_place _ (eqb i 0) _ _ (slots (1 + (k + i)) l) (λ e. let z : i ≡ 0 = eqb-true i 0 e in let y : k + i ≡ k = omega arith in
        rw (y, ← higher_base store w base 1 k) (stop (omega arith))))
        (λ e. any_place _ (eqb i 0) _ _ (slots 0 positive) (λ f. base_mark store w base positive room slots))
        (empty_slot (eqb i 0) _ _ zeros_length zeros_mark)

    pub delivered_low : (limit : ℕ) → NoneHeldFrom limit store w base → NoneHeldFrom limit (empty_from store w (base + 1) k) w (base + 1 + k)
    delivered_low limit none i h high =
        placed (λ s. slot_mark s ≡ 0) i h (λ l. none (1 + (k + i)) l (omega arith)) (λ e. base_mark store w base positive room slots) zeros_mark

  -- the run after base
  pub run_stop : marked_run 1 store w (base + 1) (w - 1) < w - 1 → slot_mark (slot_of store w (base + 1) (marked_run 1 store w (base + 1) (w - 1))) ≡ 0
  run_stop h =
      let k = marked_run 1 store w (base + 1) (w - 1) in
      let e = eqb-false (slot_mark (slot_of store w (base + 1) k)) 1 (run_stops 1 store w (base + 1) (w - 1) h) in
      let l : slot_mark (slot_of store w (base + 1) k) < 2 = rw (higher_base store w base 1 k) (marks_low store w base positive room slots (1 + k) (omega arith)) in
      omega arith

  pub run_low : (limit : ℕ) → base < limit → NoneHeldFrom limit store w base → base + 1 + marked_run 1 store w (base + 1) (w - 1) ≤ limit
  run_low limit low none = by_run (marked_run 1 store w (base + 1) (w - 1)) (run_within 1 store w (base + 1) (w - 1)) (λ i h. run_at 1 store w (base + 1) (w - 1) i h)
    where
      by_run : (k : ℕ) → k ≤ w - 1 → ((i : ℕ) → i < k → slot_mark (slot_of store w (base + 1) i) ≡ 1) → base + 1 + k ≤ limit
      by_run zero h at = omega arith
      by_run (suc k) h at = elim (dec_lt (base + 1 + k) limit) [
        | yes l ↦ omega arith
        | no l ↦
            let one = at k (omega arith) in
            let zero : slot_mark (slot_of store w (base + 1) k) ≡ 0 = rw (higher_base store w base 1 k) (none (1 + k) (omega arith) (omega arith)) in
            absurd (omega arith)
      ]
