-- Clean slots stay so: filled, emptied, marked or flagged.
use Prim.Native.Nat.{ℕ, ◌+◌, ◌-◌, ◌*◌, ◌≤◌, ◌<◌}
use mathlib.Core.Path.{◌≡◌, refl, sym, ap, ◌∙◌, subst}
use mathlib.Core.Bool.{Bool, true, false}
use mathlib.Core.List.{List, ◌++◌}
use mathlib.Core.Logic.{◌⊎◌, inl, inr}
use native.Mathlib.Omega.{arith}
use native.Mathlib.Decide.{dec_lt}
use lib.Dec.{eqb}
use lib.ListN.{length, set, take, replicate, length-append, length-replicate}
use lib.Seq.{get_or-set_other, drop_at, drop-append-le, take-append-le, drop-set-lt}
use borrow.Author.Tests.{eqb-true, eqb-false}
use Rattle.store.specs.Slot.{head_bytes, slot_at, slot_length, slot_bytes, put_slot}
use Rattle.store.specs.Clean.{ZerosFrom, CleanSlot, CleanSlots}
use Rattle.store.proofs.Laws.{filled_length, put_same, put_other, set_same, set_other}
use Rattle.store.proofs.Write.{drop_zeros, take_zeros}

-- ---- a slot
behind_payload : (payload : List ℕ) (mark flags : ℕ) → length payload ≤ 1400 → ZerosFrom (4 + length payload) (slot_bytes payload mark flags)
unfolding slot_bytes
behind_payload payload mark flags h =
    let k : 1400 - length payload ≡ 1404 - (4 + length payload) = omega arith in
    drop_at (head_bytes (length payload) mark flags ++ payload) (replicate (1400 - length payload) 0) (4 + length payload) (simp length-append) ∙ ap (λ (i : ℕ). replicate i 0) k

pub filled_clean : (payload : List ℕ) (mark flags : ℕ) → length payload ≤ 1400 → CleanSlot (slot_bytes payload mark flags)
filled_clean payload mark flags h = let n = filled_length payload mark flags in record { short = rw n h; zeros = rw n (behind_payload payload mark flags h) }

pub empty_clean : CleanSlot (replicate 1404 0)
empty_clean = record { short = omega arith; zeros = drop_zeros 4 1404 (omega arith) }

-- its mark or its flags set
pub set_clean : (slot : List ℕ) (i v : ℕ) → 2 ≤ i → i < 4 → CleanSlot slot → CleanSlot (set slot i v)
set_clean slot i v low high c = record { short = rw same c.short; zeros = rw same (drop-set-lt (4 + slot_length slot) slot i v (omega arith) ∙ c.zeros) }
  where
    same : slot_length (set slot i v) ≡ slot_length slot
    same = rw (get_or-set_other slot i 0 v 0 (λ e. omega arith), get_or-set_other slot i 1 v 0 (λ e. omega arith))

-- ---- slots
apart : (k j : ℕ) → (k ≡ j → ⊥) → (k < j) ⊎ (j < k)
apart k j ne = elim (dec_lt k j) [
  | yes l ↦ inl l
  | no l ↦ inr (omega arith)
]

module _ (store : List ℕ) (w : ℕ) (room : w * 1404 ≤ length store) (c : CleanSlots store w) (j : ℕ) where
  pub put_clean : (slot : List ℕ) → j < w → length slot ≡ 1404 → CleanSlot slot → CleanSlots (put_slot store j slot) w
  put_clean slot h size s = record { each = λ k l. one k l (eqb k j) refl }
    where
      one : (k : ℕ) → k < w → (t : Bool) → eqb k j ≡ t → CleanSlot (slot_at (put_slot store j slot) k)
      one k l true e = subst (λ (i : ℕ). CleanSlot (slot_at (put_slot store j slot) i)) (sym (eqb-true k j e)) (subst CleanSlot (sym (put_same store j slot (omega arith) size)) s)
      one k l false e = subst CleanSlot (sym (put_other store j slot (omega arith) size k (omega arith) (apart k j (eqb-false k j e)))) (c.each k l)

  pub byte_clean : (i v : ℕ) → 2 ≤ i → i < 4 → CleanSlots (set store (j * 1404 + i) v) w
  byte_clean i v low high = record { each = λ k l. one k l (eqb k j) refl }
    where
      one : (k : ℕ) → k < w → (t : Bool) → eqb k j ≡ t → CleanSlot (slot_at (set store (j * 1404 + i) v) k)
      one k l true e =
          let is = eqb-true k j e in
          subst (λ (n : ℕ). CleanSlot (slot_at (set store (j * 1404 + i) v) n)) (sym is) (subst CleanSlot (sym (set_same store j i v (omega arith))) (set_clean (slot_at store j) i v low high (c.each j (rw is at l))))
      one k l false e = subst CleanSlot (sym (set_other store j i v k (omega arith) (omega arith) (apart k j (eqb-false k j e)))) (c.each k l)

-- all emptied
zeros_at : (store : List ℕ) (w j : ℕ) → j < w → slot_at (replicate (w * 1404) 0 ++ store) j ≡ replicate 1404 0
unfolding slot_at
zeros_at store w j h =
    ap (take 1404) (drop-append-le (j * 1404) (replicate (w * 1404) 0) store (rw length-replicate (omega arith)) ∙ ap (λ (l : List ℕ). l ++ store) (drop_zeros (j * 1404) (w * 1404) (omega arith)))
    ∙ take-append-le 1404 (replicate (w * 1404 - j * 1404) 0) store (rw length-replicate (omega arith))
    ∙ take_zeros 1404 (w * 1404 - j * 1404) (omega arith)

pub made_clean : (store : List ℕ) (w : ℕ) → CleanSlots (replicate (w * 1404) 0 ++ store) w
made_clean store w = record { each = λ j h. subst CleanSlot (sym (zeros_at store w j h)) empty_clean }
