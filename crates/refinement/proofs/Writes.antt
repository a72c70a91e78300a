-- The slots of a window after a call wrote to one of them, or emptied those at its low end.
use Prim.Native.Nat.{ℕ, zero, suc, ◌+◌, ◌-◌, ◌*◌, ◌%◌, ◌≤◌, ◌<◌}
use mathlib.Core.Path.{◌≡◌, refl, sym, ap, ◌∙◌}
use mathlib.Core.List.{List}
use mathlib.Core.Logic.{inl, inr}
use native.Mathlib.Omega.{arith}
use native.Mathlib.Decide.{ℕ_discrete, dec_lt}
use lib.ListN.{length, set, replicate, length-replicate}
use lib.Seq.{drop-set-lt, get_or-set_other}
use Rattle.store.specs.Slot.{SlotIn, slot_at, slot_length, slot_mark, slot_payload, slot_bytes, fill_slot, empty_slot}
use Rattle.store.specs.Sound.{slot_of}
use Rattle.store.proofs.Laws.{slot_in, put_length, slot_bytes_length, set_same, set_other}
use Rattle.window.specs.Slots.{empty_from}
use Rattle.store.proofs.Ring.{turn, higher_base, put_read, put_read_other}

-- filling: next is base + count
module _ (store : List ℕ) (w base count : ℕ) (payload : List ℕ) (mark : ℕ) (positive : 0 < w) (room : w * 1404 ≤ length store) (short : length payload ≤ 1400) where
  pub filled_room : w * 1404 ≤ length (fill_slot store ((base + count) % w) payload mark 0)
  filled_room = rw (put_length store ((base + count) % w) (slot_bytes payload mark 0) (slot_in store (base + count) w positive room) (slot_bytes_length payload mark 0 short)) room

  pub filled_same : slot_of (fill_slot store ((base + count) % w) payload mark 0) w base count ≡ slot_bytes payload mark 0
  filled_same = put_read store w base count positive room (slot_bytes payload mark 0) (slot_bytes_length payload mark 0 short)

  pub filled_other : (i : ℕ) → i < w → count < w → (i ≡ count → ⊥) → slot_of (fill_slot store ((base + count) % w) payload mark 0) w base i ≡ slot_of store w base i
  filled_other i h k n = put_read_other store w base count positive room (slot_bytes payload mark 0) (slot_bytes_length payload mark 0 short) i h k n

-- byte b of a slot set: whatever doesn't depend on it is read as before, in every slot
pub byte_kept : {A : Type 0} (reading : List ℕ → A) (b : ℕ) → b < 1404 → ((slot : List ℕ) (x : ℕ) → reading (set slot b x) ≡ reading slot)
    → (store : List ℕ) (j x k : ℕ) → SlotIn store k → reading (slot_at (set store (j * 1404 + b) x) k) ≡ reading (slot_at store k)
byte_kept reading b l same store j x k h = elim (ℕ_discrete k j) [
  | yes e ↦ rw e (ap reading (set_same store j b x l) ∙ same (slot_at store j) x)
  | no e ↦ ap reading (set_other store j b x k h l (elim (dec_lt k j) [ yes m ↦ inl m | no m ↦ inr (omega arith) ]))
]

-- the length and the payload depend neither on the mark nor on the flags, the mark not on the flags
pub length_kept : (b : ℕ) → 2 ≤ b → (slot : List ℕ) (x : ℕ) → slot_length (set slot b x) ≡ slot_length slot
length_kept b h slot x = rw (get_or-set_other slot b 0 x 0 (λ e. omega arith), get_or-set_other slot b 1 x 0 (λ e. omega arith))

pub payload_kept : (b : ℕ) → 2 ≤ b → b < 4 → (slot : List ℕ) (x : ℕ) → slot_payload (set slot b x) ≡ slot_payload slot
unfolding slot_payload
payload_kept b h k slot x = rw (length_kept b h slot x, drop-set-lt 4 slot b x k)

pub mark_kept : (slot : List ℕ) (flags : ℕ) → slot_mark (set slot 3 flags) ≡ slot_mark slot
mark_kept slot flags = get_or-set_other slot 3 2 flags 0 (λ e. omega arith)

-- emptying j slots from base on
pub emptied_length : (store : List ℕ) (w base j : ℕ) → 0 < w → w * 1404 ≤ length store → length (empty_from store w base j) ≡ length store
unfolding empty_from
emptied_length store w base zero p r = refl
emptied_length store w base (suc j) p r =
    let e = put_length store (base % w) (replicate 1404 0) (slot_in store base w p r) (length-replicate {A = ℕ} 1404 0) in
    emptied_length (empty_slot store (base % w)) w (base + 1) j p (rw e r) ∙ e

module _ (w : ℕ) (positive : 0 < w) where
  empty_same : (store : List ℕ) (base : ℕ) → w * 1404 ≤ length store → slot_of (empty_slot store (base % w)) w base 0 ≡ replicate 1404 0
  empty_same store base r =
      let e : base + 0 ≡ base = omega arith in
      ap (λ (n : ℕ). slot_of (empty_slot store (n % w)) w base 0) (sym e) ∙ put_read store w base 0 positive r (replicate 1404 0) (length-replicate {A = ℕ} 1404 0)

  empty_other : (store : List ℕ) (base i : ℕ) → w * 1404 ≤ length store → suc i < w → slot_of (empty_slot store (base % w)) w base (suc i) ≡ slot_of store w base (suc i)
  empty_other store base i r h =
      let e : base + 0 ≡ base = omega arith in
      ap (λ (n : ℕ). slot_of (empty_slot store (n % w)) w base (suc i)) (sym e)
      ∙ put_read_other store w base 0 positive r (replicate 1404 0) (length-replicate {A = ℕ} 1404 0) (suc i) h positive (λ n. omega arith)

  empty_room : (store : List ℕ) (base : ℕ) → w * 1404 ≤ length store → w * 1404 ≤ length (empty_slot store (base % w))
  empty_room store base r = rw (put_length store (base % w) (replicate 1404 0) (slot_in store base w positive r) (length-replicate {A = ℕ} 1404 0)) r

  after_first : (store : List ℕ) (base i : ℕ) → slot_of store w base (suc i) ≡ slot_of store w (base + 1) i
  after_first store base i = let e : suc i ≡ 1 + i = omega arith in ap (slot_of store w base) e ∙ sym (higher_base store w base 1 i)

  pub emptied_kept : (store : List ℕ) (base j i : ℕ) → w * 1404 ≤ length store → j ≤ i → i < w → slot_of (empty_from store w base j) w base i ≡ slot_of store w base i
  unfolding empty_from
  emptied_kept store base zero i r h k = refl
  emptied_kept store base (suc j) zero r h k = absurd (omega arith)
  emptied_kept store base (suc j) (suc i) r h k =
      let next = empty_slot store (base % w) in
      after_first (empty_from next w (base + 1) j) base i ∙ emptied_kept next (base + 1) j i (empty_room store base r) (omega arith) (omega arith)
      ∙ sym (after_first next base i) ∙ empty_other store base i r k

  pub emptied_empty : (store : List ℕ) (base j i : ℕ) → w * 1404 ≤ length store → j ≤ w → i < j → slot_of (empty_from store w base j) w base i ≡ replicate 1404 0
  unfolding empty_from
  emptied_empty store base zero i r h k = absurd (omega arith)
  emptied_empty store base (suc j) zero r h k =
      let next = empty_slot store (base % w) in
      let e : 0 + w ≡ suc (w - 1) = omega arith in
      let around : (s : List ℕ) → slot_of s w base 0 ≡ slot_of s w (base + 1) (w - 1) = λ s. sym (turn s w base 0) ∙ ap (slot_of s w base) e ∙ after_first s base (w - 1) in
      around (empty_from next w (base + 1) j) ∙ emptied_kept next (base + 1) j (w - 1) (empty_room store base r) (omega arith) (omega arith)
      ∙ sym (around next) ∙ empty_same store base r
  emptied_empty store base (suc j) (suc i) r h k =
      let next = empty_slot store (base % w) in
      after_first (empty_from next w (base + 1) j) base i ∙ emptied_empty next (base + 1) j i (empty_room store base r) (omega arith) (omega arith)

  -- counted from the base after them
  pub released_kept : (store : List ℕ) (base j k : ℕ) → w * 1404 ≤ length store → j + k < w → slot_of (empty_from store w base j) w (base + j) k ≡ slot_of store w base (j + k)
  released_kept store base j k r h = higher_base (empty_from store w base j) w base j k ∙ emptied_kept store base j (j + k) r (omega arith) h

  pub released_empty : (store : List ℕ) (base j k : ℕ) → w * 1404 ≤ length store → j ≤ w → k < w → w ≤ j + k → slot_of (empty_from store w base j) w (base + j) k ≡ replicate 1404 0
  released_empty store base j k r h l m =
      let s = empty_from store w base j in
      let e : j + k ≡ j + k - w + w = omega arith in
      higher_base s w base j k ∙ ap (slot_of s w base) e ∙ turn s w base (j + k - w) ∙ emptied_empty store base j (j + k - w) r h (omega arith)
