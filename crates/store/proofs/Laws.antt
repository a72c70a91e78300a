-- The laws of slots, for crates above to cite.
use Prim.Native.Nat.{ℕ, ◌+◌, ◌-◌, ◌*◌, ◌/◌, ◌%◌, ◌≤◌, ◌<◌}
use mathlib.Core.Path.{◌≡◌, refl, sym, ap, ◌∙◌}
use mathlib.Core.List.{List, [], ◌∷◌, ◌++◌, append_assoc}
use mathlib.Core.Logic.{◌⊎◌, inl, inr, ⊎_elim}
use native.Mathlib.Omega.{arith}
use lib.ListN.{length, get_or, set, take, drop, replicate, length-append, length-take, length-drop, length-set, length-replicate, get_or-append}
use lib.Seq.{get_or-take, get_or-drop, get_or-append-add, get_or-set_other, length-take-le, take_at, drop_at, take-append_seam, drop-drop, take-take, ext_get_or, take-set-lt, drop-set-add}
use Rattle.store.specs.Slot.{SlotIn, slot_at, slot_length, slot_mark, slot_payload, slot_bytes, put_slot}
pub use Rattle.store.proofs.Tests.{slot_in, none_found, receiver_slot_short}
pub use Rattle.store.proofs.Numbers.{run_within, count_within, written_on, written_none, written_length, payloads_none}

-- a byte of a slot
pub slot_byte : (store : List ℕ) (j i : ℕ) → i < 1404 → get_or (slot_at store j) i 0 ≡ get_or store (j * 1404 + i) 0
unfolding slot_at
slot_byte store j i h = get_or-take 1404 (drop (j * 1404) store) i 0 h ∙ get_or-drop (j * 1404) store i 0

pub slot_length_lem : (store : List ℕ) (j : ℕ) → SlotIn store j → length (slot_at store j) ≡ 1404
unfolding slot_at
slot_length_lem store j h = length-take-le 1404 (drop (j * 1404) store) (simp length-drop (omega arith))

-- the payload as a part of the store
behind_head : (l : List ℕ) → drop 4 (take 1404 l) ≡ take 1400 (drop 4 l)
behind_head [] = refl
behind_head (a ∷ []) = refl
behind_head (a ∷ b ∷ []) = refl
behind_head (a ∷ b ∷ c ∷ []) = refl
behind_head (a ∷ b ∷ c ∷ d ∷ l) = refl

pub slot_payload_lem : (store : List ℕ) (j : ℕ) (n : ℕ) → n ≡ slot_length (slot_at store j) → n ≤ 1400 → slot_payload (slot_at store j) ≡ take n (drop (j * 1404 + 4) store)
unfolding slot_payload slot_at
slot_payload_lem store j n e h =
    ap (λ (k : ℕ). take k (drop 4 (take 1404 (drop (j * 1404) store)))) (sym e)
    ∙ ap (take n) (behind_head (drop (j * 1404) store)) ∙ take-take n 1400 (drop 4 (drop (j * 1404) store)) h
    ∙ ap (take n) (drop-drop 4 (j * 1404) store)

-- a slot's payload is as long as its length says
pub slot_payload_length : (store : List ℕ) (j : ℕ) → SlotIn store j → slot_length (slot_at store j) ≤ 1400 → length (slot_payload (slot_at store j)) ≡ slot_length (slot_at store j)
unfolding slot_payload
slot_payload_length store j h k = simp (length-take, length-drop) (omega (arith, slot_length_lem store j h))

-- the fields of what filling writes
pub slot_bytes_length : (payload : List ℕ) (mark flags : ℕ) → length payload ≤ 1400 → length (slot_bytes payload mark flags) ≡ 1404
unfolding slot_bytes
slot_bytes_length payload mark flags h = simp (length-append, length-replicate) (omega arith)

pub filled_length : (payload : List ℕ) (mark flags : ℕ) → slot_length (slot_bytes payload mark flags) ≡ length payload
unfolding slot_bytes
filled_length payload mark flags = omega arith

pub filled_mark : (payload : List ℕ) (mark flags : ℕ) → slot_mark (slot_bytes payload mark flags) ≡ mark
unfolding slot_bytes
filled_mark payload mark flags = refl

pub filled_payload : (payload : List ℕ) (mark flags : ℕ) → slot_payload (slot_bytes payload mark flags) ≡ payload
unfolding slot_payload slot_bytes
filled_payload payload mark flags =
    let n : length payload / 256 * 256 + length payload % 256 ≡ length payload = omega arith in
    rw n (take-append_seam payload (replicate (1400 - length payload) 0))

-- a slot written over: the same slot, another slot, the length of the store
module _ (store : List ℕ) (j : ℕ) (slot : List ℕ) (here : SlotIn store j) (size : length slot ≡ 1404) where
  front_length : length (take (j * 1404) store) ≡ j * 1404
  front_length = length-take-le (j * 1404) store (omega arith)

  pub put_length : length (put_slot store j slot) ≡ length store
  unfolding put_slot
  put_length = simp (length-append, length-drop, front_length, size) (omega arith)

  pub put_same : slot_at (put_slot store j slot) j ≡ slot
  unfolding slot_at put_slot
  put_same =
      ap (λ (l : List ℕ). take 1404 (drop (j * 1404) l)) (append_assoc (take (j * 1404) store) slot (drop (j * 1404 + 1404) store))
      ∙ ap (take 1404) (drop_at (take (j * 1404) store) (slot ++ drop (j * 1404 + 1404) store) (j * 1404) front_length)
      ∙ take_at slot (drop (j * 1404 + 1404) store) 1404 size

  put_before : (i : ℕ) → i < j * 1404 → get_or (put_slot store j slot) i 0 ≡ get_or store i 0
  unfolding put_slot
  put_before i h =
      ap (λ (l : List ℕ). get_or l i 0) (append_assoc (take (j * 1404) store) slot (drop (j * 1404 + 1404) store))
      ∙ get_or-append (take (j * 1404) store) (slot ++ drop (j * 1404 + 1404) store) 0 i (rw front_length h) ∙ get_or-take (j * 1404) store i 0 h

  put_behind : (i : ℕ) → get_or (put_slot store j slot) (j * 1404 + 1404 + i) 0 ≡ get_or store (j * 1404 + 1404 + i) 0
  unfolding put_slot
  put_behind i =
      let n : length (take (j * 1404) store ++ slot) ≡ j * 1404 + 1404 = simp (length-append, front_length, size) in
      ap (λ (k : ℕ). get_or (take (j * 1404) store ++ slot ++ drop (j * 1404 + 1404) store) (k + i) 0) (sym n)
      ∙ get_or-append-add (take (j * 1404) store ++ slot) (drop (j * 1404 + 1404) store) i 0 ∙ get_or-drop (j * 1404 + 1404) store i 0

  other_byte : (k i : ℕ) → i < 1404 → (k < j) ⊎ (j < k) → get_or (put_slot store j slot) (k * 1404 + i) 0 ≡ get_or store (k * 1404 + i) 0
  other_byte k i h (inl e) = put_before (k * 1404 + i) (omega arith)
  other_byte k i h (inr e) =
      let n : k * 1404 + i ≡ j * 1404 + 1404 + (k * 1404 + i - (j * 1404 + 1404)) = omega arith in
      rw n (put_behind (k * 1404 + i - (j * 1404 + 1404)))

  pub put_other : (k : ℕ) → SlotIn store k → (k < j) ⊎ (j < k) → slot_at (put_slot store j slot) k ≡ slot_at store k
  put_other k there way =
      let there' : SlotIn (put_slot store j slot) k = rw put_length there in
      ext_get_or 0 (slot_at (put_slot store j slot) k) (slot_at store k) (slot_length_lem (put_slot store j slot) k there' ∙ sym (slot_length_lem store k there))
      (λ i h. let l : i < 1404 = rw (slot_length_lem (put_slot store j slot) k there') at h in
      slot_byte (put_slot store j slot) k i l ∙ other_byte k i l way ∙ sym (slot_byte store k i l))

-- a byte of a slot set: the same slot, another slot
pub set_same : (store : List ℕ) (j i v : ℕ) → i < 1404 → slot_at (set store (j * 1404 + i) v) j ≡ set (slot_at store j) i v
unfolding slot_at
set_same store j i v h = ap (take 1404) (drop-set-add (j * 1404) store i v) ∙ take-set-lt 1404 (drop (j * 1404) store) i v h

pub set_other : (store : List ℕ) (j i v k : ℕ) → SlotIn store k → i < 1404 → (k < j) ⊎ (j < k) → slot_at (set store (j * 1404 + i) v) k ≡ slot_at store k
set_other store j i v k there b way =
    let there' : SlotIn (set store (j * 1404 + i) v) k = rw length-set there in
    ext_get_or 0 (slot_at (set store (j * 1404 + i) v) k) (slot_at store k) (slot_length_lem (set store (j * 1404 + i) v) k there' ∙ sym (slot_length_lem store k there))
    (λ m h. let l : m < 1404 = rw (slot_length_lem (set store (j * 1404 + i) v) k there') at h in
    slot_byte (set store (j * 1404 + i) v) k m l
    ∙ get_or-set_other store (j * 1404 + i) (k * 1404 + m) v 0 (λ e. ⊎_elim {C = ⊥} (λ w. omega arith) (λ w. omega arith) way) ∙ sym (slot_byte store k m l))
