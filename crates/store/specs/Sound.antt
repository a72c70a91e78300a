-- Document 01, "Turned away" 9, the lines on slots: length out of bounds; mark above 2; sender slots not filled for
-- exactly base to next - 1; mark 2 elsewhere than in a Selective Repeat sender above base; a receiver's slot for base
-- filled. Filled is mark not 0.
use Rattle.std.specs.Prelude.{ℕ, zero, suc, ◌+◌, ◌%◌, List, Bool, false, cond, not, ◌||◌, ◌&&◌, ltb, eqb}
use Rattle.bounds.specs.Bounds.{max_payload}
use Rattle.store.specs.Slot.{slot_at, slot_length, slot_mark}

-- the test is true of some number below n
unfoldable pub any_below : ℕ → (ℕ → Bool) → Bool
any_below zero test = false
any_below (suc n) test = test n || any_below n test

abbrev pub is_filled : ℕ → Bool
is_filled mark = not (eqb mark 0)

abbrev pub out_of_bounds : ℕ → ℕ → Bool
out_of_bounds length mark = ltb max_payload length || ltb 2 mark

-- a sender's slot, by whether its number is outstanding and may be acknowledged
unfoldable pub sender_slot_broken : Bool → Bool → ℕ → ℕ → Bool
sender_slot_broken outstanding mayBeAcknowledged length mark =
    out_of_bounds length mark || cond outstanding (not (is_filled mark)) (is_filled mark)
    || (eqb mark 2 && not mayBeAcknowledged)

-- a receiver's slot, by whether it is base's
unfoldable pub receiver_slot_broken : Bool → ℕ → ℕ → Bool
receiver_slot_broken isBase length mark = out_of_bounds length mark || (isBase && is_filled mark) || eqb mark 2

-- the slot of the number base + k
abbrev pub slot_of : List ℕ → ℕ → ℕ → ℕ → List ℕ
slot_of store window base k = slot_at store ((base + k) % window)

-- whether that slot is broken, with count numbers from base on outstanding
abbrev pub sender_test : Bool → List ℕ → ℕ → ℕ → ℕ → ℕ → Bool
sender_test selective store window base count k =
    sender_slot_broken (ltb k count) (selective && ltb 0 k) (slot_length (slot_of store window base k))
    (slot_mark (slot_of store window base k))

abbrev pub receiver_test : List ℕ → ℕ → ℕ → ℕ → Bool
receiver_test store window base k =
    receiver_slot_broken (eqb k 0) (slot_length (slot_of store window base k)) (slot_mark (slot_of store window base k))

unfoldable pub sender_slots_broken : Bool → List ℕ → ℕ → ℕ → ℕ → Bool
sender_slots_broken selective store window base count = any_below window (sender_test selective store window base count)

unfoldable pub receiver_slots_broken : List ℕ → ℕ → ℕ → Bool
receiver_slots_broken store window base = any_below window (receiver_test store window base)
