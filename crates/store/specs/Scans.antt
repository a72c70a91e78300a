-- Helpers of the scans for line 9: slots that follow one another in the store. No contract of an entry point rests on
-- them.
use Rattle.std.specs.Prelude.{ℕ, ◌+◌, List, Bool, ◌||◌, ltb}
use Rattle.bounds.specs.Bounds.{max_payload}
use Rattle.store.specs.Slot.{slot_at, slot_length, slot_mark}
use Rattle.store.specs.Sound.{any_below, sender_slot_broken}

-- a slot's length is out of bounds, or its mark isn't from low to high
unfoldable pub slot_outside : ℕ → ℕ → List ℕ → Bool
slot_outside low high slot = ltb max_payload (slot_length slot) || ltb (slot_mark slot) low || ltb high (slot_mark slot)

-- so of one of n slots
unfoldable pub slots_outside : ℕ → ℕ → List ℕ → ℕ → ℕ → Bool
slots_outside low high store from n = any_below n (λ i. slot_outside low high (slot_at store (from + i)))

-- one of n slots, the first count of them outstanding, is broken; whether an outstanding one may be acknowledged is the
-- same for all
unfoldable pub part_broken : Bool → List ℕ → ℕ → ℕ → ℕ → Bool
part_broken may store from n count =
    any_below n (λ i. sender_slot_broken (ltb i count) may (slot_length (slot_at store (from + i)))
    (slot_mark (slot_at store (from + i))))
