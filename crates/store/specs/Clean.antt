-- Slots of which the bytes past the length are zeros: a run's are so, and no entry point looks at it.
use Rattle.std.specs.Prelude.{ℕ, ◌+◌, ◌-◌, ◌≤◌, ◌<◌, ◌≡◌, List, drop, replicate}
use Rattle.bounds.specs.Bounds.{max_payload, slot_size}
use Rattle.store.specs.Slot.{slot_at, slot_length}

-- the bytes of a slot from the k-th on are zeros
abbrev pub ZerosFrom : ℕ → List ℕ → Type 0
ZerosFrom k slot = drop k slot ≡ replicate (slot_size - k) 0

pub record CleanSlot (slot : List ℕ) : Type 0 where
  pub short : slot_length slot ≤ max_payload
  pub zeros : ZerosFrom (4 + slot_length slot) slot

-- each of w slots
pub record CleanSlots (store : List ℕ) (w : ℕ) : Type 0 where
  pub each : (j : ℕ) → j < w → CleanSlot (slot_at store j)
