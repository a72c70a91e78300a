-- Document 01, "What the Rust forms turn into": slots of 1,404 bytes: length (2 bytes, big-endian), mark (0 empty, 1
-- held, 2 acknowledged), flags, 1,400 payload bytes. Filling writes the whole slot, bytes past the length 0; emptying
-- clears it to 0.
use Rattle.std.specs.Prelude.{ℕ, ◌+◌, ◌-◌, ◌*◌, ◌/◌, ◌%◌, ◌≤◌, List, [], ◌∷◌, ◌++◌, length, get_or, take, drop, set}
use Rattle.std.specs.Prelude.{replicate}
use Rattle.bounds.specs.Bounds.{max_payload, slot_size}

-- slot j lies in the store
abbrev pub SlotIn : List ℕ → ℕ → Type 0
SlotIn store j = j * slot_size + slot_size ≤ length store

unfoldable pub slot_at : List ℕ → ℕ → List ℕ
slot_at store j = take slot_size (drop (j * slot_size) store)

-- the fields of a slot
abbrev pub slot_length : List ℕ → ℕ
slot_length slot = get_or slot 0 0 * 256 + get_or slot 1 0

abbrev pub slot_mark : List ℕ → ℕ
slot_mark slot = get_or slot 2 0

abbrev pub slot_flags : List ℕ → ℕ
slot_flags slot = get_or slot 3 0

unfoldable pub slot_payload : List ℕ → List ℕ
slot_payload slot = take (slot_length slot) (drop 4 slot)

abbrev pub head_bytes : ℕ → ℕ → ℕ → List ℕ
head_bytes n mark flags = (n / 256) ∷ (n % 256) ∷ mark ∷ flags ∷ []

unfoldable pub slot_bytes : List ℕ → ℕ → ℕ → List ℕ
slot_bytes payload mark flags =
    head_bytes (length payload) mark flags ++ payload ++ replicate (max_payload - length payload) 0

-- the store with slot j written over
unfoldable pub put_slot : List ℕ → ℕ → List ℕ → List ℕ
put_slot store j slot = take (j * slot_size) store ++ slot ++ drop (j * slot_size + slot_size) store

abbrev pub fill_slot : List ℕ → ℕ → List ℕ → ℕ → ℕ → List ℕ
fill_slot store j payload mark flags = put_slot store j (slot_bytes payload mark flags)

abbrev pub empty_slot : List ℕ → ℕ → List ℕ
empty_slot store j = put_slot store j (replicate slot_size 0)

abbrev pub set_mark : List ℕ → ℕ → ℕ → List ℕ
set_mark store j mark = set store (j * slot_size + 2) mark

abbrev pub set_flags : List ℕ → ℕ → ℕ → List ℕ
set_flags store j flags = set store (j * slot_size + 3) flags
