-- Document 01, `channel/mod.rs`: one bit of one byte is turned over.
use Rattle.std.specs.Prelude.{ℕ, ◌^◌, List, bit_xor, slice_index, slice_set}

-- d with bit b of byte i turned over
unfoldable pub flip : List ℕ → ℕ → ℕ → List ℕ
flip d i b = slice_set d i (bit_xor (slice_index d i) (2 ^ b))
