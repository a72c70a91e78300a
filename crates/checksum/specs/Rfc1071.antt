-- RFC 1071, section 1: adjacent octets are paired to form 16-bit integers, the 1's complement sum of these integers is
-- formed, and the 1's complement of this sum is the checksum.
use Rattle.std.specs.Prelude.{ℕ, ◌+◌, ◌-◌, ◌*◌, ◌/◌, ◌%◌, List, [], ◌∷◌}

-- the integers [A,B], [C,D], ..; of an odd row the last is [Z,0]
unfoldable pub words : List ℕ → List ℕ
words [] = []
words (a ∷ []) = (a * 256) ∷ []
words (a ∷ b ∷ rest) = (a * 256 + b) ∷ words rest

-- the 1's complement sum of two 16-bit integers, by end-around carry: an overflow is added into the least significant
-- bits
unfoldable pub ones_add : ℕ → ℕ → ℕ
ones_add a b = (a + b) % 65536 + (a + b) / 65536

unfoldable pub ones_sum : List ℕ → ℕ
ones_sum [] = 0
ones_sum (w ∷ ws) = ones_add w (ones_sum ws)

-- the 1's complement of a 16-bit integer
abbrev pub complement : ℕ → ℕ
complement w = 65535 - w

unfoldable pub checksum : List ℕ → ℕ
checksum octets = complement (ones_sum (words octets))
