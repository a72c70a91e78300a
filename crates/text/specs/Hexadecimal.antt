-- Octets in lower-case hexadecimal, two letters each, the high four bits first.
use Rattle.std.specs.Prelude.{ℕ, ◌+◌, ◌-◌, ◌*◌, ◌/◌, ◌%◌, Bool, true, false, cond, List, [], ◌∷◌, ltb, leb}
use Rattle.text.specs.Letters.{digit_zero, small_a, small_f}
use Rattle.text.specs.Decimal.{is_digit}

-- the letter of a number below 16
unfoldable pub hex_letter : ℕ → ℕ
hex_letter d = cond (ltb d 10) (digit_zero + d) (small_a + (d - 10))

unfoldable pub hex_text : List ℕ → List ℕ
hex_text [] = []
hex_text (b ∷ bs) = hex_letter (b / 16) ∷ (hex_letter (b % 16) ∷ hex_text bs)

-- one of the letters 0 to 9 and a to f
unfoldable pub is_hex : ℕ → Bool
is_hex b = cond (leb small_a b) (leb b small_f) (is_digit b)

unfoldable pub all_hex : List ℕ → Bool
all_hex [] = true
all_hex (b ∷ bs) = cond (is_hex b) (all_hex bs) false

-- what a letter of isHex is worth
unfoldable pub hex_value : ℕ → ℕ
hex_value b = cond (leb small_a b) (b - small_a + 10) (b - digit_zero)

-- the octets that pairs of letters name; a last letter alone names none
unfoldable pub octets_of : List ℕ → List ℕ
octets_of [] = []
octets_of (a ∷ []) = []
octets_of (a ∷ (b ∷ bs)) = (hex_value a * 16 + hex_value b) ∷ octets_of bs
