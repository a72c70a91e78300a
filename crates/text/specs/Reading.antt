-- What reading a number finds at a place.
use Rattle.std.specs.Prelude.{ℕ, ◌+◌, cond, List, [], ◌∷◌, length, drop, leb, None, Option, Some}
use Rattle.text.specs.Decimal.{is_digit, is_plain, value}

-- the digits before the first letter that isn't one
unfoldable pub digit_run : List ℕ → List ℕ
digit_run [] = []
digit_run (b ∷ bs) = cond (is_digit b) (b ∷ digit_run bs) []

-- a run of digits that starts at a place, as a number up to max, and the place after it
unfoldable pub capped_reading : ℕ → List ℕ → ℕ → Option (ℕ × ℕ)
capped_reading max run at = cond (leb (value run) max) (Some (value run, at + length run)) None

unfoldable pub plain_reading : ℕ → List ℕ → ℕ → Option (ℕ × ℕ)
plain_reading max run at = cond (is_plain run) (capped_reading max run at) None

-- the plain decimal number up to max that stands at a place, all the digits there taken
unfoldable pub read_decimal : List ℕ → ℕ → ℕ → Option (ℕ × ℕ)
read_decimal s at max = plain_reading max (digit_run (drop at s)) at
