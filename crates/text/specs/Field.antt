-- A number and the letter after it, as a column of a line of text.
use Rattle.std.specs.Prelude.{ℕ, ◌+◌, cond, List, [], ◌∷◌, ◌++◌, length, get_or, ltb, eqb, None, Option, Some}
use Rattle.text.specs.Decimal.{digits}
use Rattle.text.specs.Reading.{read_decimal}

unfoldable pub field : ℕ → ℕ → List ℕ
field n letter = digits n ++ (letter ∷ [])

-- a number that was read, if the letter stands after it, with the place after that
unfoldable pub followed : List ℕ → ℕ → Option (ℕ × ℕ) → Option (ℕ × ℕ)
followed s letter (Some (n, next)) =
    cond (ltb next (length s)) (cond (eqb (get_or s next 0) letter) (Some (n, next + 1)) None) None
followed s letter None = None

unfoldable pub read_field : List ℕ → ℕ → ℕ → ℕ → Option (ℕ × ℕ)
read_field s at max letter = followed s letter (read_decimal s at max)
