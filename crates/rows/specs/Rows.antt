-- Document 01, `app/transfer.rs`: notes and forward events lie in lent rows of seven numbers.
use Rattle.std.specs.Prelude.{ℕ, Bool, true, false, List, eqb, replicate}

-- a row that holds nothing
abbrev pub vacant : List ℕ
vacant = replicate 7 0

-- a bool lies as 1 or 0
abbrev pub as_number : Bool → ℕ
as_number true = 1
as_number false = 0

abbrev pub is_set : ℕ → Bool
is_set n = eqb n 1
