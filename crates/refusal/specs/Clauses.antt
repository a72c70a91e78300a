-- A line of the table with several clauses is true when one of them is.
use Rattle.std.specs.Prelude.{List, [], ◌∷◌, Bool, false, ◌||◌}

unfoldable pub any_of : List Bool → Bool
any_of [] = false
any_of (b ∷ bs) = b || any_of bs
