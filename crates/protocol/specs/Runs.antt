-- Rows of marks.
use Rattle.std.specs.Prelude.{ℕ, zero, suc, Bool, true, false, List, [], ◌∷◌}

-- the lowest number that is not marked: how many marks stand before the first that is not set
abbrev pub lead : List Bool → ℕ
lead [] = 0
lead (true ∷ marks) = suc (lead marks)
lead (false ∷ marks) = 0

-- k numbers from n on
abbrev pub up_from : ℕ → ℕ → List ℕ
up_from n zero = []
up_from n (suc k) = n ∷ up_from (suc n) k
