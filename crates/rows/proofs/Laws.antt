-- What crates above may cite of rows.
use Prim.Native.Nat.{ℕ, zero, suc}
use mathlib.Core.Path.{◌≡◌, refl, ap}
use mathlib.Core.Logic.{◌⊎◌, inl, inr, ⊎_elim}
use mathlib.Core.Bool.{Bool, true, false}
use mathlib.Core.List.{List, [], ◌∷◌}
use lib.ListN.{get_or, set}
use Rattle.rows.specs.Rows.{as_number, is_set}

-- a bool comes back as it was
pub flag_back : (b : Bool) → is_set (as_number b) ≡ b
flag_back true = refl
flag_back false = refl

-- after a store a row is the one stored, or the one from before
pub set_cases : (rows : List (List ℕ)) (at i : ℕ) (row : List ℕ) → (get_or (set rows at row) i [] ≡ get_or rows i []) ⊎ ((i ≡ at) × (get_or (set rows at row) i [] ≡ row))
set_cases [] at i row = inl refl
set_cases (x ∷ xs) zero zero row = inr (refl, refl)
set_cases (x ∷ xs) zero (suc i) row = inl refl
set_cases (x ∷ xs) (suc at) zero row = inl refl
set_cases (x ∷ xs) (suc at) (suc i) row = ⊎_elim inl (λ p. inr (ap suc p.0, p.1)) (set_cases xs at i row)
