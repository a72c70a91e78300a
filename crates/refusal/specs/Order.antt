-- Document 01, "Checks go 9, 8, 10, 11, 4, 1, 2, 3, 6, 7, 5": of the lines that are true of a call, the first in this
-- order is answered.
use Rattle.std.specs.Prelude.{ℕ, Bool, cond, List, [], ◌∷◌, eqb, Err, Ok, Result}
use Rattle.refusal.specs.Refusal.{entry_of}
use Rattle.refusal.specs.declared.Refusal.{Refusal}
use Rattle.refusal.specs.declared.Refusal.TheVariants.{State, Counts}

unfoldable pub order : List ℕ
order = 9 ∷ 8 ∷ 10 ∷ 11 ∷ 4 ∷ 1 ∷ 2 ∷ 3 ∷ 6 ∷ 7 ∷ 5 ∷ []

-- whether a line is true of a call, and the refusal that it then gives
pub record Check : Type 0 where
  pub fires : Bool
  pub refusal : Refusal

abbrev pub check : Bool → Refusal → Check
check b r = record { fires = b; refusal = r }

-- no check fires; of a call that gives nothing back, that it is done
abbrev pub passed : Result Unit Refusal
passed = Ok tt

unfoldable pub or_else : Result Unit Refusal → Result Unit Refusal → Result Unit Refusal
or_else (Ok tt) v = v
or_else (Err r) v = Err r

-- the checks of one number
unfoldable pub numbered : ℕ → List Check → Result Unit Refusal
numbered n [] = passed
numbered n (c ∷ cs) = or_else (cond (eqb (entry_of c.refusal).number n)
    (cond c.fires (Err c.refusal) passed) passed) (numbered n cs)

unfoldable pub first_of : List ℕ → List Check → Result Unit Refusal
first_of [] cs = passed
first_of (n ∷ ns) cs = or_else (numbered n cs) (first_of ns cs)

-- the verdict on a call, however its checks are listed
unfoldable pub verdict : List Check → Result Unit Refusal
verdict cs = first_of order cs

-- what a call gives: after a refusal the one, else the other
unfoldable pub decide : {A : Type 0} → Result Unit Refusal → (Refusal → A) → A → A
decide (Ok tt) f a = a
decide (Err r) f a = f r

-- 9 and 8, of what a call holds
abbrev pub held_checks : Bool → Bool → List Check
held_checks state_broken counts_broken = check state_broken State ∷ check counts_broken Counts ∷ []
