-- Document 01, "Turned away": the number, the word and the named values of each refusal.
use Rattle.std.specs.Prelude.{ℕ, List, [], ◌∷◌}
use Prim.Native.Char.{code}
use Prim.Native.String as text
use Rattle.refusal.specs.declared.Refusal.{Refusal}
use Rattle.refusal.specs.declared.Refusal.TheVariants.{Short, Kind, Cut, Setup, Full, Long, Numbers, Counts}
use Rattle.refusal.specs.declared.Refusal.TheVariants.{State, Time, Roll}
use Rattle.refusal.specs.declared.Values.{Values}

-- the codes of a text's characters
abbrev pub ascii : text.String → List ℕ
ascii text.[] = []
ascii (text.◌∷◌ c s) = code c ∷ ascii s

pub record Value : Type 0 where
  pub name : List ℕ
  pub value : ℕ

abbrev pub value : text.String → ℕ → Value
value name n = record { name = ascii name; value = n }

-- a line of the table
pub record Entry : Type 0 where
  pub number : ℕ
  pub word : List ℕ
  pub values : List Value

abbrev pub entry : ℕ → text.String → List Value → Entry
entry n word values = record { number = n; word = ascii word; values = values }

abbrev pub entry_of : Refusal → Entry
entry_of (Short n) = entry 1 "short" (value "length" n ∷ [])
entry_of (Kind b) = entry 2 "kind" (value "byte" b ∷ [])
entry_of (Cut n m) = entry 3 "cut" (value "declared" n ∷ value "present" m ∷ [])
entry_of Setup = entry 4 "setup" []
entry_of Full = entry 5 "full" []
entry_of Long = entry 6 "long" []
entry_of Numbers = entry 7 "numbers" []
entry_of Counts = entry 8 "counts" []
entry_of State = entry 9 "state" []
entry_of Time = entry 10 "time" []
entry_of Roll = entry 11 "roll" []

-- at most two values, 0 past their count
abbrev pub values_of : List Value → Values
values_of [] = record { count = 0; first = 0; second = 0 }
values_of (a ∷ []) = record { count = 1; first = a.value; second = 0 }
values_of (a ∷ b ∷ rest) = record { count = 2; first = a.value; second = b.value }
