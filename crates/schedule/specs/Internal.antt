-- What the functions below the entry points compute on the way: scans over waiting records, and blocks of their places.
use Rattle.std.specs.Prelude.{ℕ, zero, suc, ◌+◌, Bool, false, cond, ◌&&◌, ◌||◌, List, [], ◌∷◌, ◌++◌, take, drop, ltb}
use Rattle.std.specs.Prelude.{leb, None, Option, Some}
use Rattle.bounds.specs.Bounds.{max_datagram}
use Rattle.schedule.specs.Record.{order_of, record_length, place_of, place_in}
use Rattle.schedule.specs.State.{record_broken}
use Rattle.schedule.specs.declared.Block.{Block}

-- how many stand before the first that leaves after x
unfoldable pub index_for : {A : Type 0} → (A → A → Bool) → A → List A → ℕ
index_for aft x [] = 0
index_for aft x (y ∷ ys) = cond (aft y x) 0 (suc (index_for aft x ys))

-- those from i up to n one place higher; the i-th stands twice, the n-th is gone
abbrev pub raised : {A : Type 0} → ℕ → ℕ → List A → List A
raised n i l = take (i + 1) l ++ (drop i (take n l) ++ drop (n + 1) l)

-- check 9 of a record by itself
abbrev pub bounds_broken : ℕ → ℕ → List ℕ → Bool
bounds_broken next n r = ltb max_datagram (record_length r) || (leb next (order_of r) || leb n (place_of r))

-- one of these records is broken, doubled places apart
unfoldable pub any_record_broken : ℕ → ℕ → List ℕ → List (List ℕ) → Bool
any_record_broken next n front [] = false
any_record_broken next n front (r ∷ rs) = record_broken next n front r || any_record_broken next n r rs

-- a place is doubled
unfoldable pub doubled : List (List ℕ) → Bool
doubled [] = false
doubled (r ∷ rs) = place_in (place_of r) rs || doubled rs

-- a place is not below n
unfoldable pub outside : ℕ → List (List ℕ) → Bool
outside n [] = false
outside n (r ∷ rs) = leb n (place_of r) || outside n rs

-- places are looked through in blocks
abbrev pub block_size : ℕ
block_size = 256

-- one of the places of the block from p on is doubled
unfoldable pub doubled_in : ℕ → List (List ℕ) → Bool
doubled_in p [] = false
doubled_in p (r ∷ rs) =
    ((leb p (place_of r) && ltb (place_of r) (p + block_size)) && place_in (place_of r) rs) || doubled_in p rs

-- which of the n places from p on a record has
unfoldable pub place_marks : ℕ → ℕ → List (List ℕ) → List Bool
place_marks zero p rs = []
place_marks (suc n) p rs = place_in p rs ∷ place_marks n (suc p) rs

-- the block from p on
abbrev pub block_at : ℕ → List (List ℕ) → Block
block_at p rs =
    record { used = place_marks block_size p rs; doubled = doubled_in p rs; beyond = outside (p + block_size) rs }

-- how many marks stand before the first that isn't set
unfoldable pub first_unset : List Bool → ℕ
first_unset [] = 0
first_unset (m ∷ ms) = cond m (suc (first_unset ms)) 0

-- up to so many records the places are summed
abbrev pub sum_limit : ℕ
sum_limit = 65535

-- the sum of the places
unfoldable pub place_sum : List (List ℕ) → ℕ
place_sum [] = 0
place_sum (r ∷ rs) = place_of r + place_sum rs

-- n more than that sum, if no place lies past `last`
unfoldable pub sum_from : ℕ → ℕ → List (List ℕ) → Option ℕ
sum_from last n rs = cond (outside (suc last) rs) None (Some (n + place_sum rs))
