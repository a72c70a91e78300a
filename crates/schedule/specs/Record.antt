-- Document 01, "What the Rust forms turn into" (BinaryHeap) and `channel/scheduler.rs`: schedule records and their
-- leaving order.
use Rattle.std.specs.Prelude.{ℕ, zero, suc, Bool, true, false, cond, not, ◌&&◌, ◌||◌, List, [], ◌∷◌, get_or, ltb, eqb}

-- a record lies as four numbers: time, order, length, place
abbrev pub record4 : ℕ → ℕ → ℕ → ℕ → List ℕ
record4 time order len place = time ∷ order ∷ len ∷ place ∷ []

abbrev pub time_of : List ℕ → ℕ
time_of r = get_or r 0 0

abbrev pub order_of : List ℕ → ℕ
order_of r = get_or r 1 0

abbrev pub record_length : List ℕ → ℕ
record_length r = get_or r 2 0

abbrev pub place_of : List ℕ → ℕ
place_of r = get_or r 3 0

-- a vacated record
abbrev pub vacant : List ℕ
vacant = record4 0 0 0 0

-- what leaves at (t, o) leaves after what leaves at (u, p): earliest time first, then insertion order
abbrev pub later : ℕ → ℕ → ℕ → ℕ → Bool
later t o u p = cond (ltb t u) false (cond (ltb u t) true (ltb p o))

abbrev pub after : List ℕ → List ℕ → Bool
after a b = later (time_of a) (order_of a) (time_of b) (order_of b)

-- x goes before the first that leaves after it
unfoldable pub inserted : {A : Type 0} → (A → A → Bool) → A → List A → List A
inserted aft x [] = x ∷ []
inserted aft x (y ∷ ys) = cond (aft y x) (x ∷ y ∷ ys) (y ∷ inserted aft x ys)

-- the records are in leaving order
unfoldable pub ordered_from : {A : Type 0} → (A → A → Bool) → A → List A → Bool
ordered_from aft front [] = true
ordered_from aft front (x ∷ xs) = not (aft front x) && ordered_from aft x xs

abbrev pub ordered : List (List ℕ) → Bool
ordered rs = ordered_from after vacant rs

-- whether a record has the place p
unfoldable pub place_in : ℕ → List (List ℕ) → Bool
place_in p [] = false
place_in p (r ∷ rs) = eqb p (place_of r) || place_in p rs

-- of the k places from p on those that no record has, ascending
unfoldable pub free_from : ℕ → ℕ → List (List ℕ) → List ℕ
free_from zero p rs = []
free_from (suc k) p rs = cond (place_in p rs) (free_from k (suc p) rs) (p ∷ free_from k (suc p) rs)

abbrev pub free_places : ℕ → List (List ℕ) → List ℕ
free_places n rs = free_from n 0 rs

-- the lowest place that no record has
abbrev pub lowest_free : ℕ → List (List ℕ) → ℕ
lowest_free n rs = get_or (free_places n rs) 0 0
