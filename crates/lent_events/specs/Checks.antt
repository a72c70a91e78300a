-- Rows that a caller lends as events (docs/REFERENCE.md, sections 2 and 4): a row that is no event is a 9, as is a
-- count above the slice; a delay above its bound is a 10. Rows past the count, and what a row has past its copies,
-- aren't looked at.
use Rattle.std.specs.Prelude.{ℕ, Bool, List, [], ◌∷◌, map, ltb, length, take, get_or}
use Rattle.bounds.specs.Bounds.{max_delivery_delay}
use Rattle.refusal.specs.Clauses.{any_of}
use Rattle.refusal.specs.Order.{Check, check}
use Rattle.refusal.specs.declared.Refusal.TheVariants.{State, Time}
use Rattle.events.specs.Events.{of_copies}

-- the largest number of 32 bits
abbrev pub max_seq_num : ℕ
max_seq_num = 4294967295

abbrev pub max_copies : ℕ
max_copies = 2

-- a fold is a sum modulo 65,536
abbrev pub max_fold : ℕ
max_fold = 65535

unfoldable pub any_above : ℕ → List ℕ → Bool
any_above max ns = any_of (map (ltb max) ns)

-- a number above 32 bits, a mark that is neither 0 nor 1, more than two copies, a copy's fold above 16 bits
unfoldable pub is_no_event : List ℕ → Bool
is_no_event row =
    any_of
    (ltb max_seq_num (get_or row 0 0)
    ∷ ltb 1 (get_or row 1 0)
    ∷ ltb max_copies (get_or row 2 0)
    ∷ any_above max_fold (of_copies (get_or row 2 0) (get_or row 5 0) (get_or row 6 0))
    ∷ [])

-- a copy's delay above that of a delivery
unfoldable pub is_late : List ℕ → Bool
is_late row = any_above max_delivery_delay (of_copies (get_or row 2 0) (get_or row 3 0) (get_or row 4 0))

-- 9 and 10 of rows, which are all that were asked for or too few
abbrev pub row_checks : Bool → List (List ℕ) → List Check
row_checks few rows = check (any_of (few ∷ map is_no_event rows)) State ∷ check (any_of (map is_late rows)) Time ∷ []

unfoldable pub event_checks : ℕ → List (List ℕ) → List Check
event_checks count rows = row_checks (ltb (length rows) count) (take count rows)
