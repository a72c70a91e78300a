-- The mark that an ACK was scheduled, set in the first rows.
use Prim.Native.Nat.{ℕ, zero, suc, ◌+◌, ◌≤◌, ◌<◌}
use mathlib.Core.Path.{◌≡◌, refl, sym, ap, ◌∙◌}
use mathlib.Core.List.{List, [], ◌∷◌}
use native.Mathlib.Nat.{le_of_suc-le-suc, max-eq_left, max-eq_right}
use native.Mathlib.Numerals.{add-one}
use native.Mathlib.Omega.{arith}
use lib.ListN.{length, get_or, set}
use Rattle.notes.specs.Notes.{SegMetas, seg_metas, notes, marked_row, marked_below, marked_to, AllMarked, ScheduledBelow}

pub marked_length : (k : ℕ) (rows : List (List ℕ)) → length (marked_below k rows) ≡ length rows
unfolding marked_below
marked_length zero rows = refl
marked_length (suc k) [] = refl
marked_length (suc k) (row ∷ rows) = ap suc (marked_length k rows)

-- one more row
mark_suc : (i : ℕ) (rows : List (List ℕ)) → i < length rows → set (marked_below i rows) i (marked_row (get_or (marked_below i rows) i [])) ≡ marked_below (suc i) rows
unfolding marked_below
mark_suc i [] h = absurd (omega arith)
mark_suc zero (row ∷ rows) h = refl
mark_suc (suc i) (row ∷ rows) h = ap (λ (xs : List (List ℕ)). marked_row row ∷ xs) (mark_suc i rows (le_of_suc-le-suc h))

pub mark_next : (i : ℕ) (rows : List (List ℕ)) → i < length rows → set (marked_below i rows) i (marked_row (get_or (marked_below i rows) i [])) ≡ marked_below (i + 1) rows
mark_next i rows h = mark_suc i rows h ∙ ap (λ (n : ℕ). marked_below n rows) (sym (add-one i))

stay : (k : ℕ) (rows : List (List ℕ)) → ((i : ℕ) → i < k → marked_row (get_or rows i []) ≡ get_or rows i []) → marked_below k rows ≡ rows
unfolding marked_below
stay zero rows a = refl
stay (suc k) [] a = refl
stay (suc k) (row ∷ rows) a =
    ap (λ (x : List ℕ). x ∷ marked_below k rows) (a 0 (omega arith))
    ∙ ap (λ (xs : List (List ℕ)). row ∷ xs) (stay k rows (λ i h. a (suc i) (omega arith)))

-- rows that have it stay as they are
pub mark_same : (n k : ℕ) (rows : List (List ℕ)) → AllMarked n rows → k ≤ n → marked_below k rows ≡ rows
mark_same n k rows a l = stay k rows (λ i h. a.at i (omega arith))

-- what stands in a row afterwards
pub marked_at : (k i : ℕ) (rows : List (List ℕ)) → i < k → i < length rows → get_or (marked_below k rows) i [] ≡ marked_row (get_or rows i [])
unfolding marked_below
marked_at zero i rows h l = absurd (omega arith)
marked_at (suc k) i [] h l = absurd (omega arith)
marked_at (suc k) zero (row ∷ rows) h l = refl
marked_at (suc k) (suc i) (row ∷ rows) h l = marked_at k i rows (le_of_suc-le-suc h) (le_of_suc-le-suc l)

pub marked_above : (k i : ℕ) (rows : List (List ℕ)) → k ≤ i → get_or (marked_below k rows) i [] ≡ get_or rows i []
unfolding marked_below
marked_above zero i rows h = refl
marked_above (suc k) i [] h = refl
marked_above (suc k) zero (row ∷ rows) h = absurd (omega arith)
marked_above (suc k) (suc i) (row ∷ rows) h = marked_above k i rows (le_of_suc-le-suc h)

-- ---- the two returns of `mark_to`
pub mark_none : (m : SegMetas) (end : ℕ) → ScheduledBelow m → end ≤ m.notes.scheduled → m ≡ marked_to m end
mark_none m end s h = rw (max-eq_left h, mark_same m.notes.scheduled end m.rows s.marked h)

pub mark_more : (m : SegMetas) (end : ℕ) {rows : List (List ℕ)} → m.notes.scheduled < end → rows ≡ marked_below end m.rows
    → seg_metas (notes m.notes.count end) rows ≡ marked_to m end
mark_more m end h e = let l : m.notes.scheduled ≤ end = omega arith in rw (max-eq_right l, e)
