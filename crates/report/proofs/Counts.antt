-- Totals counted row by row, for the loops.
use Prim.Native.Nat.{ℕ, suc, ◌+◌, ◌≤◌, ◌<◌, min}
use mathlib.Core.Path.{◌≡◌, refl, sym, ap, ◌∙◌}
use mathlib.Core.Bool.{Bool, true, false, cond}
use lib.Dec.{eqb}
use Rattle.std.specs.List.{count_by}
use Rattle.std.proofs.lemmas.List.Sums.{sum_by-cons}
use mathlib.Core.List.{List, [], ◌∷◌, map}
use native.Mathlib.Numerals.{add-one}
use lib.ListN.{length, drop, get_or, drop_of_length-le, length-take}
use lib.Seq.{drop-cons}
use Rattle.rows.specs.Rows.{as_number}
use Rattle.events.specs.Events.{event_of}
use Rattle.report.specs.Page.{copy_count, repeat_count}

-- of the rows from one on
abbrev pub copies_from : List (List ℕ) → ℕ → ℕ
copies_from rows i = copy_count (map event_of (drop i rows))

module _ (rows : List (List ℕ)) (i : ℕ) where
  pub copies_end : length rows ≤ i → copies_from rows i ≡ 0
  unfolding copy_count
  copies_end h = rw (drop_of_length-le rows h)

  pub copies_step : i < length rows → copies_from rows i ≡ min (get_or (get_or rows i []) 2 0) 2 + copies_from rows (i + 1)
  unfolding copy_count event_of
  copies_step h = rw (drop-cons rows i [] h, add-one) (ap (λ (k : ℕ). k + copy_count (map event_of (drop (suc i) rows)))
      (length-take (get_or (get_or rows i []) 2 0) (get_or (get_or rows i []) 3 0 ∷ (get_or (get_or rows i []) 4 0 ∷ []))))

as_cond : (b : Bool) → as_number b ≡ cond b 1 0
as_cond true = refl
as_cond false = refl

pub repeats_counted : (rows : List (List ℕ)) → repeat_count (map event_of rows) ≡ count_by (λ (row : List ℕ). eqb (get_or row 1 0) 1) rows
unfolding repeat_count event_of
repeats_counted [] = refl
repeats_counted (row ∷ rows) =
    rw (repeats_counted rows)
    (ap (λ (k : ℕ). k + count_by (λ (row : List ℕ). eqb (get_or row 1 0) 1) rows) (as_cond (eqb (get_or row 1 0) 1))
    ∙ sym (sum_by-cons (λ (row : List ℕ). cond (eqb (get_or row 1 0) 1) 1 0) row rows))
