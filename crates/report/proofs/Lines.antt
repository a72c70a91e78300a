-- Steps of the page's definitions, for the functions' proofs.
use Prim.Native.Nat.{ℕ, zero, suc, ◌+◌, ◌≤◌, ◌<◌}
use mathlib.Core.Path.{◌≡◌, refl, ap, subst, ◌∙◌}
use mathlib.Core.Bool.{Bool, true, cond}
use mathlib.Core.List.{List, [], ◌∷◌, ◌++◌, map}
use native.Mathlib.Omega.{arith}
use lib.ListN.{length, take, drop, get_or, length-map}
use lib.Dec.{ltb}
use borrow.Author.Tests.{eq-eqb, ne_eqb, lt-ltb, le-ltb}
use Rattle.refusal.specs.Refusal.{ascii}
use Rattle.rows.specs.Rows.{is_set}
use Rattle.events.specs.Events.{ForwardEvent, of_copies, event_of}
use Rattle.text.specs.Letters.{line_feed}
use Rattle.text.specs.Decimal.{digits, right_in, left_in}
use Rattle.text.specs.Place.{written_at}
use Rattle.text.proofs.Laws as texts
use Rattle.text.proofs.Laws.{Rest, rest_first}
use Rattle.report.specs.Page.{aligned, line, seq_width, sent_width, copy_width, total_width, head_line, sent_word, of_copy, event_line, event_lines}
use Rattle.report.specs.Page.{copy_count, repeat_count, last_line, page}

-- the lines of the rows from one on
abbrev pub lines_from : List (List ℕ) → ℕ → List ℕ
lines_from rows i = event_lines (map event_of (drop i rows))

abbrev pub row_line : List ℕ → List ℕ
row_line row = event_line (event_of row)

abbrev pub row_lines : List (List ℕ) → List ℕ
row_lines rows = event_lines (map event_of rows)

no_lines : row_lines [] ≡ []
unfolding event_lines
no_lines = refl

one_more : (row : List ℕ) (rows : List (List ℕ)) → row_lines (row ∷ rows) ≡ row_line row ++ row_lines rows
unfolding event_lines
one_more row rows = refl

-- the loop that writes the lines
module _ (rows : List (List ℕ)) (i : ℕ) {buffer : List ℕ} {at : ℕ} {whole out : List ℕ} {next : ℕ} (r : Rest buffer at whole out next (lines_from rows i)) where
  pub line_room : i < length rows → next + length (row_line (get_or rows i [])) ≤ length out
  line_room = texts.line_room row_line row_lines no_lines one_more rows i r

  pub line_next : {out' : List ℕ} {next' : ℕ} → i < length rows → next' ≡ next + length (row_line (get_or rows i []))
      → out' ≡ written_at out next (row_line (get_or rows i [])) → Rest buffer at whole out' next' (lines_from rows (i + 1))
  line_next = texts.line_next row_line row_lines no_lines one_more rows i r

  pub line_end : length rows ≤ i → (next ≡ at + length whole) × (out ≡ written_at buffer at whole)
  line_end = texts.line_end row_line row_lines no_lines one_more rows i r

-- a column of a copy, by how many there are
abbrev pub copy_column : ℕ → ℕ → ℕ → List ℕ
copy_column copies index n = right_in copy_width (cond (ltb index copies) (digits n) [])

both_true : (p q : Bool) (text : List ℕ) → p ≡ true → q ≡ true → cond p text [] ≡ cond q text []
both_true p q text e f = rw (e, f)

of_first : (copies a b : ℕ) → of_copy 0 (of_copies copies a b) ≡ cond (ltb 0 copies) (digits a) []
unfolding of_copy
of_first zero a b = refl
of_first (suc k) a b =
    both_true (ltb 0 (length (take (suc k) (a ∷ (b ∷ []))))) (ltb 0 (suc k)) (digits a) (lt-ltb 0 (length (take (suc k) (a ∷ (b ∷ [])))) (omega arith)) (lt-ltb 0 (suc k) (omega arith))

of_second : (copies a b : ℕ) → of_copy 1 (of_copies copies a b) ≡ cond (ltb 1 copies) (digits b) []
unfolding of_copy
of_second zero a b = refl
of_second (suc zero) a b = refl
of_second (suc (suc k)) a b =
    both_true (ltb 1 (length (take (suc (suc k)) (a ∷ (b ∷ []))))) (ltb 1 (suc (suc k))) (digits b) (lt-ltb 1 (length (take (suc (suc k)) (a ∷ (b ∷ [])))) (omega arith)) (lt-ltb 1 (suc (suc k)) (omega arith))

-- a row's line by its columns, and what is left of it from each column on
module _ (row : List ℕ) where
  abbrev pub seq_column : List ℕ
  seq_column = right_in seq_width (digits (get_or row 0 0))

  abbrev pub sent_column : List ℕ
  sent_column = left_in sent_width (sent_word (is_set (get_or row 1 0)))

  abbrev pub delay1_column : List ℕ
  delay1_column = copy_column (get_or row 2 0) 0 (get_or row 3 0)

  abbrev pub delay2_column : List ℕ
  delay2_column = copy_column (get_or row 2 0) 1 (get_or row 4 0)

  abbrev pub fold1_column : List ℕ
  fold1_column = copy_column (get_or row 2 0) 0 (get_or row 5 0)

  abbrev pub fold2_column : List ℕ
  fold2_column = copy_column (get_or row 2 0) 1 (get_or row 6 0)

  -- two blanks and the line feed
  abbrev pub from_margin : List ℕ
  from_margin = ascii "  \n"

  abbrev pub from_fold2 : List ℕ
  from_fold2 = fold2_column ++ from_margin

  abbrev pub from_fold1 : List ℕ
  from_fold1 = fold1_column ++ from_fold2

  abbrev pub from_delay2 : List ℕ
  from_delay2 = delay2_column ++ from_fold1

  abbrev pub from_delay1 : List ℕ
  from_delay1 = delay1_column ++ from_delay2

  abbrev pub from_sent : List ℕ
  from_sent = sent_column ++ from_delay1

  line_columns : event_line (event_of row) ≡ seq_column ++ from_sent
  unfolding event_line event_of line aligned left_in
  line_columns =
      rw (of_first (get_or row 2 0) (get_or row 3 0) (get_or row 4 0), of_second (get_or row 2 0) (get_or row 3 0) (get_or row 4 0), of_first (get_or row 2 0) (get_or row 5 0) (get_or row 6 0), of_second (get_or row 2 0) (get_or row 5 0) (get_or row 6 0))

  pub line_first : (buffer : List ℕ) (at : ℕ) → at + length (event_line (event_of row)) ≤ length buffer
      → Rest buffer at (event_line (event_of row)) buffer at (seq_column ++ from_sent)
  line_first buffer at h = subst (Rest buffer at (event_line (event_of row)) buffer at) line_columns (rest_first h)

-- the columns that are words
pub again_word : (n : ℕ) → n ≡ 1 → ascii "again   " ≡ left_in sent_width (sent_word (is_set n))
unfolding left_in sent_word
again_word n e = rw (eq-eqb n 1 e)

pub first_word : (n : ℕ) → (n ≡ 1 → ⊥) → ascii "first   " ≡ left_in sent_width (sent_word (is_set n))
unfolding left_in sent_word
first_word n e = rw (ne_eqb n 1 e)

-- the columns that are numbers of a copy
pub blank_copy : (copies index n : ℕ) → copies ≤ index → ascii "             " ≡ copy_column copies index n
unfolding right_in
blank_copy copies index n h = rw (le-ltb index copies h)

pub number_copy : (copies index n : ℕ) → index < copies → right_in copy_width (digits n) ≡ copy_column copies index n
number_copy copies index n h = rw (lt-ltb index copies h)

-- the totals' line and the page by their parts
abbrev pub total_column : ℕ → List ℕ
total_column n = right_in total_width (digits n)

last_columns : (rows : List (List ℕ)) {copies repeats : ℕ} → copies ≡ copy_count (map event_of rows) → repeats ≡ repeat_count (map event_of rows)
    → last_line (map event_of rows) ≡ total_column (length rows) ++ (total_column copies ++ (total_column repeats ++ (line_feed ∷ [])))
unfolding last_line line aligned
last_columns rows {copies} {repeats} e f =
    ap (λ (n : ℕ). total_column n ++ (total_column (copy_count (map event_of rows)) ++ (total_column (repeat_count (map event_of rows)) ++ (line_feed ∷ [])))) (length-map rows event_of)
    ∙ rw (e, f)

pub last_first : (rows : List (List ℕ)) (buffer : List ℕ) (at : ℕ) {copies repeats : ℕ} → copies ≡ copy_count (map event_of rows) → repeats ≡ repeat_count (map event_of rows)
    → at + length (last_line (map event_of rows)) ≤ length buffer
    → Rest buffer at (last_line (map event_of rows)) buffer at (total_column (length rows) ++ (total_column copies ++ (total_column repeats ++ (line_feed ∷ []))))
last_first rows buffer at e f h = subst (Rest buffer at (last_line (map event_of rows)) buffer at) (last_columns rows e f) (rest_first h)

pub page_first : (es : List ForwardEvent) (buffer : List ℕ) → 0 + length (page es) ≤ length buffer
    → Rest buffer 0 (page es) buffer 0 (head_line ++ (event_lines es ++ last_line es))
unfolding page
page_first es buffer h = rest_first h

pub head_text : ascii "       seqsent           delay1       delay2        fold1        fold2  \n" ≡ head_line
unfolding head_line line aligned right_in left_in
head_text = refl

-- what a writer's contract says of one text, of another that is the same
pub same_written : (buffer : List ℕ) (at : ℕ) {out text other : List ℕ} {next : ℕ} → text ≡ other → (next ≡ at + length text) × (out ≡ written_at buffer at text)
    → (next ≡ at + length other) × (out ≡ written_at buffer at other)
same_written buffer at e w = (w.0 ∙ ap (λ (l : List ℕ). at + length l) e, w.1 ∙ ap (written_at buffer at) e)
