-- Steps of the text's definitions.
use Prim.Native.Nat.{ℕ, ◌+◌, ◌-◌, ◌≤◌, ◌<◌}
use mathlib.Core.Path.{◌≡◌, refl, sym, ap, ◌∙◌}
use mathlib.Core.Bool.{true, false}
use mathlib.Core.List.{List, [], ◌∷◌, ◌++◌, map, append_assoc}
use native.Mathlib.Omega.{arith}
use lib.ListN.{length, drop, get_or, length-append}
use lib.Seq.{take_all}
use lib.Dec.{leb}
use borrow.Author.Tests.{le-leb, lt-leb}
use Rattle.events.specs.Events.{ForwardEvent, of_copies, event_of}
use Rattle.rows.specs.Rows.{as_number, is_set}
use Rattle.text.specs.Decimal.{digits}
use Rattle.text.specs.Field.{field}
use Rattle.text.specs.Place.{written_at}
use Rattle.text.proofs.Laws as texts
use Rattle.text.proofs.Laws.{Written, Rest}
use Rattle.refusal.specs.Refusal.{ascii}
use Rattle.text.specs.Letters.{tab, comma, line_feed}
use Rattle.trace.specs.Text.{parted, line, joined, columns, event_line, event_lines, head_line, events_text}

pub length_field : (n letter : ℕ) → length (field n letter) ≡ length (digits n) + 1
unfolding field
length_field n letter = length-append (digits n) (letter ∷ [])

-- the text of an event's copies
module _ (copies a b : ℕ) where
  pub joined_none : copies ≡ 0 → joined (of_copies copies a b) ≡ ascii "-"
  unfolding joined
  joined_none e = rw e

  pub joined_one : copies ≡ 1 → joined (of_copies copies a b) ≡ digits a
  unfolding joined parted
  joined_one e = rw e

  pub joined_two : 2 ≤ copies → joined (of_copies copies a b) ≡ field a comma ++ digits b
  unfolding joined parted field
  joined_two h = rw (take_all copies (a ∷ (b ∷ [])) h)

  pub length_none : copies ≡ 0 → length (joined (of_copies copies a b)) ≡ 1
  length_none e = ap length (joined_none e)

  pub length_one : copies ≡ 1 → length (joined (of_copies copies a b)) ≡ length (digits a)
  length_one e = ap length (joined_one e)

  pub length_two : 2 ≤ copies → length (joined (of_copies copies a b)) ≡ length (digits a) + 1 + length (digits b)
  length_two h =
      ap length (joined_two h) ∙ length-append (field a comma) (digits b) ∙ ap (λ (k : ℕ). k + length (digits b)) (length_field a comma)

  -- with the letter after it
  module _ (letter : ℕ) where
    pub closed_none : copies ≡ 0 → ascii "-" ++ (letter ∷ []) ≡ joined (of_copies copies a b) ++ (letter ∷ [])
    closed_none e = ap (λ (l : List ℕ). l ++ (letter ∷ [])) (sym (joined_none e))

    pub closed_one : copies ≡ 1 → field a letter ≡ joined (of_copies copies a b) ++ (letter ∷ [])
    unfolding field
    closed_one e = ap (λ (l : List ℕ). l ++ (letter ∷ [])) (sym (joined_one e))

    pub closed_two : 2 ≤ copies → field a comma ++ field b letter ≡ joined (of_copies copies a b) ++ (letter ∷ [])
    unfolding field
    closed_two h =
        sym (append_assoc (field a comma) (digits b) (letter ∷ [])) ∙ ap (λ (l : List ℕ). l ++ (letter ∷ [])) (sym (joined_two h))

    pub closed_none_length : copies ≡ 0 → length (joined (of_copies copies a b) ++ (letter ∷ [])) ≡ 2
    closed_none_length e = ap length (sym (closed_none e))

    pub closed_one_length : copies ≡ 1 → length (joined (of_copies copies a b) ++ (letter ∷ [])) ≡ length (field a letter)
    closed_one_length e = ap length (sym (closed_one e))

    pub closed_two_length : 2 ≤ copies
        → length (joined (of_copies copies a b) ++ (letter ∷ [])) ≡ length (field a comma) + length (field b letter)
    closed_two_length h = ap length (sym (closed_two h)) ∙ length-append (field a comma) (field b letter)

-- a line's columns, each with the letter after it
abbrev pub closed : List ℕ → ℕ → List ℕ
closed ns letter = joined ns ++ (letter ∷ [])

pub columns_closed : (seq again : ℕ) (delays folds : List ℕ)
    → columns seq again delays folds ≡ field seq tab ++ (field again tab ++ (closed delays tab ++ closed folds line_feed))
unfolding columns line parted field
columns_closed seq again delays folds = simp append_assoc

pub length_columns : (seq again : ℕ) (delays folds : List ℕ) → length (columns seq again delays folds)
    ≡ length (digits seq) + length (digits again) + length (joined delays) + length (joined folds) + 4
unfolding columns line parted
length_columns seq again delays folds = simp length-append (omega arith)

-- the lines of the rows from one on
abbrev pub lines_from : List (List ℕ) → ℕ → List ℕ
lines_from rows i = event_lines (map event_of (drop i rows))

abbrev pub line_at : List (List ℕ) → ℕ → List ℕ
line_at rows i = event_line (event_of (get_or rows i []))

abbrev row_line : List ℕ → List ℕ
row_line row = event_line (event_of row)

abbrev row_lines : List (List ℕ) → List ℕ
row_lines rows = event_lines (map event_of rows)

no_lines : row_lines [] ≡ []
unfolding event_lines
no_lines = refl

one_more : (row : List ℕ) (rows : List (List ℕ)) → row_lines (row ∷ rows) ≡ row_line row ++ row_lines rows
unfolding event_lines
one_more row rows = refl

pub lines_end : (rows : List (List ℕ)) (i : ℕ) → length rows ≤ i → lines_from rows i ≡ []
lines_end = texts.lines_end row_line row_lines no_lines one_more

pub lines_step : (rows : List (List ℕ)) (i : ℕ) → i < length rows → lines_from rows i ≡ line_at rows i ++ lines_from rows (i + 1)
lines_step = texts.lines_step row_line row_lines no_lines one_more

length_step : (rows : List (List ℕ)) (i : ℕ) → i < length rows → length (lines_from rows i) ≡ length (line_at rows i) + length (lines_from rows (i + 1))
length_step rows i h = ap length (lines_step rows i h) ∙ length-append (line_at rows i) (lines_from rows (i + 1))

-- whether all lines fit, found line by line
module _ (rows : List (List ℕ)) (room left i : ℕ) (e : left + length (lines_from rows 0) ≡ room + length (lines_from rows i)) where
  pub fits_end : length rows ≤ i → true ≡ leb (length (lines_from rows 0)) room
  fits_end h = let n = ap length (lines_end rows i h) in sym (le-leb (length (lines_from rows 0)) room (omega arith))

  pub fits_not : {k : ℕ} → i < length rows → k ≡ length (line_at rows i) → left < k → false ≡ leb (length (lines_from rows 0)) room
  fits_not h l q = let n = length_step rows i h in sym (lt-leb (length (lines_from rows 0)) room (omega arith))

  pub fits_next : {k : ℕ} → i < length rows → k ≡ length (line_at rows i) → k ≤ left
      → left - k + length (lines_from rows 0) ≡ room + length (lines_from rows (i + 1))
  fits_next h l q = let n = length_step rows i h in omega arith

-- the loop that writes the lines
module _ (rows : List (List ℕ)) (i : ℕ) {buffer : List ℕ} {at : ℕ} {whole out : List ℕ} {next : ℕ} (r : Rest buffer at whole out next (lines_from rows i)) where
  pub line_room : i < length rows → next + length (line_at rows i) ≤ length out
  line_room = texts.line_room row_line row_lines no_lines one_more rows i r

  pub line_next : {out' : List ℕ} {next' : ℕ} → i < length rows → next' ≡ next + length (line_at rows i)
      → out' ≡ written_at out next (line_at rows i) → Rest buffer at whole out' next' (lines_from rows (i + 1))
  line_next = texts.line_next row_line row_lines no_lines one_more rows i r

  pub line_end : length rows ≤ i → (next ≡ at + length whole) × (out ≡ written_at buffer at whole)
  line_end = texts.line_end row_line row_lines no_lines one_more rows i r

-- a row's line by its columns
pub line_columns : (row : List ℕ) {again : ℕ} → again ≡ as_number (is_set (get_or row 1 0))
    → columns (get_or row 0 0) again (of_copies (get_or row 2 0) (get_or row 3 0) (get_or row 4 0)) (of_copies (get_or row 2 0) (get_or row 5 0) (get_or row 6 0))
    ≡ event_line (event_of row)
unfolding event_line event_of
line_columns row e = rw e

-- the head line and the lines are the text
pub head_text : head_line ≡ ascii "seq\tagain\tdelays\tfolds\n"
unfolding head_line line parted
head_text = refl

pub length_head : length head_line ≡ 23
length_head = ap length head_text

pub length_text : (es : List ForwardEvent) → length (events_text es) ≡ 23 + length (event_lines es)
unfolding events_text
length_text es = length-append head_line (event_lines es) ∙ ap (λ (k : ℕ). k + length (event_lines es)) length_head

module _ {buffer out : List ℕ} {at next : ℕ} (es : List ForwardEvent) (w : Written buffer at (head_line ++ event_lines es) out next) where
  pub text_after : next ≡ at + length (events_text es)
  unfolding events_text
  text_after = w.after

  pub text_holds : out ≡ written_at buffer at (events_text es)
  unfolding events_text
  text_holds = w.holds
