-- The widths of a page: a column is as wide as it says, whatever it holds that fits; a line is as wide as its columns
-- together; so the page has lines of 72 columns.
use Prim.Native.Nat.{ℕ, zero, suc, ◌+◌, ◌-◌, ◌*◌, ◌^◌, ◌≤◌, ◌<◌}
use mathlib.Core.Path.{◌≡◌, refl, sym, ap, subst, ◌∙◌}
use mathlib.Core.Bool.{Bool, true, false, cond}
use mathlib.Core.List.{List, [], ◌∷◌, ◌++◌, map, append_assoc, append-nil}
use native.Mathlib.Omega.{arith}
use native.Mathlib.Nat.{lt_of_lt_of_le, lt_of_le_of_lt, min-le_right}
use lib.Dec.{ltb, leb, eqb, lit<, lit≤}
use lib.ListN.{length, get_or, replicate, length-append, length-take, length-map}
use borrow.Author.Tests.{ltb-true, ltb-false, leb-true, ne_eqb}
use Rattle.bounds.specs.Bounds.{max_delivery_delay}
use Rattle.refusal.specs.Clauses.{any_of}
use Rattle.refusal.specs.Order.{verdict}
use Rattle.refusal.proofs.Laws.{accepted_none_true, none_of, or_false}
use Rattle.rows.specs.Rows.{as_number}
use Rattle.events.specs.Events.{ForwardEvent, event_of}
use Rattle.lent_events.specs.Checks.{max_seq_num, max_fold, any_above, is_no_event, is_late, row_checks}
use Rattle.text.specs.Letters.{blank, line_feed}
use Rattle.text.specs.Decimal.{is_digit, all_digits, digits, right_in, left_in}
use Rattle.text.proofs.Laws.{digits_decimal, digits_length, digits_u32, digits_delay, digits_fold, right_width, left_width}
use Rattle.report.specs.Page.{Side, Right, Left, Column, aligned, line, copy_width, Entries, in_places, head_entries, head_line, sent_word, of_copy, event_entries, event_line, event_lines}
use Rattle.report.specs.Page.{copy_count, repeat_count, totals, last_line, page}
use Rattle.report.specs.Lines.{line_width, breaks, InLines, none, more, AllFit, widths, HasRoom, HaveRoom}
use Rattle.refusal.specs.Order.{passed}

-- ---- letters that are no line feed
breaks_none : breaks [] ≡ false
unfolding breaks any_of
breaks_none = refl

breaks_cons : (b : ℕ) (bs : List ℕ) → eqb line_feed b ≡ false → breaks bs ≡ false → breaks (b ∷ bs) ≡ false
unfolding breaks any_of
breaks_cons b bs e f = rw (e, f)

breaks_append : (xs ys : List ℕ) → breaks xs ≡ false → breaks ys ≡ false → breaks (xs ++ ys) ≡ false
unfolding breaks any_of
breaks_append [] ys e f = f
breaks_append (x ∷ xs) ys e f =
    let h = or_false (eqb line_feed x) (breaks xs) e in breaks_cons x (xs ++ ys) h.0 (breaks_append xs ys h.1 f)

breaks_blanks : (k : ℕ) → breaks (replicate k blank) ≡ false
breaks_blanks zero = breaks_none
breaks_blanks (suc k) = breaks_cons blank (replicate k blank) refl (breaks_blanks k)

both : (a b : Bool) → cond a b false ≡ true → (a ≡ true) × (b ≡ true)
both true b e = (refl, e)
both false b e = (e, cc)

digit_plain : (b : ℕ) → is_digit b ≡ true → eqb line_feed b ≡ false
unfolding is_digit
digit_plain b e = let h = leb-true 48 b (both (leb 48 b) (leb b 57) e).0 in ne_eqb line_feed b (λ q. omega arith)

letters_plain : (bs : List ℕ) → all_digits bs ≡ true → breaks bs ≡ false
unfolding all_digits
letters_plain [] e = breaks_none
letters_plain (b ∷ bs) e = let h = both (is_digit b) (all_digits bs) e in breaks_cons b bs (digit_plain b h.0) (letters_plain bs h.1)

digits_plain : (n : ℕ) → breaks (digits n) ≡ false
digits_plain n = letters_plain (digits n) (digits_decimal n).letters

-- ---- any column
pub column_width : (side : Side) (width : ℕ) (text : List ℕ) → length text ≤ width → length (aligned side width text) ≡ width
unfolding aligned
column_width Right width text h = right_width width text h
column_width Left width text h = left_width width text h

column_plain : (side : Side) (width : ℕ) (text : List ℕ) → breaks text ≡ false → breaks (aligned side width text) ≡ false
unfolding aligned right_in left_in
column_plain Right width text e = breaks_append (replicate (width - length text) blank) text (breaks_blanks (width - length text)) e
column_plain Left width text e = breaks_append text (replicate (width - length text) blank) e (breaks_blanks (width - length text))

abbrev letters : List Column → List ℕ
letters [] = []
letters (c ∷ cs) = aligned c.side c.width c.text ++ letters cs

line_letters : (cs : List Column) (rest : List ℕ) → letters cs ++ (line_feed ∷ rest) ≡ line cs ++ rest
unfolding line
line_letters [] rest = refl
line_letters (c ∷ cs) rest =
    let t = aligned c.side c.width c.text in
    append_assoc t (letters cs) (line_feed ∷ rest) ∙ ap (λ (l : List ℕ). t ++ l) (line_letters cs rest) ∙ sym (append_assoc t (line cs) rest)

letters_width : (cs : List Column) → AllFit cs → length (letters cs) ≡ widths cs
letters_width [] f = refl
letters_width (c ∷ cs) f =
    let w = column_width c.side c.width c.text f.0.size in
    let r = letters_width cs f.1 in
    let l = length-append (aligned c.side c.width c.text) (letters cs) in omega arith

letters_breaks : (cs : List Column) → AllFit cs → breaks (letters cs) ≡ false
letters_breaks [] f = breaks_none
letters_breaks (c ∷ cs) f =
    breaks_append (aligned c.side c.width c.text) (letters cs) (column_plain c.side c.width c.text f.0.plain) (letters_breaks cs f.1)

-- ---- any line: as wide as its columns together, before lines of that width
pub line_width_lem : (cs : List Column) {n : ℕ} {rest : List ℕ} → AllFit cs → InLines (widths cs) n rest → InLines (widths cs) (suc n) (line cs ++ rest)
line_width_lem cs {n} {rest} f r =
    subst (InLines (widths cs) (suc n)) (line_letters cs rest) (more (letters cs) (letters_width cs f) (letters_breaks cs f) r)

pub lines_length : {width n : ℕ} {text : List ℕ} → InLines width n text → length text ≡ n * (width + 1)
lines_length none = omega arith
lines_length {width} (more {n} {rest} ls e b r) =
    let l = length-append ls (line_feed ∷ rest) in
    let q = lines_length r in go n (length ls) (length rest) width e q l
  where
    go : (n k m w : ℕ) {t : ℕ} → k ≡ w → m ≡ n * (w + 1) → t ≡ k + suc m → t ≡ suc n * (w + 1)
    go n k m w e q l = omega arith

-- ---- the page's lines
entries_fit : (e : Entries) → length e.seq ≤ 10 → length e.sent ≤ 8 → length e.delay1 ≤ 13 → length e.delay2 ≤ 13 → length e.fold1 ≤ 13 → length e.fold2 ≤ 13
    → breaks e.seq ≡ false → breaks e.sent ≡ false → breaks e.delay1 ≡ false → breaks e.delay2 ≡ false → breaks e.fold1 ≡ false → breaks e.fold2 ≡ false
    → AllFit (in_places e)
entries_fit e a b c d f g p q r s t u =
    (record { size = a; plain = p }, (record { size = b; plain = q }, (record { size = c; plain = r }, (record { size = d; plain = s }, (record { size = f; plain = t }, (record { size = g; plain = u }, (record { size = omega arith; plain = breaks_none }, tt)))))))

head_fits : AllFit (in_places head_entries)
unfolding breaks any_of
head_fits = entries_fit head_entries (omega arith) (omega arith) (omega arith) (omega arith) (omega arith) (omega arith) refl refl refl refl refl refl

-- a copy's number is at most what none of them is above
within : (max i : ℕ) (ns : List ℕ) → any_above max ns ≡ false → i < length ns → get_or ns i 0 ≤ max
unfolding any_above any_of
within max i [] e h = absurd (go h)
  where
    go : i < 0 → ⊥
    go h = omega arith
within max zero (n ∷ ns) e h = ltb-false max n (or_false (ltb max n) (any_above max ns) e).0
within max (suc i) (n ∷ ns) e h = within max i ns (or_false (ltb max n) (any_above max ns) e).1 (omega arith)

copy_fits : (max index : ℕ) (ns : List ℕ) → ((n : ℕ) → n ≤ max → length (digits n) ≤ copy_width) → any_above max ns ≡ false → length (of_copy index ns) ≤ copy_width
unfolding of_copy
copy_fits max index ns d e = by_copies (ltb index (length ns)) refl
  where
    by_copies : (t : Bool) → ltb index (length ns) ≡ t → length (cond t (digits (get_or ns index 0)) []) ≤ copy_width
    by_copies true q = d (get_or ns index 0) (within max index ns e (ltb-true index (length ns) q))
    by_copies false q = omega arith

copy_plain : (index : ℕ) (ns : List ℕ) → breaks (of_copy index ns) ≡ false
unfolding of_copy
copy_plain index ns = by_copies (ltb index (length ns))
  where
    by_copies : (t : Bool) → breaks (cond t (digits (get_or ns index 0)) []) ≡ false
    by_copies true = digits_plain (get_or ns index 0)
    by_copies false = breaks_none

sent_fits : (b : Bool) → length (sent_word b) ≤ 8
unfolding sent_word
sent_fits true = omega arith
sent_fits false = omega arith

sent_plain : (b : Bool) → breaks (sent_word b) ≡ false
unfolding sent_word breaks any_of
sent_plain true = refl
sent_plain false = refl

delay_digits : (n : ℕ) → n ≤ max_delivery_delay → length (digits n) ≤ copy_width
delay_digits n h = let d = digits_delay n h in omega arith

fold_digits : (n : ℕ) → n ≤ max_fold → length (digits n) ≤ copy_width
fold_digits n h = let d = digits_fold n h in omega arith

event_fits : (e : ForwardEvent) → HasRoom e → AllFit (in_places (event_entries e))
event_fits e h =
    entries_fit (event_entries e) (digits_u32 e.seq (lt_of_le_of_lt h.seq (lit< tt))) (sent_fits e.retransmission)
    (copy_fits max_delivery_delay 0 e.delays delay_digits h.delays)
    (copy_fits max_delivery_delay 1 e.delays delay_digits h.delays)
    (copy_fits max_fold 0 e.folds fold_digits h.folds)
    (copy_fits max_fold 1 e.folds fold_digits h.folds)
    (digits_plain e.seq) (sent_plain e.retransmission) (copy_plain 0 e.delays) (copy_plain 1 e.delays) (copy_plain 0 e.folds) (copy_plain 1 e.folds)

event_in_lines : (e : ForwardEvent) {n : ℕ} {rest : List ℕ} → HasRoom e → InLines line_width n rest → InLines line_width (suc n) (event_line e ++ rest)
unfolding event_line
event_in_lines e h r = line_width_lem (in_places (event_entries e)) (event_fits e h) r

head_in_lines : {n : ℕ} {rest : List ℕ} → InLines line_width n rest → InLines line_width (suc n) (head_line ++ rest)
unfolding head_line
head_in_lines r = line_width_lem (in_places head_entries) head_fits r

-- totals of a list that a slice can hold
copies_most : (es : List ForwardEvent) → HaveRoom es → copy_count es ≤ 2 * length es
unfolding copy_count
copies_most [] h = omega arith
copies_most (e ∷ es) h = let a = h.0.copies in let r = copies_most es h.1 in omega arith

repeats_most : (es : List ForwardEvent) → repeat_count es ≤ length es
unfolding repeat_count
repeats_most [] = omega arith
repeats_most (e ∷ es) = by_mark e.retransmission (repeats_most es)
  where
    by_mark : (b : Bool) → repeat_count es ≤ length es → as_number b + repeat_count es ≤ suc (length es)
    by_mark true r = omega arith
    by_mark false r = omega arith

total_digits : (n m : ℕ) → n ≤ 2 * m → m < 2 ^ 64 → length (digits n) ≤ 24
total_digits n m h k = let d = digits_length 19 n (lt_of_lt_of_le (twice n m (2 ^ 64) h k) (lit≤ tt)) in omega arith
  where
    twice : (n m k : ℕ) → n ≤ 2 * m → m < k → n < 2 * k
    twice n m k h l = omega arith

module _ (es : List ForwardEvent) (h : HaveRoom es) (k : length es < 2 ^ 64) where
  last_fits : AllFit (totals es)
  last_fits =
      let c = copies_most es h in
      let r = repeats_most es in (
        record { size = total_digits (length es) (length es) (omega arith) k; plain = digits_plain (length es) },
        (
          record { size = total_digits (copy_count es) (length es) c k; plain = digits_plain (copy_count es) },
          (record { size = total_digits (repeat_count es) (length es) (omega arith) k; plain = digits_plain (repeat_count es) }, tt),
        ),
      )

  last_in_lines : InLines line_width 1 (last_line es)
  unfolding last_line
  last_in_lines = subst (InLines line_width 1) (append-nil (last_line es)) (line_width_lem (totals es) last_fits none)

events_in_lines : (es : List ForwardEvent) {n : ℕ} {rest : List ℕ} → HaveRoom es → InLines line_width n rest → InLines line_width (length es + n) (event_lines es ++ rest)
unfolding event_lines
events_in_lines [] {n} {rest} h r = subst (λ (k : ℕ). InLines line_width k rest) (let z : n ≡ 0 + n = omega arith in z) r
events_in_lines (e ∷ es) {n} {rest} h r =
    subst (λ (k : ℕ). InLines line_width k ((event_line e ++ event_lines es) ++ rest)) (let z : suc (length es + n) ≡ suc (length es) + n = omega arith in z)
    (subst (InLines line_width (suc (length es + n))) (sym (append_assoc (event_line e) (event_lines es) rest))
    (event_in_lines e h.0 (events_in_lines es h.1 r)))

-- the page: a head line, a line for each event, the totals, each of 72 columns and a line feed
pub page_in_lines : (es : List ForwardEvent) → HaveRoom es → length es < 2 ^ 64 → InLines line_width (length es + 2) (page es)
unfolding page
page_in_lines es h k =
    subst (λ (n : ℕ). InLines line_width n (page es)) (let z : suc (length es + 1) ≡ length es + 2 = omega arith in z)
    (head_in_lines (events_in_lines es h (last_in_lines es h k)))

-- ---- rows that the checks let through
row_room : (row : List ℕ) → is_no_event row ≡ false → is_late row ≡ false → HasRoom (event_of row)
unfolding is_no_event is_late event_of
row_room row e f =
    let n = none_of _ e in
    let l = length-take (get_or row 2 0) (get_or row 3 0 ∷ (get_or row 4 0 ∷ [])) in
    let m = min-le_right (get_or row 2 0) 2 in
    record { seq = ltb-false max_seq_num (get_or row 0 0) n.0; copies = omega arith; delays = f; folds = n.1.1.1.0 }

rows_room : (rows : List (List ℕ)) → any_of (map is_no_event rows) ≡ false → any_of (map is_late rows) ≡ false → HaveRoom (map event_of rows)
unfolding any_of
rows_room [] e f = tt
rows_room (r ∷ rs) e f =
    let a = or_false (is_no_event r) (any_of (map is_no_event rs)) e in
    let b = or_false (is_late r) (any_of (map is_late rs)) f in (row_room r a.0 b.0, rows_room rs a.1 b.1)

pub accepted_room : (rows : List (List ℕ)) → verdict (row_checks false rows) ≡ passed → HaveRoom (map event_of rows)
unfolding any_of
accepted_room rows e = let n = accepted_none_true (row_checks false rows) e in rows_room rows n.0 n.1.0

pub page_length : (rows : List (List ℕ)) → verdict (row_checks false rows) ≡ passed → length rows < 2 ^ 64 → length (page (map event_of rows)) ≡ (length rows + 2) * 73
page_length rows e k =
    let m = length-map rows event_of in
    let l = lines_length (page_in_lines (map event_of rows) (accepted_room rows e) (subst (λ (n : ℕ). n < 2 ^ 64) (sym m) k)) in
    l ∙ ap (λ (n : ℕ). (n + 2) * 73) m
