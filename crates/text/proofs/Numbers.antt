-- Text at places: what is written there, what is read there, how long it is.
use Rattle.std.specs.Prelude.{None, Ok, Option, Some}
use Prim.Native.Nat.{ℕ, ◌+◌, ◌-◌, ◌*◌, ◌^◌, ◌≤◌, ◌<◌}
use mathlib.Core.Path.{◌≡◌, refl, sym, ap, subst, ◌∙◌}
use mathlib.Core.Bool.{Bool, true, false, cond}
use mathlib.Core.List.{List, [], ◌∷◌, ◌++◌, append_assoc}
use native.Mathlib.Omega.{arith}
use native.Mathlib.Nat.{lt_of_lt_of_le, lt_of_le_of_lt, add_assoc}
use lib.ListN.{length, take, drop, get_or, replicate, length-append, length-drop, length-replicate}
use lib.Seq.{take_at, drop_at, drop-drop, length-take-le}
use lib.Dec.{leb, lit<, lit≤}
use borrow.Author.Tests.{leb-true, le-leb, lt-leb}
use Rattle.std.proofs.lemmas.Option.{some_pair_parts}
use Rattle.text.specs.Decimal.{is_digit, value, is_plain, digits, right_in, left_in}
use Rattle.text.specs.Reading.{digit_run, capped_reading, plain_reading, read_decimal}
use Rattle.text.specs.Hexadecimal.{hex_text, all_hex, octets_of}
use Rattle.text.specs.Place.{written_at, hex_exit, letters_at, are_letters, read_hex}
use Rattle.text.proofs.Digits.{digits_decimal, digits_length, digits_some}
use Rattle.text.proofs.Hex.{length_hex, hex_letters, octets_hex, hex_octets}
use Rattle.text.proofs.Hex.{both}
use Rattle.text.proofs.Unique.{decimal_digits}
use Rattle.text.proofs.Runs.{run_other}
use Rattle.text.proofs.Runs.{run_append, run_split}
use Rattle.text.specs.Letters.{blank, digit_zero}

-- how many digits a number has at most
pub digits_u64 : (n : ℕ) → n < 2 ^ 64 → length (digits n) ≤ 20
digits_u64 n h = digits_length 19 n (lt_of_lt_of_le h (lit≤ tt))

pub digits_u32 : (n : ℕ) → n < 2 ^ 32 → length (digits n) ≤ 10
digits_u32 n h = digits_length 9 n (lt_of_lt_of_le h (lit≤ tt))

pub digits_delay : (n : ℕ) → n ≤ 180000 → length (digits n) ≤ 6
digits_delay n h = digits_length 5 n (lt_of_le_of_lt h (lit< tt))

pub digits_fold : (n : ℕ) → n ≤ 65535 → length (digits n) ≤ 5
digits_fold n h = digits_length 4 n (lt_of_le_of_lt h (lit< tt))

-- the width of a column
pub right_long : (width : ℕ) (text : List ℕ) → length (right_in width text) ≡ width - length text + length text
unfolding right_in
right_long width text = length-append (replicate (width - length text) blank) text ∙ ap (λ (k : ℕ). k + length text) (length-replicate (width - length text) blank)

-- a column of the width that the text takes is the same column
pub right_again : (width : ℕ) (text : List ℕ) → right_in (length (right_in width text)) text ≡ right_in width text
unfolding right_in
right_again width text =
    let e = right_long width text in
    let w : length (replicate (width - length text) blank ++ text) - length text ≡ width - length text = omega arith in
    ap (λ (k : ℕ). replicate k blank ++ text) w

pub right_some : (width n : ℕ) → 1 ≤ length (right_in width (digits n))
right_some width n = let e = right_long width (digits n) in let s = digits_some n in omega arith

-- a column holds what fits it, and is as wide as it says
pub right_width : (width : ℕ) (text : List ℕ) → length text ≤ width → length (right_in width text) ≡ width
unfolding right_in
right_width width text h = rw (length-append, length-replicate) (omega arith)

pub left_width : (width : ℕ) (text : List ℕ) → length text ≤ width → length (left_in width text) ≡ width
unfolding left_in
left_width width text h = rw (length-append, length-replicate) (omega arith)

-- text after text is one text, and the buffer keeps its length
pub length_written : (buffer : List ℕ) (at : ℕ) (text : List ℕ) → at + length text ≤ length buffer → length (written_at buffer at text) ≡ length buffer
length_written buffer at text h =
    let t = length-take-le at buffer (omega arith) in
    simp (length-append, length-drop) (omega arith)

pub written_after : (buffer : List ℕ) (at : ℕ) (a b : List ℕ) → at + length a ≤ length buffer
    → written_at (written_at buffer at a) (at + length a) b ≡ written_at buffer at (a ++ b)
written_after buffer at a b h =
    let f : length (take at buffer ++ a) ≡ at + length a = length-append (take at buffer) a ∙ ap (λ (k : ℕ). k + length a) (length-take-le at buffer (omega arith)) in
    let g : drop (at + length a + length b) (written_at buffer at a) ≡ drop (at + length (a ++ b)) buffer =
    sym (drop-drop (length b) (at + length a) (written_at buffer at a))
    ∙ ap (drop (length b)) (drop_at (take at buffer ++ a) (drop (at + length a) buffer) (at + length a) f)
    ∙ drop-drop (length b) (at + length a) buffer
    ∙ ap (λ (k : ℕ). drop k buffer) (add_assoc at (length a) (length b) ∙ ap (λ (k : ℕ). at + k) (sym (length-append a b))) in
    rw (take_at (take at buffer ++ a) (drop (at + length a) buffer) (at + length a) f, g, append_assoc (take at buffer) a b)

-- a text that several calls write one after another: what stands there so far, and the place after it
pub record Written (buffer : List ℕ) (at : ℕ) (text out : List ℕ) (next : ℕ) : Type 0 where
  pub holds : out ≡ written_at buffer at text
  pub after : next ≡ at + length text

pub written_first : (buffer : List ℕ) (at : ℕ) (text : List ℕ) {out : List ℕ} {next : ℕ} → next ≡ at + length text → out ≡ written_at buffer at text
    → Written buffer at text out next
written_first buffer at text n e = record { holds = e; after = n }

pub written_room : (buffer : List ℕ) (at : ℕ) (text : List ℕ) (k : ℕ) {out : List ℕ} {next : ℕ} → Written buffer at text out next
    → at + length text + k ≤ length buffer → next + k ≤ length out
written_room buffer at text k {out} {next} w h =
    let l = length_written buffer at text (omega arith) in
    let e = ap length w.holds in
    let n = w.after in omega arith

pub written_more : (buffer : List ℕ) (at : ℕ) (text more : List ℕ) {out out' : List ℕ} {next next' : ℕ} → Written buffer at text out next
    → at + length text ≤ length buffer → next' ≡ next + length more → out' ≡ written_at out next more
    → Written buffer at (text ++ more) out' next'
written_more buffer at text more {out} {out'} {next} {next'} w h n e =
    let a = w.after in
    let l = length-append text more in
    record { holds = e ∙ rw (w.holds, a) (written_after buffer at text more h); after = omega arith }

-- no letter below 0 is a digit: a tab, a line feed, a blank, a comma, a hyphen end a number
pub stops_at : (b : ℕ) (bs : List ℕ) → b < digit_zero → digit_run (b ∷ bs) ≡ []
unfolding is_digit
stops_at b bs h = run_other b bs (simp (lt-leb digit_zero b h))

-- a number that stands at a place before no further digit is read, with the place after it
pub read_digits : (s : List ℕ) (at max n : ℕ) (rest : List ℕ) → drop at s ≡ digits n ++ rest → digit_run rest ≡ [] → n ≤ max
    → read_decimal s at max ≡ Some (n, at + length (digits n))
unfolding read_decimal plain_reading capped_reading
read_digits s at max n rest e r h =
    let d = digits_decimal n in
    rw (e, run_append (digits n) rest d.letters r, d.plain, d.worth, le-leb n max h)

-- what was written at a place is read there, whatever follows but a digit
pub read_written : (s : List ℕ) (at max n : ℕ) → at + length (digits n) ≤ length s → n ≤ max
    → digit_run (drop (at + length (digits n)) s) ≡ []
    → read_decimal (written_at s at (digits n)) at max ≡ Some (n, at + length (digits n))
read_written s at max n room h r =
    read_digits (written_at s at (digits n)) at max n (drop (at + length (digits n)) s)
    (ap (drop at) (append_assoc (take at s) (digits n) (drop (at + length (digits n)) s))
    ∙ drop_at (take at s) (digits n ++ drop (at + length (digits n)) s) at (length-take-le at s (omega arith)))
    r h

-- an accepted number
pub record Accepted (s : List ℕ) (at max n next : ℕ) : Type 0 where
  pub bound : n ≤ max
  pub after : next ≡ at + length (digits n)
  pub text : drop at s ≡ digits n ++ drop next s
  pub stops : digit_run (drop next s) ≡ []

module _ (s : List ℕ) (at max n next : ℕ) where
  accepted_capped : (run : List ℕ) → run ≡ digit_run (drop at s) → is_plain run ≡ true → (t : Bool) → leb (value run) max ≡ t
      → cond {A = Option (ℕ × ℕ)} t (Some (value run, at + length run)) None ≡ Some (n, next) → Accepted s at max n next
  accepted_capped run r p true l e =
      let q = some_pair_parts (value run) n (at + length run) next e in
      let v = q.0 in
      let m = q.1 in
      let x = run_split (drop at s) in
      let d : run ≡ digits n = decimal_digits n run (record { letters = rw r x.letters; plain = p; worth = v }) in
      let w : drop (length run) (drop at s) ≡ drop next s = drop-drop (length run) at s ∙ ap (λ (k : ℕ). drop k s) m in
      record {
        bound = subst (λ (k : ℕ). k ≤ max) v (leb-true (value run) max l);
        after = sym m ∙ ap (λ (l : List ℕ). at + length l) d;
        text = sym x.joined ∙ ap (λ (l : List ℕ). l ++ drop (length l) (drop at s)) (sym r) ∙ rw (w, d);
        stops = ap digit_run (sym w) ∙ ap (λ (l : List ℕ). digit_run (drop (length l) (drop at s))) r ∙ x.stops;
      }
  accepted_capped run r p false l e = absurd (none e)
    where
      none : ◌≡◌ {A = Option (ℕ × ℕ)} None (Some (n, next)) → ⊥
      none e = let z : ◌≡◌ {A = ℕ} 0 1 = cc in omega arith

  accepted_plain : (t : Bool) → is_plain (digit_run (drop at s)) ≡ t
      → cond {A = Option (ℕ × ℕ)} t (capped_reading max (digit_run (drop at s)) at) None ≡ Some (n, next) → Accepted s at max n next
  unfolding capped_reading
  accepted_plain true p e = accepted_capped (digit_run (drop at s)) refl p (leb (value (digit_run (drop at s))) max) refl e
  accepted_plain false p e = absurd (none e)
    where
      none : ◌≡◌ {A = Option (ℕ × ℕ)} None (Some (n, next)) → ⊥
      none e = let z : ◌≡◌ {A = ℕ} 0 1 = cc in omega arith

  -- what is accepted is what the writer writes
  pub read_accepted : read_decimal s at max ≡ Some (n, next) → Accepted s at max n next
  unfolding read_decimal plain_reading
  read_accepted e = accepted_plain (is_plain (digit_run (drop at s))) refl e

  -- and nothing else decides
  pub accepted_read : Accepted s at max n next → read_decimal s at max ≡ Some (n, next)
  accepted_read a = read_digits s at max n (drop next s) a.text a.stops a.bound ∙ ap ((λ x. Some (n, x))) (sym a.after)

-- octets written in hexadecimal at a place are read there
pub read_hex_written : (s bs buffer : List ℕ) (at : ℕ) → ((i : ℕ) → get_or bs i 0 < 256) → at + length (hex_text bs) ≤ length s → length bs ≤ length buffer
    → read_hex (written_at s at (hex_text bs)) at (length bs) buffer ≡ hex_exit (bs ++ drop (length bs) buffer) (Ok (Some (at + length bs * 2)))
unfolding read_hex are_letters
read_hex_written s bs buffer at o h l =
    let k = length_hex bs in
    let w = length_written s at (hex_text bs) h in
    let d : drop at (written_at s at (hex_text bs)) ≡ hex_text bs ++ drop (at + length (hex_text bs)) s =
    ap (drop at) (append_assoc (take at s) (hex_text bs) (drop (at + length (hex_text bs)) s))
    ∙ drop_at (take at s) (hex_text bs ++ drop (at + length (hex_text bs)) s) at (length-take-le at s (omega arith)) in
    let e : letters_at (written_at s at (hex_text bs)) at (length bs) ≡ hex_text bs =
    ap (take (length bs * 2)) d ∙ take_at (hex_text bs) (drop (at + length (hex_text bs)) s) (length bs * 2) k in
    rw (e, le-leb (at + length bs * 2) (length (written_at s at (hex_text bs))) (omega arith), hex_letters bs o, le-leb (length bs) (length buffer) l, octets_hex bs o)

-- letters that are read are what is written of the octets that they name
pub read_hex_accepted : (s : List ℕ) (at count : ℕ) → are_letters s at count ≡ true → hex_text (octets_of (letters_at s at count)) ≡ letters_at s at count
unfolding are_letters
read_hex_accepted s at count e =
    let h = both (leb (at + count * 2) (length s)) (all_hex (letters_at s at count)) e in
    let b = leb-true (at + count * 2) (length s) h.0 in
    hex_octets count (letters_at s at count) (length-take-le (count * 2) (drop at s) (simp length-drop (omega arith))) h.1
