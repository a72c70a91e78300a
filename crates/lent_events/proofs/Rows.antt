-- Rows looked at one after another, for the functions' proofs.
use Rattle.std.specs.Prelude.{Err}
use Prim.Native.Nat.{ℕ, zero, suc, ◌+◌, ◌≤◌, ◌<◌}
use mathlib.Core.Path.{◌≡◌, refl, sym, ap, ◌∙◌}
use mathlib.Core.Bool.{Bool, true, false, ◌||◌}
use mathlib.Core.List.{List, [], ◌∷◌, map}
use native.Mathlib.Numerals.{add-one}
use lib.ListN.{length, take, drop, get_or, drop_of_length-le}
use lib.Seq.{drop-cons, take_all}
use lib.Dec.{ltb}
use borrow.Author.Tests.{lt-ltb, le-ltb, ltb-false}
use Rattle.refusal.specs.Clauses.{any_of}
use Rattle.refusal.specs.Order.{check, order, or_else, numbered, first_of, verdict}
use Rattle.refusal.specs.declared.Refusal.TheVariants.{State, Time}
use Rattle.refusal.proofs.Laws.{accepted_none_true, or_false}
use Rattle.events.specs.Events.{of_copies}
use Rattle.lent_events.specs.Checks.{max_seq_num, max_copies, max_fold, any_above, is_no_event, is_late, row_checks, event_checks}
use Rattle.refusal.specs.Order.{passed}

-- the verdict by what the two checks say
pub on_state : (late : Bool) → verdict (check true State ∷ check late Time ∷ []) ≡ Err State
unfolding verdict first_of numbered or_else order
on_state late = refl

pub on_time : verdict (check false State ∷ check true Time ∷ []) ≡ Err Time
unfolding verdict first_of numbered or_else order
on_time = refl

pub on_neither : verdict (check false State ∷ check false Time ∷ []) ≡ passed
unfolding verdict first_of numbered or_else order
on_neither = refl

-- one of the rows from one on
abbrev any_from : (List ℕ → Bool) → List (List ℕ) → ℕ → Bool
any_from p rows i = any_of (map p (drop i rows))

any_step : (p : List ℕ → Bool) (rows : List (List ℕ)) (i : ℕ) → i < length rows → any_from p rows i ≡ (p (get_or rows i []) || any_from p rows (i + 1))
unfolding any_of
any_step p rows i h = rw (drop-cons rows i [] h, add-one)

any_end : (p : List ℕ → Bool) (rows : List (List ℕ)) (i : ℕ) → length rows ≤ i → any_from p rows i ≡ false
unfolding any_of
any_end p rows i h = rw (drop_of_length-le rows h)

or_assoc : (a b c : Bool) → (a || (b || c)) ≡ ((a || b) || c)
or_assoc true b c = refl
or_assoc false b c = refl

or_none : (a : Bool) → (a || false) ≡ a
or_none true = refl
or_none false = refl

pub later_taken : (a : Bool) {b x y : Bool} → x ≡ b → x ≡ true → y ≡ true → y ≡ (a || b)
later_taken a {b} {x} {y} e f g = g ∙ sym (ap (λ (z : Bool). a || z) (sym e ∙ f) ∙ or_true a)
  where
    or_true : (a : Bool) → (a || true) ≡ true
    or_true true = refl
    or_true false = refl

pub later_left : (a : Bool) {b x y : Bool} → x ≡ b → x ≡ false → y ≡ a → y ≡ (a || b)
later_left a {b} {x} {y} e f g = g ∙ sym (ap (λ (z : Bool). a || z) (sym e ∙ f) ∙ or_none a)

-- the rows before one are events, and whether one of them is late
pub record Passed (rows : List (List ℕ)) (i : ℕ) (late : Bool) : Type 0 where
  pub events : any_from is_no_event rows 0 ≡ any_from is_no_event rows i
  pub delays : any_from is_late rows 0 ≡ (late || any_from is_late rows i)

pub passed_first : (rows : List (List ℕ)) → Passed rows 0 false
passed_first rows = record { events = refl; delays = refl }

module _ (rows : List (List ℕ)) {i : ℕ} {late : Bool} (h : Passed rows i late) where
  pub passed_refused : {b : Bool} → i < length rows → b ≡ is_no_event (get_or rows i []) → b ≡ true → Err State ≡ verdict (row_checks false rows)
  unfolding any_of
  passed_refused k e t =
      let n : any_from is_no_event rows 0 ≡ true = h.events ∙ any_step is_no_event rows i k ∙ ap (λ (x : Bool). x || any_from is_no_event rows (i + 1)) (sym e ∙ t) in
      sym (ap (λ (x : Bool). verdict (check x State ∷ check (any_of (map is_late rows)) Time ∷ [])) n ∙ on_state (any_of (map is_late rows)))

  pub passed_next : {b later : Bool} → i < length rows → b ≡ is_no_event (get_or rows i []) → b ≡ false → later ≡ (late || is_late (get_or rows i []))
      → Passed rows (i + 1) later
  passed_next {b} {later} k e f l =
      record {
        events = h.events ∙ any_step is_no_event rows i k ∙ ap (λ (x : Bool). x || any_from is_no_event rows (i + 1)) (sym e ∙ f);
        delays = h.delays ∙ ap (λ (x : Bool). late || x) (any_step is_late rows i k)
            ∙ or_assoc late (is_late (get_or rows i [])) (any_from is_late rows (i + 1)) ∙ ap (λ (x : Bool). x || any_from is_late rows (i + 1)) (sym l);
      }

  none_broken : length rows ≤ i → any_from is_no_event rows 0 ≡ false
  none_broken k = h.events ∙ any_end is_no_event rows i k

  all_late : length rows ≤ i → any_from is_late rows 0 ≡ late
  all_late k = h.delays ∙ ap (λ (x : Bool). late || x) (any_end is_late rows i k) ∙ or_none late

  pub passed_late : length rows ≤ i → late ≡ true → Err Time ≡ verdict (row_checks false rows)
  unfolding any_of
  passed_late k e = sym (rw (none_broken k, all_late k, e) on_time)

  pub passed_end : length rows ≤ i → late ≡ false → passed ≡ verdict (row_checks false rows)
  unfolding any_of
  passed_end k e = sym (rw (none_broken k, all_late k, e) on_neither)

-- too few rows, and enough
pub few_rows : (count : ℕ) (rows : List (List ℕ)) → length rows < count → Err State ≡ verdict (event_checks count rows)
unfolding event_checks any_of
few_rows count rows h = sym (rw (lt-ltb (length rows) count h) (on_state _))

pub enough_rows : (count : ℕ) (rows : List (List ℕ)) → count ≤ length rows → event_checks count rows ≡ row_checks false (take count rows)
unfolding event_checks
enough_rows count rows h = rw (le-ltb (length rows) count h)

-- what is let through: as many rows as were asked for, and each of them passes
module _ (count : ℕ) (rows : List (List ℕ)) (e : verdict (event_checks count rows) ≡ passed) where
  pub accepted_count : count ≤ length rows
  unfolding event_checks any_of
  accepted_count =
      let n = accepted_none_true (row_checks (ltb (length rows) count) (take count rows)) e in
      ltb-false (length rows) count (or_false (ltb (length rows) count) (any_of (map is_no_event (take count rows))) n.0).0

  pub accepted_rows : verdict (row_checks false (take count rows)) ≡ passed
  accepted_rows = ap verdict (sym (enough_rows count rows accepted_count)) ∙ e

-- a row's copies against a bound
module _ (max copies a b : ℕ) where
  pub above_none : copies ≡ 0 → false ≡ any_above max (of_copies copies a b)
  unfolding any_above any_of
  above_none e = rw e

  pub above_first : (copies ≡ 0 → ⊥) → max < a → true ≡ any_above max (of_copies copies a b)
  unfolding any_above any_of
  above_first n h = go copies n
    where
      go : (k : ℕ) → (k ≡ 0 → ⊥) → true ≡ any_above max (of_copies k a b)
      go zero f = absurd (f refl)
      go (suc k) f = rw (lt-ltb max a h)

  pub above_one : copies ≡ 1 → a ≤ max → false ≡ any_above max (of_copies copies a b)
  unfolding any_above any_of
  above_one e h = rw (e, le-ltb max a h)

  pub above_second : 2 ≤ copies → a ≤ max → ltb max b ≡ any_above max (of_copies copies a b)
  unfolding any_above any_of
  above_second h l = rw (take_all copies (a ∷ (b ∷ [])) h, le-ltb max a l) (sym (or_none (ltb max b)))

-- a row clause by clause
module _ (row : List ℕ) where
  pub no_event_seq : max_seq_num < get_or row 0 0 → true ≡ is_no_event row
  unfolding is_no_event any_of
  no_event_seq h = rw (lt-ltb max_seq_num (get_or row 0 0) h)

  pub no_event_mark : get_or row 0 0 ≤ max_seq_num → 1 < get_or row 1 0 → true ≡ is_no_event row
  unfolding is_no_event any_of
  no_event_mark s h = rw (le-ltb max_seq_num (get_or row 0 0) s, lt-ltb 1 (get_or row 1 0) h)

  pub no_event_copies : get_or row 0 0 ≤ max_seq_num → get_or row 1 0 ≤ 1 → max_copies < get_or row 2 0 → true ≡ is_no_event row
  unfolding is_no_event any_of
  no_event_copies s m h = rw (le-ltb max_seq_num (get_or row 0 0) s, le-ltb 1 (get_or row 1 0) m, lt-ltb max_copies (get_or row 2 0) h)

  pub no_event_folds : {b : Bool} → get_or row 0 0 ≤ max_seq_num → get_or row 1 0 ≤ 1 → get_or row 2 0 ≤ max_copies
      → b ≡ any_above max_fold (of_copies (get_or row 2 0) (get_or row 5 0) (get_or row 6 0)) → b ≡ is_no_event row
  unfolding is_no_event any_of
  no_event_folds s m k e =
      e ∙ rw (le-ltb max_seq_num (get_or row 0 0) s, le-ltb 1 (get_or row 1 0) m, le-ltb max_copies (get_or row 2 0) k) (sym (or_none (any_above max_fold (of_copies (get_or row 2 0) (get_or row 5 0) (get_or row 6 0)))))
