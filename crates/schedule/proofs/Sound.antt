-- Waiting records of which check 9 is false: what that says of each, and that a record put in or taken out keeps it so.
use mathlib.Core.Path.{◌≡◌, refl, sym, ◌∙◌, ap}
use Prim.Native.Nat.{ℕ, ◌<◌, ◌≤◌, ◌+◌}
use native.Mathlib.Omega.{arith}
use mathlib.Core.Bool.{Bool, true, false, not, ◌||◌}
use mathlib.Core.List.{List, [], ◌∷◌}
use lib.Dec.{ltb, leb, eqb}
use borrow.Author.Tests.{ltb-false, leb-false, le-ltb, lt-leb, eqb-false, ne_eqb}
use Rattle.refusal.proofs.Laws.{or_false}
use Rattle.schedule.specs.Record.{time_of, order_of, record_length, place_of, vacant, after, inserted, ordered_from, place_in}
use Rattle.schedule.specs.State.{record_broken, broken_from}
use Rattle.schedule.proofs.Ordering.{records, least, none, put_first, insert_none, insert_here, insert_later, inserted_false}

-- ---- tests
pub or_both : (a b : Bool) → a ≡ false → b ≡ false → (a || b) ≡ false
or_both a b h k = rw (h, k)

-- what a function answers, and what the test of its answer found
pub test_is : {a b c : Bool} → a ≡ b → a ≡ c → b ≡ c
test_is p q = sym p ∙ q

pub negated : (b : Bool) {t : Bool} → not b ≡ t → b ≡ not t
negated true e = ap not e
negated false e = ap not e

-- ---- check 9, false of a record and those behind it
pub record Fine (next n : ℕ) (front r : List ℕ) (rs : List (List ℕ)) : Type 0 where
  pub behind : after front r ≡ false
  pub short : record_length r ≤ 1410
  pub below : order_of r < next
  pub inside : place_of r < n
  pub single : place_in (place_of r) rs ≡ false
  pub rest : broken_from next n r rs ≡ false

pub fine : (next n : ℕ) (front r : List ℕ) (rs : List (List ℕ)) → broken_from next n front (r ∷ rs) ≡ false → Fine next n front r rs
unfolding broken_from
fine next n front r rs h =
    let a = (or_false (record_broken next n front r) (place_in (place_of r) rs || broken_from next n r rs) h).0 in
    let b = (or_false (record_broken next n front r) (place_in (place_of r) rs || broken_from next n r rs) h).1 in
    let a2 = (or_false (after front r) (ltb 1410 (record_length r) || (leb next (order_of r) || leb n (place_of r))) a).1 in
    let a3 = (or_false (ltb 1410 (record_length r)) (leb next (order_of r) || leb n (place_of r)) a2).1 in
    record {
      behind = (or_false (after front r) (ltb 1410 (record_length r) || (leb next (order_of r) || leb n (place_of r))) a).0;
      short = ltb-false 1410 (record_length r) (or_false (ltb 1410 (record_length r)) (leb next (order_of r) || leb n (place_of r)) a2).0;
      below = leb-false next (order_of r) (or_false (leb next (order_of r)) (leb n (place_of r)) a3).0;
      inside = leb-false n (place_of r) (or_false (leb next (order_of r)) (leb n (place_of r)) a3).1;
      single = (or_false (place_in (place_of r) rs) (broken_from next n r rs) b).0;
      rest = (or_false (place_in (place_of r) rs) (broken_from next n r rs) b).1;
    }

pub not_broken : (next n : ℕ) (front r : List ℕ) (rs : List (List ℕ)) → Fine next n front r rs → broken_from next n front (r ∷ rs) ≡ false
unfolding broken_from
not_broken next n front r rs f =
    or_both (record_broken next n front r) (place_in (place_of r) rs || broken_from next n r rs)
    (or_both (after front r) (ltb 1410 (record_length r) || (leb next (order_of r) || leb n (place_of r))) f.behind
    (or_both (ltb 1410 (record_length r)) (leb next (order_of r) || leb n (place_of r)) (le-ltb 1410 (record_length r) f.short)
    (or_both (leb next (order_of r)) (leb n (place_of r)) (lt-leb next (order_of r) f.below) (lt-leb n (place_of r) f.inside))))
    (or_both (place_in (place_of r) rs) (broken_from next n r rs) f.single f.rest)

pub none_broken : (next n : ℕ) (front : List ℕ) → broken_from next n front [] ≡ false
unfolding broken_from
none_broken next n front = refl

pub sound_ordered : (next n : ℕ) (front : List ℕ) (rs : List (List ℕ)) → broken_from next n front rs ≡ false → ordered_from after front rs ≡ true
sound_ordered next n front [] h = none after front
sound_ordered next n front (r ∷ rs) h = let f = fine next n front r rs h in put_first after front r rs f.behind (sound_ordered next n r rs f.rest)

-- ---- places
pub place_cons : (p : ℕ) (r : List ℕ) (rs : List (List ℕ)) → place_in p (r ∷ rs) ≡ (eqb p (place_of r) || place_in p rs)
unfolding place_in
place_cons p r rs = refl

pub place_is : (p : ℕ) (r : List ℕ) (rs : List (List ℕ)) (t : Bool) → eqb p (place_of r) ≡ t → place_in p (r ∷ rs) ≡ (t || place_in p rs)
place_is p r rs t e = place_cons p r rs ∙ ap (λ (b : Bool). b || place_in p rs) e

-- ---- a record put in
pub place_inserted : (p : ℕ) (r : List ℕ) (rs : List (List ℕ)) → eqb p (place_of r) ≡ false → place_in p rs ≡ false → place_in p (inserted after r rs) ≡ false
unfolding place_in
place_inserted p = inserted_false after (λ r. eqb p (place_of r)) (place_in p) refl (place_cons p)

eqb_flip : (a b : ℕ) → eqb a b ≡ false → eqb b a ≡ false
eqb_flip a b h = let f : a ≡ b → ⊥ = eqb-false a b h in ne_eqb b a (λ e. f (sym e))

-- a larger next order, and another record in front
pub more_orders : (next n : ℕ) (front : List ℕ) (rs : List (List ℕ)) → broken_from next n front rs ≡ false → broken_from (next + 1) n front rs ≡ false
more_orders next n front [] h = none_broken (next + 1) n front
more_orders next n front (r ∷ rs) h =
    let f = fine next n front r rs h in
    not_broken (next + 1) n front r rs (record { behind = f.behind; short = f.short; below = omega (arith, f.below); inside = f.inside; single = f.single; rest = more_orders next n r rs f.rest })

pub other_front : (next n : ℕ) (front other : List ℕ) (rs : List (List ℕ)) → ((r : List ℕ) → after front r ≡ false → after other r ≡ false) → broken_from next n front rs ≡ false → broken_from next n other rs ≡ false
other_front next n front other [] g h = none_broken next n other
other_front next n front other (r ∷ rs) g h =
    let f = fine next n front r rs h in
    not_broken next n other r rs (record { behind = g r f.behind; short = f.short; below = f.below; inside = f.inside; single = f.single; rest = f.rest })

pub inserted_sound : (next n : ℕ) (front r : List ℕ) (rs : List (List ℕ)) → after front r ≡ false → record_length r ≤ 1410 → order_of r ≡ next → place_of r < n → place_in (place_of r) rs ≡ false
    → broken_from next n front rs ≡ false → broken_from (next + 1) n front (inserted after r rs) ≡ false
inserted_sound next n front r [] b s o i p h =
    ap (broken_from (next + 1) n front) (insert_none after r)
    ∙ not_broken (next + 1) n front r [] (record { behind = b; short = s; below = omega arith; inside = i; single = p; rest = none_broken (next + 1) n r })
inserted_sound next n front r (x ∷ xs) b s o i p h = go (after x r) refl (λ a. inserted_sound next n x r xs a s o i (or_false (eqb (place_of r) (place_of x)) (place_in (place_of r) xs) (sym (place_cons (place_of r) x xs) ∙ p)).1 (fine next n front x xs h).rest)
  where
    go : (t : Bool) → after x r ≡ t → (after x r ≡ false → broken_from (next + 1) n x (inserted after r xs) ≡ false) → broken_from (next + 1) n front (inserted after r (x ∷ xs)) ≡ false
    go true a ih =
        ap (broken_from (next + 1) n front) (insert_here after r x xs a)
        ∙ not_broken (next + 1) n front r (x ∷ xs)
        (record {
          behind = b;
          short = s;
          below = omega arith;
          inside = i;
          single = p;
          rest = more_orders next n r (x ∷ xs) (let f = fine next n front x xs h in not_broken next n r x xs (record { behind = records.asym x r a; short = f.short; below = f.below; inside = f.inside; single = f.single; rest = f.rest }));
        })
    go false a ih =
        let f = fine next n front x xs h in
        ap (broken_from (next + 1) n front) (insert_later after r x xs a)
        ∙ not_broken (next + 1) n front x (inserted after r xs)
        (record {
          behind = f.behind;
          short = f.short;
          below = omega (arith, f.below);
          inside = f.inside;
          single = place_inserted (place_of x) r xs (eqb_flip (place_of r) (place_of x) (or_false (eqb (place_of r) (place_of x)) (place_in (place_of r) xs) (sym (place_cons (place_of r) x xs) ∙ p)).0) f.single;
          rest = ih a;
        })

-- ---- the first taken out
pub rest_sound : (next n : ℕ) (r : List ℕ) (rs : List (List ℕ)) → broken_from next n vacant (r ∷ rs) ≡ false → broken_from next n vacant rs ≡ false
rest_sound next n r rs h = other_front next n r vacant rs (λ x e. least (time_of x) (order_of x)) (fine next n vacant r rs h).rest
