-- Doubled places, looked for in blocks; and check 9 as that and the rest.
use mathlib.Core.Path.{◌≡◌, refl, sym, ◌∙◌, ap}
use Prim.Native.Nat.{ℕ, ◌<◌, ◌≤◌, ◌+◌}
use native.Mathlib.Omega.{arith}
use mathlib.Core.Logic.{◌⊎◌, inl, inr}
use mathlib.Core.Bool.{Bool, true, false, ◌&&◌, ◌||◌, or-true, and-false, false≢true}
use mathlib.Core.List.{List, [], ◌∷◌}
use lib.Dec.{ltb, leb}
use borrow.Author.Tests.{lt-ltb, le-ltb, le-leb, lt-leb, ltb-false, leb-true, leb-false}
use Rattle.refusal.proofs.Laws.{or_false}
use Rattle.schedule.specs.Record.{order_of, record_length, place_of, after, place_in}
use Rattle.schedule.specs.Internal.{block_size, doubled, outside, doubled_in, any_record_broken}
use Rattle.schedule.specs.State.{record_broken, broken_from}
use Rattle.schedule.proofs.Sound.{or_both, fine}

-- a place below m is doubled
unfoldable pub doubled_below : ℕ → List (List ℕ) → Bool
doubled_below m [] = false
doubled_below m (r ∷ rs) = (ltb (place_of r) m && place_in (place_of r) rs) || doubled_below m rs

abbrev pub within : ℕ → List ℕ → Bool
within p r = leb p (place_of r) && ltb (place_of r) (p + block_size)

-- ---- one block
pub in_none : (p : ℕ) {l : List (List ℕ)} → l ≡ [] → doubled_in p l ≡ false
unfolding doubled_in
in_none p e = ap (doubled_in p) e

in_cons : (p : ℕ) (r : List ℕ) (rs : List (List ℕ)) → doubled_in p (r ∷ rs) ≡ ((within p r && place_in (place_of r) rs) || doubled_in p rs)
unfolding doubled_in
in_cons p r rs = refl

pub in_first : (p : ℕ) (r : List ℕ) (rs : List (List ℕ)) → p ≤ place_of r → place_of r < p + block_size → doubled_in p (r ∷ rs) ≡ (place_in (place_of r) rs || doubled_in p rs)
in_first p r rs a b = in_cons p r rs ∙ rw (le-leb p (place_of r) a, lt-ltb (place_of r) (p + block_size) b)

pub in_outside : (p : ℕ) (r : List ℕ) (rs : List (List ℕ)) → (place_of r < p) ⊎ (p + block_size ≤ place_of r) → doubled_in p (r ∷ rs) ≡ doubled_in p rs
in_outside p r rs (inl h) = in_cons p r rs ∙ rw (lt-leb p (place_of r) h)
in_outside p r rs (inr h) = in_cons p r rs ∙ ap (λ (b : Bool). ((leb p (place_of r) && b) && place_in (place_of r) rs) || doubled_in p rs) (le-ltb (place_of r) (p + block_size) h) ∙ ap (λ (b : Bool). (b && place_in (place_of r) rs) || doubled_in p rs) (and-false (leb p (place_of r)))

-- ---- all blocks
pub in_doubled : (p : ℕ) (l : List (List ℕ)) → doubled_in p l ≡ true → doubled l ≡ true
unfolding doubled doubled_in
in_doubled p [] h = h
in_doubled p (r ∷ rs) h = go (within p r) (place_in (place_of r) rs) (doubled_in p rs) refl h (in_doubled p rs)
  where
    go : (w i d : Bool) → place_in (place_of r) rs ≡ i → ((w && i) || d) ≡ true → (d ≡ true → doubled rs ≡ true) → (place_in (place_of r) rs || doubled rs) ≡ true
    go w true d e h ih = ap (λ (b : Bool). b || doubled rs) e
    go true false d e h ih = ap (λ (b : Bool). b || doubled rs) e ∙ ih h
    go false false d e h ih = ap (λ (b : Bool). b || doubled rs) e ∙ ih h

pub below_zero : (l : List (List ℕ)) → doubled_below 0 l ≡ false
unfolding doubled_below
below_zero [] = refl
below_zero (r ∷ rs) = rw (le-ltb (place_of r) 0 (omega arith), below_zero rs)

pub below_more : (m : ℕ) (l : List (List ℕ)) → doubled_below m l ≡ false → doubled_in m l ≡ false → doubled_below (m + block_size) l ≡ false
unfolding doubled_below doubled_in
below_more m [] h k = refl
below_more m (r ∷ rs) h k =
    or_both (ltb (place_of r) (m + block_size) && place_in (place_of r) rs) (doubled_below (m + block_size) rs)
    (go (ltb (place_of r) m) refl (ltb (place_of r) (m + block_size)) refl (place_in (place_of r) rs) (or_false (ltb (place_of r) m && place_in (place_of r) rs) (doubled_below m rs) h).0 (or_false (within m r && place_in (place_of r) rs) (doubled_in m rs) k).0)
    (below_more m rs (or_false (ltb (place_of r) m && place_in (place_of r) rs) (doubled_below m rs) h).1 (or_false (within m r && place_in (place_of r) rs) (doubled_in m rs) k).1)
  where
    go : (a : Bool) → ltb (place_of r) m ≡ a → (b : Bool) → ltb (place_of r) (m + block_size) ≡ b → (i : Bool) → (ltb (place_of r) m && i) ≡ false → ((leb m (place_of r) && ltb (place_of r) (m + block_size)) && i) ≡ false → (ltb (place_of r) (m + block_size) && i) ≡ false
    go a ea false eb i h k = ap (λ (x : Bool). x && i) eb
    go true ea true eb i h k = ap (λ (x : Bool). x && i) (eb ∙ sym ea) ∙ h
    go false ea true eb i h k = ap (λ (x : Bool). x && i) (eb ∙ sym (ap (λ (x : Bool). x && ltb (place_of r) (m + block_size)) (le-leb m (place_of r) (ltb-false (place_of r) m ea)) ∙ eb)) ∙ k

pub below_all : (n m : ℕ) (l : List (List ℕ)) → outside n l ≡ false → n ≤ m → doubled_below m l ≡ false → doubled l ≡ false
unfolding doubled_below doubled outside
below_all n m [] o h k = refl
below_all n m (r ∷ rs) o h k =
    let low = leb-false n (place_of r) (or_false (leb n (place_of r)) (outside n rs) o).0 in
    let first = (or_false (ltb (place_of r) m && place_in (place_of r) rs) (doubled_below m rs) k).0 in
    or_both (place_in (place_of r) rs) (doubled rs)
    (sym (ap (λ (b : Bool). b && place_in (place_of r) rs) (lt-ltb (place_of r) m (omega arith))) ∙ first)
    (below_all n m rs (or_false (leb n (place_of r)) (outside n rs) o).1 h (or_false (ltb (place_of r) m && place_in (place_of r) rs) (doubled_below m rs) k).1)

-- ---- places below n
pub outside_below : (n : ℕ) (r : List ℕ) (rs : List (List ℕ)) → place_of r < n → outside n (r ∷ rs) ≡ outside n rs
unfolding outside
outside_below n r rs h = ap (λ (b : Bool). b || outside n rs) (lt-leb n (place_of r) h)

pub outside_past : (n : ℕ) (r : List ℕ) (rs : List (List ℕ)) → n ≤ place_of r → outside n (r ∷ rs) ≡ true
unfolding outside
outside_past n r rs h = ap (λ (b : Bool). b || outside n rs) (le-leb n (place_of r) h)

pub outside_none : (n : ℕ) {rs : List (List ℕ)} → rs ≡ [] → outside n rs ≡ false
unfolding outside
outside_none n e = ap (outside n) e

-- a place that is not below m and below n
pub between : (m n : ℕ) (rs : List (List ℕ)) → outside m rs ≡ true → outside n rs ≡ false → m < n
unfolding outside
between m n [] h k = absurd (false≢true h)
between m n (r ∷ rs) h k = go (leb m (place_of r)) refl h (λ e. between m n rs e (or_false (leb n (place_of r)) (outside n rs) k).1)
  where
    go : (t : Bool) → leb m (place_of r) ≡ t → (t || outside m rs) ≡ true → (outside m rs ≡ true → m < n) → m < n
    go true e h ih = let a = leb-true m (place_of r) e in let b = leb-false n (place_of r) (or_false (leb n (place_of r)) (outside n rs) k).0 in omega arith
    go false e h ih = ih h

pub sound_inside : (next n : ℕ) (front : List ℕ) (rs : List (List ℕ)) → broken_from next n front rs ≡ false → outside n rs ≡ false
unfolding outside
sound_inside next n front [] h = refl
sound_inside next n front (r ∷ rs) h = let f = fine next n front r rs h in or_both (leb n (place_of r)) (outside n rs) (lt-leb n (place_of r) f.inside) (sound_inside next n r rs f.rest)

pub sound_single : (next n : ℕ) (front : List ℕ) (rs : List (List ℕ)) → broken_from next n front rs ≡ false → doubled rs ≡ false
unfolding doubled
sound_single next n front [] h = refl
sound_single next n front (r ∷ rs) h = let f = fine next n front r rs h in or_both (place_in (place_of r) rs) (doubled rs) f.single (sound_single next n r rs f.rest)

-- ---- check 9: a broken record, or else a doubled place
record_inside : (next n : ℕ) (front r : List ℕ) → record_broken next n front r ≡ false → place_of r < n
record_inside next n front r h =
    let a = (or_false (after front r) (ltb 1410 (record_length r) || (leb next (order_of r) || leb n (place_of r))) h).1 in
    let b = (or_false (ltb 1410 (record_length r)) (leb next (order_of r) || leb n (place_of r)) a).1 in
    leb-false n (place_of r) (or_false (leb next (order_of r)) (leb n (place_of r)) b).1

pub alone_none : (next n : ℕ) (front : List ℕ) {l : List (List ℕ)} → l ≡ [] → any_record_broken next n front l ≡ false
unfolding any_record_broken
alone_none next n front e = ap (any_record_broken next n front) e

pub alone_first : (next n : ℕ) (front : List ℕ) {l rs : List (List ℕ)} {r : List ℕ} {t : Bool} → l ≡ r ∷ rs → record_broken next n front r ≡ t → any_record_broken next n front l ≡ (t || any_record_broken next n r rs)
unfolding any_record_broken
alone_first next n front {rs = rs} {r = r} e h = ap (any_record_broken next n front) e ∙ ap (λ (b : Bool). b || any_record_broken next n r rs) h

pub alone_outside : (next n : ℕ) (front : List ℕ) (l : List (List ℕ)) → any_record_broken next n front l ≡ false → outside n l ≡ false
unfolding any_record_broken outside
alone_outside next n front [] h = refl
alone_outside next n front (r ∷ rs) h =
    let a = or_false (record_broken next n front r) (any_record_broken next n r rs) h in
    or_both (leb n (place_of r)) (outside n rs) (lt-leb n (place_of r) (record_inside next n front r a.0)) (alone_outside next n r rs a.1)

pub any_record_broken_lem : (next n : ℕ) (front : List ℕ) (l : List (List ℕ)) → any_record_broken next n front l ≡ true → broken_from next n front l ≡ true
unfolding any_record_broken broken_from
any_record_broken_lem next n front [] h = h
any_record_broken_lem next n front (r ∷ rs) h = go (record_broken next n front r) refl (any_record_broken_lem next n r rs) h
  where
    go : (t : Bool) → record_broken next n front r ≡ t → (any_record_broken next n r rs ≡ true → broken_from next n r rs ≡ true) → (record_broken next n front r || any_record_broken next n r rs) ≡ true → (record_broken next n front r || (place_in (place_of r) rs || broken_from next n r rs)) ≡ true
    go true e ih h = ap (λ (b : Bool). b || (place_in (place_of r) rs || broken_from next n r rs)) e
    go false e ih h =
        ap (λ (b : Bool). b || (place_in (place_of r) rs || broken_from next n r rs)) e
        ∙ ap (λ (b : Bool). place_in (place_of r) rs || b) (ih (sym (ap (λ (b : Bool). b || any_record_broken next n r rs) e) ∙ h)) ∙ or-true (place_in (place_of r) rs)

pub alone_doubled : (next n : ℕ) (front : List ℕ) (l : List (List ℕ)) → any_record_broken next n front l ≡ false → broken_from next n front l ≡ doubled l
unfolding any_record_broken broken_from doubled
alone_doubled next n front [] h = refl
alone_doubled next n front (r ∷ rs) h =
    ap (λ (b : Bool). b || (place_in (place_of r) rs || broken_from next n r rs)) (or_false (record_broken next n front r) (any_record_broken next n r rs) h).0
    ∙ ap (λ (b : Bool). place_in (place_of r) rs || b) (alone_doubled next n r rs (or_false (record_broken next n front r) (any_record_broken next n r rs) h).1)
