-- The free places: how many there are, which is the first, and what the sum of the places tells of it.
use Rattle.std.specs.Prelude.{None, Option, Some}
use mathlib.Core.Path.{◌≡◌, refl, sym, ◌∙◌, ap, subst}
use Prim.Native.Nat.{ℕ, zero, suc, ◌<◌, ◌≤◌, ◌+◌, ◌-◌, ◌*◌, ◌/◌}
use native.Mathlib.Omega.{arith}
use native.Mathlib.Nat.{add-zero, zero-add, add_assoc}
use mathlib.Core.Bool.{Bool, true, false, cond, ◌||◌, true≢false}
use mathlib.Core.List.{List, [], ◌∷◌}
use lib.ListN.{length, get_or, take, drop}
use lib.Seq.{length-take-le}
use lib.Dec.{ltb, leb, eqb}
use borrow.Author.Tests.{ltb-true, ltb-false, lt-ltb, le-ltb, leb-false, le-leb, lt-leb, eqb-true, eqb-false, ne_eqb}
use Rattle.refusal.proofs.Laws.{or_false}
use Rattle.schedule.specs.Record.{place_of, place_in, free_from}
use Rattle.schedule.specs.Internal.{doubled, outside, place_sum, sum_from}
use Rattle.schedule.proofs.Lists.{rest_cons}
use Rattle.schedule.proofs.Sound.{place_cons}

no_place : (p : ℕ) → place_in p [] ≡ false
unfolding place_in
no_place p = refl

pub free_zero : (p : ℕ) (rs : List (List ℕ)) → free_from zero p rs ≡ []
unfolding free_from
free_zero p rs = refl

pub free_suc : (k p : ℕ) (rs : List (List ℕ)) (t : Bool) → place_in p rs ≡ t → free_from (suc k) p rs ≡ cond t (free_from k (suc p) rs) (p ∷ free_from k (suc p) rs)
unfolding free_from
free_suc k p rs t e = ap (λ (b : Bool). cond b (free_from k (suc p) rs) (p ∷ free_from k (suc p) rs)) e

pub some_left : (k p : ℕ) (rs : List (List ℕ)) → 0 < length (free_from k p rs) → 0 < k
some_left zero p rs h = absurd (omega (arith, ap length (free_zero p rs)))
some_left (suc k) p rs h = omega arith

-- ---- free places and those of the records are all the places, whatever each place weighs
weight : (ℕ → ℕ) → List ℕ → ℕ
weight f [] = 0
weight f (p ∷ ps) = f p + weight f ps

places_weight : (ℕ → ℕ) → List (List ℕ) → ℕ
places_weight f [] = 0
places_weight f (r ∷ rs) = f (place_of r) + places_weight f rs

-- a record whose place lies below p takes none of the places from p on
free_outside : (k p : ℕ) (r : List ℕ) (rs : List (List ℕ)) → place_of r < p → free_from k p (r ∷ rs) ≡ free_from k p rs
free_outside zero p r rs h = free_zero p (r ∷ rs) ∙ sym (free_zero p rs)
free_outside (suc k) p r rs h = go (place_in p rs) refl (free_outside k (suc p) r rs (omega arith))
  where
    other : place_in p (r ∷ rs) ≡ place_in p rs
    other = place_cons p r rs ∙ ap (λ (b : Bool). b || place_in p rs) (ne_eqb p (place_of r) (λ e. omega arith))

    go : (t : Bool) → place_in p rs ≡ t → free_from k (suc p) (r ∷ rs) ≡ free_from k (suc p) rs → free_from (suc k) p (r ∷ rs) ≡ free_from (suc k) p rs
    go true e ih = free_suc k p (r ∷ rs) true (other ∙ e) ∙ ih ∙ sym (free_suc k p rs true e)
    go false e ih = free_suc k p (r ∷ rs) false (other ∙ e) ∙ ap (λ (l : List ℕ). p ∷ l) ih ∙ sym (free_suc k p rs false e)

-- a record whose place is among them, and is no other's, takes it
free_one : (f : ℕ → ℕ) (k p : ℕ) (r : List ℕ) (rs : List (List ℕ)) → p ≤ place_of r → place_of r < p + k → place_in (place_of r) rs ≡ false → f (place_of r) + weight f (free_from k p (r ∷ rs)) ≡ weight f (free_from k p rs)
unfolding weight
free_one f zero p r rs h j e = absurd (omega arith)
free_one f (suc k) p r rs h j e = go (λ l m. free_one f k (suc p) r rs l m e) (eqb p (place_of r)) refl (place_in p rs) refl
  where
    more : (a b x y : ℕ) → a + x ≡ y → a + (b + x) ≡ b + y
    more a b x y h = omega arith

    go : (suc p ≤ place_of r → place_of r < suc p + k → f (place_of r) + weight f (free_from k (suc p) (r ∷ rs)) ≡ weight f (free_from k (suc p) rs)) → (t : Bool) → eqb p (place_of r) ≡ t → (u : Bool) → place_in p rs ≡ u → f (place_of r) + weight f (free_from (suc k) p (r ∷ rs)) ≡ weight f (free_from (suc k) p rs)
    go ih true q u v =
        let same : p ≡ place_of r = eqb-true p (place_of r) q in
        ap (λ (l : List ℕ). f (place_of r) + weight f l) (free_suc k p (r ∷ rs) true (place_cons p r rs ∙ ap (λ (b : Bool). b || place_in p rs) q) ∙ free_outside k (suc p) r rs (omega arith))
        ∙ ap (λ (x : ℕ). f x + weight f (free_from k (suc p) rs)) (sym same)
        ∙ sym (ap (weight f) (free_suc k p rs false (ap (λ (x : ℕ). place_in x rs) same ∙ e)))
    go ih false q true v =
        let apart : p ≡ place_of r → ⊥ = eqb-false p (place_of r) q in
        ap (λ (l : List ℕ). f (place_of r) + weight f l) (free_suc k p (r ∷ rs) true (place_cons p r rs ∙ ap (λ (b : Bool). b || place_in p rs) q ∙ v))
        ∙ ih (omega arith) (omega arith)
        ∙ sym (ap (weight f) (free_suc k p rs true v))
    go ih false q false v =
        let apart : p ≡ place_of r → ⊥ = eqb-false p (place_of r) q in
        ap (λ (l : List ℕ). f (place_of r) + weight f l) (free_suc k p (r ∷ rs) false (place_cons p r rs ∙ ap (λ (b : Bool). b || place_in p rs) q ∙ v))
        ∙ more (f (place_of r)) (f p) _ _ (ih (omega arith) (omega arith))
        ∙ sym (ap (weight f) (free_suc k p rs false v))

free_total : (f : ℕ → ℕ) (n : ℕ) (rs : List (List ℕ)) → outside n rs ≡ false → doubled rs ≡ false → weight f (free_from n 0 rs) + places_weight f rs ≡ weight f (free_from n 0 [])
unfolding places_weight outside doubled
free_total f n [] o d = add-zero _
free_total f n (r ∷ rs) o d =
    let inside = leb-false n (place_of r) (or_false (leb n (place_of r)) (outside n rs) o).0 in
    let one = free_one f n 0 r rs (omega arith) (omega arith) (or_false (place_in (place_of r) rs) (doubled rs) d).0 in
    let rest = free_total f n rs (or_false (leb n (place_of r)) (outside n rs) o).1 (or_false (place_in (place_of r) rs) (doubled rs) d).1 in
    omega arith

-- each weighs 1: their number
counted : (ps : List ℕ) → weight (λ p. 1) ps ≡ length ps
unfolding weight
counted [] = refl
counted (p ∷ ps) = let ih = counted ps in omega arith

places_counted : (rs : List (List ℕ)) → places_weight (λ p. 1) rs ≡ length rs
unfolding places_weight
places_counted [] = refl
places_counted (r ∷ rs) = let ih = places_counted rs in omega arith

-- with no records all places are free
free_all : (k p : ℕ) → length (free_from k p []) ≡ k
free_all zero p = ap length (free_zero p [])
free_all (suc k) p = ap length (free_suc k p [] false (no_place p)) ∙ ap suc (free_all k (suc p))

pub free_count : (n : ℕ) (rs : List (List ℕ)) → outside n rs ≡ false → doubled rs ≡ false → length (free_from n 0 rs) + length rs ≡ n
free_count n rs o d =
    let t = free_total (λ p. 1) n rs o d in
    let a = counted (free_from n 0 rs) in
    let b = places_counted rs in
    let c = counted (free_from n 0 []) in
    let e = free_all n 0 in
    omega arith

-- the first free place is one of them, and no record has it
pub free_head : (k p : ℕ) (rs : List (List ℕ)) → 0 < length (free_from k p rs) → (get_or (free_from k p rs) 0 0 < p + k) × (place_in (get_or (free_from k p rs) 0 0) rs ≡ false)
free_head zero p rs h = absurd (omega (arith, ap length (free_zero p rs)))
free_head (suc k) p rs h = go (place_in p rs) refl (free_head k (suc p) rs)
  where
    go : (t : Bool) → place_in p rs ≡ t → (0 < length (free_from k (suc p) rs) → (get_or (free_from k (suc p) rs) 0 0 < suc p + k) × (place_in (get_or (free_from k (suc p) rs) 0 0) rs ≡ false)) → (get_or (free_from (suc k) p rs) 0 0 < p + suc k) × (place_in (get_or (free_from (suc k) p rs) 0 0) rs ≡ false)
    go true e ih =
        let s : free_from (suc k) p rs ≡ free_from k (suc p) rs = free_suc k p rs true e in
        let i = ih (subst (λ (l : List ℕ). 0 < length l) s h) in
        (rw s (omega (arith, i.0)), rw s i.1)
    go false e ih = let s : free_from (suc k) p rs ≡ p ∷ free_from k (suc p) rs = free_suc k p rs false e in (rw s (omega arith), rw s e)

-- ---- each weighs its number: where no place lies past the number n of records, one up to n is free, and the sum tells which
sum_below : ℕ → ℕ
sum_below zero = 0
sum_below (suc n) = sum_below n + n

all_summed : (k p : ℕ) → weight (λ x. x) (free_from k p []) ≡ k * p + sum_below k
unfolding weight sum_below
all_summed zero p = ap (weight (λ x. x)) (free_zero p []) ∙ omega arith
all_summed (suc k) p =
    let ih = all_summed k (suc p) in
    ap (weight (λ x. x)) (free_suc k p [] false (no_place p)) ∙ omega arith

doubled_sum : (n : ℕ) → sum_below (suc n) + sum_below (suc n) ≡ n * (n + 1)
unfolding sum_below
doubled_sum zero = refl
doubled_sum (suc n) = let ih = doubled_sum n in omega arith

places_summed : (rs : List (List ℕ)) → places_weight (λ x. x) rs ≡ place_sum rs
unfolding places_weight place_sum
places_summed [] = refl
places_summed (r ∷ rs) = ap (λ (x : ℕ). place_of r + x) (places_summed rs)

single : (ps : List ℕ) → length ps ≡ 1 → weight (λ x. x) ps ≡ get_or ps 0 0
unfolding weight
single [] e = absurd (omega arith)
single (p ∷ []) e = add-zero p
single (p ∷ q ∷ ps) e = absurd (omega arith)

-- however many places there are, the lowest free one is the same
lowest_same : (j k p : ℕ) (rs : List (List ℕ)) → 0 < length (free_from j p rs) → 0 < length (free_from k p rs) → get_or (free_from j p rs) 0 0 ≡ get_or (free_from k p rs) 0 0
lowest_same zero k p rs h l = absurd (omega (arith, ap length (free_zero p rs)))
lowest_same (suc j) zero p rs h l = absurd (omega (arith, ap length (free_zero p rs)))
lowest_same (suc j) (suc k) p rs h l = go (place_in p rs) refl (lowest_same j k (suc p) rs)
  where
    go : (t : Bool) → place_in p rs ≡ t → (0 < length (free_from j (suc p) rs) → 0 < length (free_from k (suc p) rs) → get_or (free_from j (suc p) rs) 0 0 ≡ get_or (free_from k (suc p) rs) 0 0) → get_or (free_from (suc j) p rs) 0 0 ≡ get_or (free_from (suc k) p rs) 0 0
    go true e ih = rw (free_suc j p rs true e, free_suc k p rs true e) (ih (rw (free_suc j p rs true e) at h) (rw (free_suc k p rs true e) at l))
    go false e ih = rw (free_suc j p rs false e, free_suc k p rs false e)

free_summed : (places n : ℕ) (rs : List (List ℕ)) → length rs ≡ n → outside (suc n) rs ≡ false → doubled rs ≡ false → 0 < length (free_from places 0 rs) → get_or (free_from places 0 rs) 0 0 + place_sum rs ≡ n * (n + 1) / 2
free_summed places n rs l w d some =
    let one : length (free_from (suc n) 0 rs) ≡ 1 = let c = free_count (suc n) rs w d in omega arith in
    let same = lowest_same places (suc n) 0 rs some (omega arith) in
    let t = free_total (λ x. x) (suc n) rs w d in
    let a = single (free_from (suc n) 0 rs) one in
    let b = places_summed rs in
    let c = all_summed (suc n) 0 in
    let e = doubled_sum n in
    omega arith

-- ---- the loops that sum
sum_cons : (last n : ℕ) (r : List ℕ) (rs : List (List ℕ)) → sum_from last n (r ∷ rs) ≡ cond (ltb last (place_of r)) None (sum_from last (n + place_of r) rs)
unfolding sum_from outside place_sum
sum_cons last n r rs = go (ltb last (place_of r)) refl
  where
    grouped : (a b c : ℕ) → a + (b + c) ≡ (a + b) + c
    grouped a b c = omega arith

    go : (t : Bool) → ltb last (place_of r) ≡ t → cond (leb (suc last) (place_of r) || outside (suc last) rs) None (Some (n + (place_of r + place_sum rs))) ≡ cond t None (cond (outside (suc last) rs) None (Some (n + place_of r + place_sum rs)))
    go true e = rw (le-leb (suc last) (place_of r) (ltb-true last (place_of r) e))
    go false e = rw (lt-leb (suc last) (place_of r) (suc_lt (ltb-false last (place_of r) e)), grouped n (place_of r) (place_sum rs))
      where
        suc_lt : {a b : ℕ} → a ≤ b → a < suc b
        suc_lt h = omega arith

pub sum_none : (last n : ℕ) {rs : List (List ℕ)} → rs ≡ [] → Some n ≡ sum_from last n rs
unfolding sum_from outside place_sum
sum_none last n e = sym (ap (sum_from last n) e ∙ ap Some (add-zero n))

sum_found : (last n : ℕ) (rs : List (List ℕ)) {r : Option ℕ} → r ≡ sum_from last 0 rs → r ≡ Some n → (outside (suc last) rs ≡ false) × (n ≡ place_sum rs)
unfolding sum_from
sum_found last n rs p q = go (outside (suc last) rs) refl (sym q ∙ p)
  where
    go : (t : Bool) → outside (suc last) rs ≡ t → Some n ≡ cond (outside (suc last) rs) None (Some (0 + place_sum rs)) → (outside (suc last) rs ≡ false) × (n ≡ place_sum rs)
    go true e h = let z : ◌≡◌ {A = ℕ} 0 1 = cc in absurd (omega arith)
    go false e h = (e, cc (zero-add (place_sum rs)))

pub sum_frees : (places count n : ℕ) (s : List (List ℕ)) {r : Option ℕ} → count ≤ length s → 0 < length (free_from places 0 (take count s)) → doubled (take count s) ≡ false → r ≡ sum_from count 0 (take count s) → r ≡ Some n
    → get_or (free_from places 0 (take count s)) 0 0 + n ≡ count * (count + 1) / 2
sum_frees places count n s h some d p q =
    let t = sum_found count n (take count s) p q in
    ap (λ (x : ℕ). get_or (free_from places 0 (take count s)) 0 0 + x) t.1 ∙ free_summed places count (take count s) (length-take-le count s h) t.0 d some

-- the first of four tests that is true, or none
some_of : {A : Type 0} (x y : A) (a b c d : Bool) → ((a || b) || (c || d)) ≡ true → cond a x (cond b x (cond c x (cond d x y))) ≡ x
some_of x y true b c d h = refl
some_of x y false true c d h = refl
some_of x y false false true d h = refl
some_of x y false false false true h = refl
some_of x y false false false false h = absurd (true≢false (sym h))

none_of : {A : Type 0} (x y : A) (a b c d : Bool) → ((a || b) || (c || d)) ≡ false → cond a x (cond b x (cond c x (cond d x y))) ≡ y
none_of x y true b c d h = absurd (true≢false h)
none_of x y false true c d h = absurd (true≢false h)
none_of x y false false true d h = absurd (true≢false h)
none_of x y false false false true h = absurd (true≢false h)
none_of x y false false false false h = refl

pub none_past : (count p q u v : ℕ) → ((ltb count p || ltb count q) || (ltb count u || ltb count v)) ≡ false → (p ≤ count) × (q ≤ count) × (u ≤ count) × (v ≤ count)
none_past count p q u v t =
    let a = or_false (ltb count p || ltb count q) (ltb count u || ltb count v) t in
    let b = or_false (ltb count p) (ltb count q) a.0 in
    let c = or_false (ltb count u) (ltb count v) a.1 in
    (ltb-false count p b.0, ltb-false count q b.1, ltb-false count u c.0, ltb-false count v c.1)

module _ (s : List (List ℕ)) (count : ℕ) (high : count ≤ length s) where
  abbrev pub place_at : ℕ → ℕ
  place_at i = place_of (get_or s i [])

  -- n more than the sum from the i-th record on
  abbrev left : ℕ → ℕ → Option ℕ
  left n i = sum_from count n (drop i (take count s))

  sum_at : (n i : ℕ) {p : ℕ} → i < count → p ≡ place_at i → left n i ≡ cond (ltb count p) None (left (n + p) (i + 1))
  sum_at n i h e = ap (sum_from count n) (rest_cons [] count i s h high) ∙ sum_cons count n (get_or s i []) (drop (i + 1) (take count s)) ∙ ap (λ (p : ℕ). cond (ltb count p) None (left (n + p) (i + 1))) (sym e)

  pub sum_past : (n i : ℕ) {p : ℕ} → i < count → p ≡ place_at i → count < p → None ≡ left n i
  sum_past n i {p} h e l = sym (sum_at n i h e ∙ ap (λ (b : Bool). cond b None (left (n + p) (i + 1))) (lt-ltb count p l))

  pub sum_next : (n i : ℕ) {p : ℕ} → i < count → p ≡ place_at i → p ≤ count → left (n + p) (i + 1) ≡ left n i
  sum_next n i {p} h e l = sym (sum_at n i h e ∙ ap (λ (b : Bool). cond b None (left (n + p) (i + 1))) (le-ltb count p l))

  -- four at a time
  module _ (i : ℕ) {p q u v : ℕ} (room : 4 ≤ count - i) (at_p : p ≡ place_at i) (at-q : q ≡ place_at (i + 1)) (at-u : u ≡ place_at (i + 2)) (at-v : v ≡ place_at (i + 3)) where
    abbrev one_past : Bool
    one_past = (ltb count p || ltb count q) || (ltb count u || ltb count v)

    sum_four : (n : ℕ) → left n i ≡ cond (ltb count p) None (cond (ltb count q) None (cond (ltb count u) None (cond (ltb count v) None (left (n + p + q + u + v) (i + 4)))))
    sum_four n =
        sum_at n i (omega arith) at_p
        ∙ ap (λ (x : Option ℕ). cond (ltb count p) None x)
        (sum_at (n + p) (i + 1) (omega arith) at-q ∙ ap (λ (j : ℕ). cond (ltb count q) None (left (n + p + q) j)) (add_assoc i 1 1)
        ∙ ap (λ (x : Option ℕ). cond (ltb count q) None x)
        (sum_at (n + p + q) (i + 2) (omega arith) at-u ∙ ap (λ (j : ℕ). cond (ltb count u) None (left (n + p + q + u) j)) (add_assoc i 2 1)
        ∙ ap (λ (x : Option ℕ). cond (ltb count u) None x)
        (sum_at (n + p + q + u) (i + 3) (omega arith) at-v ∙ ap (λ (j : ℕ). cond (ltb count v) None (left (n + p + q + u + v) j)) (add_assoc i 3 1))))

    pub four_past : (n : ℕ) → one_past ≡ true → None ≡ left n i
    four_past n t = sym (sum_four n ∙ some_of None (left (n + p + q + u + v) (i + 4)) (ltb count p) (ltb count q) (ltb count u) (ltb count v) t)

    pub four_next : (a b c d : ℕ) → one_past ≡ false → left ((a + p) + (b + q) + ((c + u) + (d + v))) (i + 4) ≡ left (a + b + (c + d)) i
    four_next a b c d t = let n = a + b + (c + d) in ap (λ (x : ℕ). left x (i + 4)) (grouped a b c d p q u v) ∙ sym (sum_four n ∙ none_of None (left (n + p + q + u + v) (i + 4)) (ltb count p) (ltb count q) (ltb count u) (ltb count v) t)
      where
        grouped : (a b c d p q u v : ℕ) → (a + p) + (b + q) + ((c + u) + (d + v)) ≡ a + b + (c + d) + p + q + u + v
        grouped a b c d p q u v = omega arith
