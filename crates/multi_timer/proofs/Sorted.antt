-- Entries by ascending key, and the place that a search finds in them.
use Rattle.std.specs.Prelude.{Err, Ok, Result, Option, None, Some}
use Rattle.std.proofs.Common.{◌≡◌, ℕ, zero, suc, ◌<◌, ◌≤◌, Bool, true, false, cond, not, eqb, ltb, leb, List, [], ◌∷◌, ◌++◌, length, get_or, take, drop, set, sym, refl, ap, ◌∙◌, subst, ap₂, suc-le-suc, zero-le, le_of_suc-le-suc, not-suc-le-zero, zero-lt-suc, one-add, arith, ltb-false, ltb-true, lt-ltb, ne_eqb, eqb-true, leb-true}
use mathlib.Core.Bool.{and-eq-true_iff}
use native.Mathlib.Nat.{suc_inj}
use borrow.Author.Tests.{eqb-false}
use Rattle.multi_timer.specs.Map.{Entry, entry, entries_of, keys_of, deadlines_of, ascending_from, lookup, keep, put, other}
use Rattle.multi_timer.specs.Internal.{search_in, later}

-- the first key is at least low, and the others are above it
pub first_key : (low k : ℕ) (ks : List ℕ) → ascending_from low (k ∷ ks) ≡ true → low ≤ k
unfolding ascending_from
first_key low k ks e = leb-true low k ((and-eq-true_iff (leb low k) (ascending_from (suc k) ks)).0 e).0

pub other_keys : (low k : ℕ) (ks : List ℕ) → ascending_from low (k ∷ ks) ≡ true → ascending_from (suc k) ks ≡ true
unfolding ascending_from
other_keys low k ks e = ((and-eq-true_iff (leb low k) (ascending_from (suc k) ks)).0 e).1

-- no key is below the first
pub at_least : (low p : ℕ) (ks : List ℕ) → ascending_from low ks ≡ true → p < length ks → low ≤ get_or ks p 0
at_least low p [] a h = absurd (not-suc-le-zero h)
at_least low zero (k ∷ ks) a h = first_key low k ks a
at_least low (suc p) (k ∷ ks) a h = more (first_key low k ks a) (at_least (suc k) p ks (other_keys low k ks a) (le_of_suc-le-suc h))
  where
    more : {k m : ℕ} → low ≤ k → suc k ≤ m → low ≤ m
    more f g = omega arith

-- a search may start behind any key that is below the one looked for
pub search_behind : (key low p : ℕ) (ks : List ℕ) → ascending_from low ks ≡ true → p < length ks → get_or ks p 0 < key → later (suc p) (search_in key (drop (suc p) ks)) ≡ search_in key ks
unfolding search_in
search_behind key low p [] a h l = absurd (not-suc-le-zero h)
search_behind key low zero (k ∷ ks) a h l = simp (lt-ltb k key l)
search_behind key low (suc p) (k ∷ ks) a h l =
    let b = other_keys low k ks a in
    let i = le_of_suc-le-suc h in
    simp (lt-ltb k key (below (at_least (suc k) p ks b i) l)) (later_suc (suc p) (search_in key (drop (suc p) ks)) ∙ ap (later 1) (search_behind key (suc k) p ks b i l))
  where
    below : {m : ℕ} → suc k ≤ m → m < key → k < key
    below f g = omega arith

    later_suc : (n : ℕ) (q : Result ℕ ℕ) → later (suc n) q ≡ later 1 (later n q)
    later_suc n (Ok q) = ap Ok (omega arith)
    later_suc n (Err q) = ap Err (omega arith)

-- ---- the entries of two lists of one length
pub keys_entries : (ks ds : List ℕ) → length ks ≡ length ds → keys_of (entries_of ks ds) ≡ ks
unfolding entries_of keys_of
keys_entries [] ds e = refl
keys_entries (k ∷ ks) [] e = absurd (omega arith)
keys_entries (k ∷ ks) (d ∷ ds) e = ap (λ (t : List ℕ). k ∷ t) (keys_entries ks ds (suc_inj e))

entries_ascending : (low : ℕ) (ks ds : List ℕ) → length ks ≡ length ds → ascending_from low ks ≡ true → ascending_from low (keys_of (entries_of ks ds)) ≡ true
entries_ascending low ks ds e a = ap (ascending_from low) (keys_entries ks ds e) ∙ a

pub deadlines_entries : (ks ds : List ℕ) → length ks ≡ length ds → deadlines_of (entries_of ks ds) ≡ ds
unfolding entries_of deadlines_of
deadlines_entries [] [] e = refl
deadlines_entries [] (d ∷ ds) e = absurd (omega arith)
deadlines_entries (k ∷ ks) [] e = absurd (omega arith)
deadlines_entries (k ∷ ks) (d ∷ ds) e = ap (λ (t : List ℕ). d ∷ t) (deadlines_entries ks ds (suc_inj e))

pub length_keys : (es : List Entry) → length (keys_of es) ≡ length es
unfolding keys_of
length_keys [] = refl
length_keys (e ∷ es) = ap suc (length_keys es)

pub length_deadlines : (es : List Entry) → length (deadlines_of es) ≡ length es
unfolding deadlines_of
length_deadlines [] = refl
length_deadlines (e ∷ es) = ap suc (length_deadlines es)

-- ---- a key below all others
below_others : (q low k : ℕ) → q < low → low ≤ k → (k ≡ q → ⊥) × (q < suc k)
below_others q low k h f = (λ e. apart e, omega arith)
  where
    apart : k ≡ q → ⊥
    apart e = omega arith

module _ (q : ℕ) where
  pub lookup_below : (low : ℕ) (es : List Entry) → ascending_from low (keys_of es) ≡ true → q < low → lookup q es ≡ None
  unfolding keys_of lookup
  lookup_below low [] a h = refl
  lookup_below low (e ∷ es) a h =
      let b = below_others q low e.key h (first_key low e.key (keys_of es) a) in
      rw (ne_eqb e.key q b.0) (lookup_below (suc e.key) es (other_keys low e.key (keys_of es) a) b.1)

  remove_below : (low : ℕ) (es : List Entry) → ascending_from low (keys_of es) ≡ true → q < low → keep (other q) es ≡ es
  unfolding keys_of keep
  remove_below low [] a h = refl
  remove_below low (e ∷ es) a h =
      let b = below_others q low e.key h (first_key low e.key (keys_of es) a) in
      rw (ne_eqb e.key q b.0) (ap (λ (t : List Entry). e ∷ t) (remove_below (suc e.key) es (other_keys low e.key (keys_of es) a) b.1))

-- ---- what a place says of the three operations
pub record Kept (p : ℕ) (ks ds : List ℕ) (d : ℕ) (es : List Entry) : Type 0 where
  pub bound : p < length ks
  pub keys : keys_of es ≡ ks
  pub deadlines : deadlines_of es ≡ set ds p d

pub record Inserted (p : ℕ) (ks ds : List ℕ) (key d : ℕ) (es : List Entry) : Type 0 where
  pub bound : p ≤ length ks
  pub keys : keys_of es ≡ take p ks ++ key ∷ drop p ks
  pub deadlines : deadlines_of es ≡ take p ds ++ d ∷ drop p ds

abbrev pub PutIs : Result ℕ ℕ → List ℕ → List ℕ → ℕ → ℕ → List Entry → Type 0
PutIs (Ok p) ks ds key d es = Kept p ks ds d es
PutIs (Err p) ks ds key d es = Inserted p ks ds key d es

put_later : (q : Result ℕ ℕ) (k d0 : ℕ) (ks ds : List ℕ) (key d : ℕ) (es : List Entry) → PutIs q ks ds key d es → PutIs (later 1 q) (k ∷ ks) (d0 ∷ ds) key d (entry k d0 ∷ es)
unfolding keys_of deadlines_of
put_later (Ok p) k d0 ks ds key d es r =
    subst (λ (n : ℕ). Kept n (k ∷ ks) (d0 ∷ ds) d (entry k d0 ∷ es)) (sym (one-add p))
    (record { bound = suc-le-suc r.bound; keys = ap (λ (t : List ℕ). k ∷ t) r.keys; deadlines = ap (λ (t : List ℕ). d0 ∷ t) r.deadlines })
put_later (Err p) k d0 ks ds key d es r =
    subst (λ (n : ℕ). Inserted n (k ∷ ks) (d0 ∷ ds) key d (entry k d0 ∷ es)) (sym (one-add p))
    (record { bound = suc-le-suc r.bound; keys = ap (λ (t : List ℕ). k ∷ t) r.keys; deadlines = ap (λ (t : List ℕ). d0 ∷ t) r.deadlines })

pub put_is : (key d : ℕ) (ks ds : List ℕ) → length ks ≡ length ds → PutIs (search_in key ks) ks ds key d (put key d (entries_of ks ds))
unfolding entries_of put search_in keys_of deadlines_of
put_is key d [] [] e = record { bound = zero-le; keys = refl; deadlines = refl }
put_is key d [] (y ∷ ds) e = absurd (omega arith)
put_is key d (k ∷ ks) [] e = absurd (omega arith)
put_is key d (k ∷ ks) (y ∷ ds) e = go (ltb k key) (eqb k key) (eqb-true k key) (put_is key d ks ds (suc_inj e))
  where
    go : (a b : Bool) → (b ≡ true → k ≡ key) → PutIs (search_in key ks) ks ds key d (put key d (entries_of ks ds))
        → PutIs (cond {A = Result ℕ ℕ} a (later 1 (search_in key ks)) (cond {A = Result ℕ ℕ} b (Ok 0) (Err 0))) (k ∷ ks) (y ∷ ds) key d (cond a (entry k y ∷ put key d (entries_of ks ds)) (cond b (entry key d ∷ entries_of ks ds) (entry key d ∷ entry k y ∷ entries_of ks ds)))
    go true b h r = put_later (search_in key ks) k y ks ds key d (put key d (entries_of ks ds)) r
    go false true h r =
        record {
          bound = zero-lt-suc (length ks);
          keys = ap₂ (λ (x : ℕ) (t : List ℕ). x ∷ t) (sym (h refl)) (keys_entries ks ds (suc_inj e));
          deadlines = ap (λ (t : List ℕ). d ∷ t) (deadlines_entries ks ds (suc_inj e));
        }
    go false false h r =
        record {
          bound = zero-le;
          keys = ap (λ (t : List ℕ). key ∷ k ∷ t) (keys_entries ks ds (suc_inj e));
          deadlines = ap (λ (t : List ℕ). d ∷ y ∷ t) (deadlines_entries ks ds (suc_inj e));
        }

pub record Dropped (p : ℕ) (ks ds : List ℕ) (es : List Entry) : Type 0 where
  pub bound : p < length ks
  pub keys : keys_of es ≡ take p ks ++ drop (suc p) ks
  pub deadlines : deadlines_of es ≡ take p ds ++ drop (suc p) ds

pub record Same (ks ds : List ℕ) (es : List Entry) : Type 0 where
  pub keys : keys_of es ≡ ks
  pub deadlines : deadlines_of es ≡ ds

abbrev pub RemoveIs : Result ℕ ℕ → List ℕ → List ℕ → List Entry → Type 0
RemoveIs (Ok p) ks ds es = Dropped p ks ds es
RemoveIs (Err p) ks ds es = Same ks ds es

remove_later : (q : Result ℕ ℕ) (k d0 : ℕ) (ks ds : List ℕ) (es : List Entry) → RemoveIs q ks ds es → RemoveIs (later 1 q) (k ∷ ks) (d0 ∷ ds) (entry k d0 ∷ es)
unfolding keys_of deadlines_of
remove_later (Ok p) k d0 ks ds es r =
    subst (λ (n : ℕ). Dropped n (k ∷ ks) (d0 ∷ ds) (entry k d0 ∷ es)) (sym (one-add p))
    (record { bound = suc-le-suc r.bound; keys = ap (λ (t : List ℕ). k ∷ t) r.keys; deadlines = ap (λ (t : List ℕ). d0 ∷ t) r.deadlines })
remove_later (Err p) k d0 ks ds es r = record { keys = ap (λ (t : List ℕ). k ∷ t) r.keys; deadlines = ap (λ (t : List ℕ). d0 ∷ t) r.deadlines }

pub remove_is : (key low : ℕ) (ks ds : List ℕ) → length ks ≡ length ds → ascending_from low ks ≡ true → RemoveIs (search_in key ks) ks ds (keep (other key) (entries_of ks ds))
unfolding entries_of keep search_in keys_of deadlines_of
remove_is key low [] [] e a = record { keys = refl; deadlines = refl }
remove_is key low [] (y ∷ ds) e a = absurd (omega arith)
remove_is key low (k ∷ ks) [] e a = absurd (omega arith)
remove_is key low (k ∷ ks) (y ∷ ds) e a = go (ltb k key) (eqb k key) (ltb-true k key) (ltb-false k key) (eqb-true k key) (eqb-false k key) (remove_is key (suc k) ks ds (suc_inj e) (other_keys low k ks a))
  where
    behind : ascending_from (suc k) (keys_of (entries_of ks ds)) ≡ true
    behind = entries_ascending (suc k) ks ds (suc_inj e) (other_keys low k ks a)

    go : (a b : Bool) → (a ≡ true → k < key) → (a ≡ false → key ≤ k) → (b ≡ true → k ≡ key) → (b ≡ false → k ≡ key → ⊥) → RemoveIs (search_in key ks) ks ds (keep (other key) (entries_of ks ds))
        → RemoveIs (cond {A = Result ℕ ℕ} a (later 1 (search_in key ks)) (cond {A = Result ℕ ℕ} b (Ok 0) (Err 0))) (k ∷ ks) (y ∷ ds) (cond (not b) (entry k y ∷ keep (other key) (entries_of ks ds)) (keep (other key) (entries_of ks ds)))
    go true true p q r s ih = absurd (apart (p refl) (r refl))
      where
        apart : k < key → k ≡ key → ⊥
        apart h e = omega arith
    go true false p q r s ih = remove_later (search_in key ks) k y ks ds (keep (other key) (entries_of ks ds)) ih
    go false true p q r s ih =
        let f = remove_below key (suc k) (entries_of ks ds) behind (near (r refl)) in
        record {
          bound = zero-lt-suc (length ks);
          keys = ap keys_of f ∙ keys_entries ks ds (suc_inj e);
          deadlines = ap deadlines_of f ∙ deadlines_entries ks ds (suc_inj e);
        }
      where
        near : k ≡ key → key < suc k
        near e = omega arith
    go false false p q r s ih =
        let f = remove_below key (suc k) (entries_of ks ds) behind (near (q refl)) in
        record {
          keys = ap (λ (t : List ℕ). k ∷ t) (ap keys_of f ∙ keys_entries ks ds (suc_inj e));
          deadlines = ap (λ (t : List ℕ). y ∷ t) (ap deadlines_of f ∙ deadlines_entries ks ds (suc_inj e));
        }
      where
        near : key ≤ k → key < suc k
        near h = omega arith

abbrev pub LookupIs : Result ℕ ℕ → List ℕ → Option ℕ → Type 0
LookupIs (Ok p) ds o = (p < length ds) × (o ≡ Some (get_or ds p 0))
LookupIs (Err p) ds o = o ≡ None

lookup_later : (q : Result ℕ ℕ) (y : ℕ) (ds : List ℕ) (o : Option ℕ) → LookupIs q ds o → LookupIs (later 1 q) (y ∷ ds) o
lookup_later (Ok p) y ds o r = subst (λ (n : ℕ). (n < suc (length ds)) × (o ≡ Some (get_or (y ∷ ds) n 0))) (sym (one-add p)) (suc-le-suc r.0, r.1)
lookup_later (Err p) y ds o r = r

pub lookup_is : (key low : ℕ) (ks ds : List ℕ) → length ks ≡ length ds → ascending_from low ks ≡ true → LookupIs (search_in key ks) ds (lookup key (entries_of ks ds))
unfolding entries_of lookup search_in
lookup_is key low [] ds e a = refl
lookup_is key low (k ∷ ks) [] e a = absurd (omega arith)
lookup_is key low (k ∷ ks) (y ∷ ds) e a = go (ltb k key) (eqb k key) (ltb-true k key) (ltb-false k key) (eqb-true k key) (lookup_is key (suc k) ks ds (suc_inj e) (other_keys low k ks a))
  where
    go : (a b : Bool) → (a ≡ true → k < key) → (a ≡ false → key ≤ k) → (b ≡ true → k ≡ key) → LookupIs (search_in key ks) ds (lookup key (entries_of ks ds))
        → LookupIs (cond {A = Result ℕ ℕ} a (later 1 (search_in key ks)) (cond {A = Result ℕ ℕ} b (Ok 0) (Err 0))) (y ∷ ds) (cond b (Some y) (lookup key (entries_of ks ds)))
    go true true p q r ih = absurd (apart (p refl) (r refl))
      where
        apart : k < key → k ≡ key → ⊥
        apart h e = omega arith
    go true false p q r ih = lookup_later (search_in key ks) y ds (lookup key (entries_of ks ds)) ih
    go false true p q r ih = (zero-lt-suc (length ds), refl)
    go false false p q r ih = lookup_below key (suc k) (entries_of ks ds) (entries_ascending (suc k) ks ds (suc_inj e) (other_keys low k ks a)) (near (q refl))
      where
        near : key ≤ k → key < suc k
        near h = omega arith
