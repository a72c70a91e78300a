-- The timer set as a finite map from keys to deadlines.
use Rattle.std.specs.Prelude.{Option, None, Some}
use Rattle.std.proofs.Common.{◌≡◌, ℕ, suc, ◌+◌, ◌-◌, ◌<◌, ◌≤◌, min, max, Bool, true, false, cond, not, ◌&&◌, ◌||◌, eqb, ltb, leb, List, [], ◌∷◌, ◌++◌, length, take, drop, replicate, sym, refl, ap, ◌∙◌, subst, ap₂, true≢false, le_trans, le_antisymm, arith, length-append, length-drop, ltb-false, ltb-true, le-ltb, eq-eqb, ne_eqb, eqb-true, le-leb, leb-false, leb-true}
use lib.ListN.{length-replicate}
use lib.Seq.{take-append_seam}
use borrow.Author.Tests.{eqb-false, lt-leb}
use Rattle.bounds.specs.Bounds.{max_time}
use Rattle.multi_timer.specs.Map.{Entry, entry, entries_of, keys_of, deadlines_of, ascending_from, ascending, lookup, keep, put, other, remove, due, pending, is_some, due_at, still_set, min_of, earliest, contains, IsMin}
use Rattle.multi_timer.specs.MultiTimer.{replaced, broken, any_late}
use Rattle.multi_timer.proofs.Sorted.{first_key, other_keys, length_keys, length_deadlines, lookup_below}

differ : (a b c : ℕ) → a ≡ b → a ≡ c → (b ≡ c → ⊥) → ⊥
differ a b c p q n = n (cc)

meet : (a b c : ℕ) → a ≡ c → b ≡ c → (a ≡ b → ⊥) → ⊥
meet a b c p q n = n (cc)

-- ---- lookup after a start and a cancel
pub lookup_put : (k d q : ℕ) (es : List Entry) → lookup q (put k d es) ≡ cond (eqb k q) (Some d) (lookup q es)
unfolding lookup put
lookup_put k d q [] = refl
lookup_put k d q (e ∷ es) = go (ltb e.key k) (eqb e.key k) (eqb e.key q) (eqb k q) refl refl refl refl (lookup_put k d q es)
  where
    go : (a b x y : Bool) → ltb e.key k ≡ a → eqb e.key k ≡ b → eqb e.key q ≡ x → eqb k q ≡ y → lookup q (put k d es) ≡ cond (eqb k q) (Some d) (lookup q es)
        → lookup q (cond a (e ∷ put k d es) (cond b (entry k d ∷ es) (entry k d ∷ e ∷ es))) ≡ cond (eqb k q) (Some d) (cond (eqb e.key q) (Some e.deadline) (lookup q es))
    go true b true true p r s u h = absurd (apart (ltb-true _ _ p) (eqb-true _ _ s) (eqb-true _ _ u))
      where
        apart : e.key < k → e.key ≡ q → k ≡ q → ⊥
        apart l m n = omega arith
    go true b true false p r s u h = simp (s, u)
    go true b false y p r s u h = simp s h
    go false true x true p r s u h = simp u
    go false true true false p r s u h = absurd (differ e.key k q (eqb-true _ _ r) (eqb-true _ _ s) (eqb-false _ _ u))
    go false true false false p r s u h = simp (s, u)
    go false false x y p r s u h = refl

pub lookup_remove : (k q : ℕ) (es : List Entry) → lookup q (remove k es) ≡ cond (eqb k q) None (lookup q es)
unfolding lookup keep
lookup_remove k q [] = go (eqb k q)
  where
    go : (y : Bool) → ◌≡◌ {A = Option ℕ} None (cond y None None)
    go true = refl
    go false = refl
lookup_remove k q (e ∷ es) = go (eqb e.key k) (eqb e.key q) (eqb k q) refl refl refl (lookup_remove k q es)
  where
    go : (b x y : Bool) → eqb e.key k ≡ b → eqb e.key q ≡ x → eqb k q ≡ y → lookup q (keep (other k) es) ≡ cond (eqb k q) None (lookup q es)
        → lookup q (cond (not b) (e ∷ keep (other k) es) (keep (other k) es)) ≡ cond (eqb k q) None (cond (eqb e.key q) (Some e.deadline) (lookup q es))
    go true true true r s u h = simp u (h ∙ simp u)
    go true true false r s u h = absurd (differ e.key k q (eqb-true _ _ r) (eqb-true _ _ s) (eqb-false _ _ u))
    go true false true r s u h = simp u (h ∙ simp u)
    go true false false r s u h = simp (s, u) (h ∙ simp u)
    go false true true r s u h = absurd (meet e.key k q (eqb-true _ _ s) (eqb-true _ _ u) (eqb-false _ _ r))
    go false true false r s u h = simp (s, u)
    go false false y r s u h = simp s h

-- ---- keys ascending
pub ascending_cons : (low k : ℕ) (ks : List ℕ) → low ≤ k → ascending_from (suc k) ks ≡ true → ascending_from low (k ∷ ks) ≡ true
unfolding ascending_from
ascending_cons low k ks h e = simp (le-leb _ _ h) e

ascending_lower : (low low' : ℕ) (ks : List ℕ) → low' ≤ low → ascending_from low ks ≡ true → ascending_from low' ks ≡ true
unfolding ascending_from
ascending_lower low low' [] h e = refl
ascending_lower low low' (k ∷ ks) h e = ascending_cons low' k ks (le_trans h (first_key low k ks e)) (other_keys low k ks e)

pub keep_ascending : (p : Entry → Bool) (low : ℕ) (es : List Entry) → ascending_from low (keys_of es) ≡ true → ascending_from low (keys_of (keep p es)) ≡ true
unfolding keys_of keep
keep_ascending p low [] a = a
keep_ascending p low (e ∷ es) a = go (p e) (keep_ascending p (suc e.key) es (other_keys low e.key (keys_of es) a))
  where
    f : low ≤ e.key
    f = first_key low e.key (keys_of es) a

    go : (b : Bool) → ascending_from (suc e.key) (keys_of (keep p es)) ≡ true → ascending_from low (keys_of (cond b (e ∷ keep p es) (keep p es))) ≡ true
    go true h = ascending_cons low e.key (keys_of (keep p es)) f h
    go false h = ascending_lower (suc e.key) low (keys_of (keep p es)) (le_trans f (more e.key)) h
      where
        more : (n : ℕ) → n ≤ suc n
        more n = omega arith

pub put_ascending : (k d low : ℕ) (es : List Entry) → low ≤ k → ascending_from low (keys_of es) ≡ true → ascending_from low (keys_of (put k d es)) ≡ true
unfolding keys_of put ascending_from
put_ascending k d low [] h a = simp (le-leb _ _ h)
put_ascending k d low (e ∷ es) h a = go (ltb e.key k) (eqb e.key k) (ltb-true _ _) (ltb-false _ _) (eqb-true _ _) (eqb-false _ _) (λ (l : suc e.key ≤ k). put_ascending k d (suc e.key) es l (other_keys low e.key (keys_of es) a))
  where
    f : low ≤ e.key
    f = first_key low e.key (keys_of es) a

    r : ascending_from (suc e.key) (keys_of es) ≡ true
    r = other_keys low e.key (keys_of es) a

    go : (x y : Bool) → (x ≡ true → e.key < k) → (x ≡ false → k ≤ e.key) → (y ≡ true → e.key ≡ k) → (y ≡ false → e.key ≡ k → ⊥) → (suc e.key ≤ k → ascending_from (suc e.key) (keys_of (put k d es)) ≡ true)
        → ascending_from low (keys_of (cond x (e ∷ put k d es) (cond y (entry k d ∷ es) (entry k d ∷ e ∷ es)))) ≡ true
    go true y p q s u i = ascending_cons low e.key (keys_of (put k d es)) f (i (p refl))
    go false true p q s u i = ascending_cons low k (keys_of es) h (subst (λ (z : ℕ). ascending_from (suc z) (keys_of es) ≡ true) (s refl) r)
    go false false p q s u i = ascending_cons low k (e.key ∷ keys_of es) h (ascending_cons (suc k) e.key (keys_of es) (near (q refl) (u refl)) r)
      where
        near : k ≤ e.key → (e.key ≡ k → ⊥) → suc k ≤ e.key
        near g n = omega arith

-- ---- lookup after a pop: what is not due stays
pub lookup_pop : (now q low : ℕ) (es : List Entry) → ascending_from low (keys_of es) ≡ true → lookup q (keep (pending now) es) ≡ still_set now (lookup q es)
unfolding keys_of keep lookup
lookup_pop now q low [] a = refl
lookup_pop now q low (e ∷ es) a = go (ltb now e.deadline) (eqb e.key q) refl refl (lookup_pop now q (suc e.key) es (other_keys low e.key (keys_of es) a))
  where
    go : (b x : Bool) → ltb now e.deadline ≡ b → eqb e.key q ≡ x → lookup q (keep (pending now) es) ≡ still_set now (lookup q es)
        → lookup q (cond b (e ∷ keep (pending now) es) (keep (pending now) es)) ≡ still_set now (cond (eqb e.key q) (Some e.deadline) (lookup q es))
    go true true r s h = simp (s, r)
    go true false r s h = simp s h
    go false true r s h = simp (s, r) (lookup_below q (suc e.key) (keep (pending now) es) (keep_ascending (pending now) (suc e.key) es (other_keys low e.key (keys_of es) a)) (near (eqb-true _ _ s)))
      where
        near : e.key ≡ q → q < suc e.key
        near g = omega arith
    go false false r s h = simp s h

-- a key is expired exactly when it is set and a pop takes it
pub expired_popped : (now : ℕ) (o : Option ℕ) → due_at now o ≡ (is_some o && not (is_some (still_set now o)))
expired_popped now None = refl
expired_popped now (Some d) = go (ltb now d) refl
  where
    go : (t : Bool) → ltb now d ≡ t → leb d now ≡ not (is_some (cond (ltb now d) (Some d) None))
    go true e = simp (e, lt-leb d now (ltb-true now d e))
    go false e = simp (e, le-leb d now (ltb-false now d e))

-- the keys that a pop takes
pub due_taken : (now q low : ℕ) (es : List Entry) → ascending_from low (keys_of es) ≡ true → contains q (keys_of (keep (due now) es)) ≡ due_at now (lookup q es)
unfolding keys_of keep lookup contains
due_taken now q low [] a = refl
due_taken now q low (e ∷ es) a = go (leb e.deadline now) (eqb e.key q) refl refl (due_taken now q (suc e.key) es r)
  where
    r : ascending_from (suc e.key) (keys_of es) ≡ true
    r = other_keys low e.key (keys_of es) a

    near : e.key ≡ q → q < suc e.key
    near g = omega arith

    go : (b x : Bool) → leb e.deadline now ≡ b → eqb e.key q ≡ x → contains q (keys_of (keep (due now) es)) ≡ due_at now (lookup q es)
        → contains q (keys_of (cond b (e ∷ keep (due now) es) (keep (due now) es))) ≡ due_at now (cond (eqb e.key q) (Some e.deadline) (lookup q es))
    go true true d s h = simp (s, d)
    go true false d s h = simp s h
    go false true d s h = simp (s, d) (h ∙ ap (due_at now) (lookup_below q (suc e.key) es r (near (eqb-true _ _ s))))
    go false false d s h = simp s h

-- ---- the earliest is the min of the deadlines of a key
none_some : (o : Option ℕ) (d : ℕ) → o ≡ None → o ≡ Some d → ⊥
none_some o d p q = let z : ◌≡◌ {A = ℕ} 0 1 = cc in omega arith

some_one : (d x : ℕ) → Some d ≡ Some x → d ≡ x
some_one d x p = cc

earliest_more : (low : ℕ) (e : Entry) (es : List Entry) → ascending_from low (keys_of (e ∷ es)) ≡ true → IsMin (λ (key : ℕ). lookup key es) (earliest (deadlines_of es)) → IsMin (λ (key : ℕ). lookup key (e ∷ es)) (earliest (deadlines_of (e ∷ es)))
unfolding keys_of deadlines_of lookup earliest min_of
earliest_more low e [] a h = ((e.key, rw (eq-eqb e.key e.key refl)), λ key x. each (eqb e.key key) x)
  where
    each : (b : Bool) (x : ℕ) → cond b (Some e.deadline) None ≡ Some x → e.deadline ≤ x
    each true x p = let q = some_one e.deadline x p in omega arith
    each false x p = absurd (none_some None x refl p)
earliest_more low e (f ∷ es) a h = (found (leb e.deadline m) (leb-true _ _) (leb-false _ _), λ key x. each (eqb e.key key) key x)
  where
    m : ℕ
    m = min_of f.deadline (deadlines_of es)

    left : (a b : ℕ) → a ≤ b → a ≡ min a b
    left a b h = omega arith

    right : (a b : ℕ) → b < a → b ≡ min a b
    right a b h = omega arith

    later : (key : ℕ) → lookup key (f ∷ es) ≡ Some m → e.key ≡ key → ⊥
    later key p q = none_some (lookup key (f ∷ es)) m (lookup_below key (suc e.key) (f ∷ es) (other_keys low e.key (keys_of (f ∷ es)) a) (omega arith)) p

    found : (b : Bool) → (b ≡ true → e.deadline ≤ m) → (b ≡ false → m < e.deadline) → (key : ℕ) × (lookup key (e ∷ f ∷ es) ≡ Some (min e.deadline m))
    found true p q = (e.key, rw (eq-eqb e.key e.key refl) (ap Some (left e.deadline m (p refl))))
    found false p q = let w = h.0 in (w.0, rw (ne_eqb e.key w.0 (later w.0 w.1)) (w.1 ∙ ap Some (right e.deadline m (q refl))))

    each : (b : Bool) (key x : ℕ) → cond b (Some e.deadline) (lookup key (f ∷ es)) ≡ Some x → min e.deadline m ≤ x
    each true key x p = let q = some_one e.deadline x p in omega arith
    each false key x p = let q = h.1 key x p in omega arith

pub earliest_min : (low : ℕ) (es : List Entry) → ascending_from low (keys_of es) ≡ true → IsMin (λ (key : ℕ). lookup key es) (earliest (deadlines_of es))
unfolding keys_of deadlines_of lookup earliest
earliest_min low [] a = λ key. refl
earliest_min low (e ∷ es) a = earliest_more low e es a (earliest_min (suc e.key) es (other_keys low e.key (keys_of es) a))

-- a map has one min at most: so the earliest is none exactly when no key is set
pub min_unique : (map : ℕ → Option ℕ) (o q : Option ℕ) → IsMin map o → IsMin map q → o ≡ q
min_unique map None None h k = refl
min_unique map None (Some e) h k = absurd (none_some (map k.0.0) e (h k.0.0) k.0.1)
min_unique map (Some d) None h k = absurd (none_some (map h.0.0) d (k h.0.0) h.0.1)
min_unique map (Some d) (Some e) h k = ap Some (le_antisymm (h.1 k.0.0 e k.0.1) (k.1 h.0.0 d h.0.1))

-- ---- what the slices hold after a change are the entries of the definition
pub entries_of_both : (es : List Entry) → entries_of (keys_of es) (deadlines_of es) ≡ es
unfolding entries_of keys_of deadlines_of
entries_of_both [] = refl
entries_of_both (e ∷ es) = ap (λ (t : List Entry). e ∷ t) (entries_of_both es)

pub replaced_front : (new : List ℕ) (m n : ℕ) (old : List ℕ) → length new ≡ m → take m (replaced new n old) ≡ new
unfolding replaced
replaced_front new m n old e = ap (λ (k : ℕ). take k (replaced new n old)) (sym e) ∙ take-append_seam new _

pub replaced_used : (es : List Entry) (n : ℕ) (ks ds : List ℕ) → entries_of (take (length es) (replaced (keys_of es) n ks)) (take (length es) (replaced (deadlines_of es) n ds)) ≡ es
replaced_used es n ks ds = ap₂ entries_of (replaced_front (keys_of es) (length es) n ks (length_keys es)) (replaced_front (deadlines_of es) (length es) n ds (length_deadlines es)) ∙ entries_of_both es

pub replaced_length : (xs : List ℕ) (n : ℕ) (old : List ℕ) → n ≤ length old → length xs ≤ length old → length (replaced xs n old) ≡ length old
unfolding replaced
replaced_length xs n old h l =
    let p : length (xs ++ (replicate (n - length xs) 0 ++ drop (max n (length xs)) old)) ≡ length xs + ((n - length xs) + (length old - max n (length xs))) = simp (length-append, length-replicate, length-drop) in
    p ∙ total (length xs) n (length old) h l
  where
    total : (x n m : ℕ) → n ≤ m → x ≤ m → x + ((n - x) + (m - max n x)) ≡ m
    total x n m h l = omega arith

-- a set that holds ascending entries, in slices long enough, passes check 9 of the next call
pub holding_accepted : (es : List Entry) (n : ℕ) (ks ds : List ℕ) → length ks ≡ length ds → n ≤ length ks → length es ≤ length ks → ascending (keys_of es) ≡ true → broken (length es) (replaced (keys_of es) n ks) (replaced (deadlines_of es) n ds) ≡ false
holding_accepted es n ks ds e h l a =
    let lk : length (replaced (keys_of es) n ks) ≡ length ks = replaced_length (keys_of es) n ks h (subst (λ (m : ℕ). m ≤ length ks) (sym (length_keys es)) l) in
    let ld : length (replaced (deadlines_of es) n ds) ≡ length ds = replaced_length (deadlines_of es) n ds (subst (λ (m : ℕ). n ≤ m) e h) (subst (λ (m : ℕ). m ≤ length ds) (sym (length_deadlines es)) (subst (λ (m : ℕ). length es ≤ m) e l)) in
    passes_9 (length es) (replaced (keys_of es) n ks) (replaced (deadlines_of es) n ds) (lk ∙ e ∙ sym ld) (subst (λ (m : ℕ). length es ≤ m) (sym lk) l) (ap ascending (replaced_front (keys_of es) (length es) n ks (length_keys es)) ∙ a)
  where
    passes_9 : (m : ℕ) (xs ys : List ℕ) → length xs ≡ length ys → m ≤ length xs → ascending (take m xs) ≡ true → broken m xs ys ≡ false
    passes_9 m xs ys p q r = simp (eq-eqb _ _ p, le-ltb _ _ q, r)

-- and its deadlines check 10
pub keep_in_time : (p : Entry → Bool) (es : List Entry) → any_late (deadlines_of es) ≡ false → any_late (deadlines_of (keep p es)) ≡ false
unfolding deadlines_of keep any_late
keep_in_time p [] a = a
keep_in_time p (e ∷ es) a = go (p e) (ltb max_time e.deadline) refl a (keep_in_time p es)
  where
    go : (b x : Bool) → ltb max_time e.deadline ≡ x → (x || any_late (deadlines_of es)) ≡ false → (any_late (deadlines_of es) ≡ false → any_late (deadlines_of (keep p es)) ≡ false) → any_late (deadlines_of (cond b (e ∷ keep p es) (keep p es))) ≡ false
    go b true r h i = absurd (true≢false h)
    go true false r h i = simp r (i h)
    go false false r h i = i h

pub put_in_time : (k d : ℕ) (es : List Entry) → d ≤ max_time → any_late (deadlines_of es) ≡ false → any_late (deadlines_of (put k d es)) ≡ false
unfolding deadlines_of put any_late
put_in_time k d [] h a = simp (le-ltb _ _ h)
put_in_time k d (e ∷ es) h a = go (ltb e.key k) (eqb e.key k) (ltb max_time e.deadline) refl a (put_in_time k d es h)
  where
    go : (x y z : Bool) → ltb max_time e.deadline ≡ z → (z || any_late (deadlines_of es)) ≡ false → (any_late (deadlines_of es) ≡ false → any_late (deadlines_of (put k d es)) ≡ false) → any_late (deadlines_of (cond x (e ∷ put k d es) (cond y (entry k d ∷ es) (entry k d ∷ e ∷ es)))) ≡ false
    go x y true r g i = absurd (true≢false g)
    go true y false r g i = simp r (i g)
    go false true false r g i = simp (le-ltb max_time d h) g
    go false false false r g i = simp (le-ltb max_time d h, r) g
