-- The due keys from a key on. A walk by a cursor over the expired keys meets those that were due when it began: a start or a cancel of
-- a key below the cursor changes nothing from the cursor on.
use Rattle.std.specs.Prelude.{Err, None, Ok, Result, Some}
use Rattle.std.proofs.Common.{◌≡◌, ℕ, suc, ◌+◌, ◌<◌, ◌≤◌, Bool, true, false, cond, not, ◌&&◌, eqb, ltb, leb, List, [], ◌∷◌, length, get_or, take, drop, sym, refl, ap, ◌∙◌, le_trans, le_of_eq, le_refl, one-add, arith, ltb-false, ltb-true, eq-eqb, ne_eqb, eqb-true, le-leb, leb-true}
use native.Mathlib.Nat.{suc_inj}
use borrow.Author.Tests.{lt-leb}
use Rattle.multi_timer.specs.Map.{Entry, entry, entries_of, keys_of, ascending_from, lookup, keep, put, remove, due, due_keys, due_not_below, due_keys_from, due_at}
use Rattle.multi_timer.specs.Internal.{search_in, later, index_of, next_due}
use Rattle.multi_timer.specs.MultiTimer.{broken, next_key, next_expired_unchecked}
use Rattle.multi_timer.specs.declared.MultiTimer.{MultiTimer}
use Rattle.multi_timer.proofs.Verdicts.{good_of}
use Rattle.multi_timer.proofs.Lists.{rest_cons, rest_nil}
use Rattle.multi_timer.proofs.Sorted.{first_key, other_keys, keys_entries}
use Rattle.multi_timer.proofs.Map.{ascending_cons, keep_ascending}
use Rattle.multi_timer.proofs.Changes.{used_one_length}

-- ---- an entry before others
kept_head : (p : Entry → Bool) (e : Entry) (xs ys : List Entry) → keys_of (keep p xs) ≡ keys_of (keep p ys) → keys_of (keep p (e ∷ xs)) ≡ keys_of (keep p (e ∷ ys))
unfolding keep keys_of
kept_head p e xs ys h = go (p e)
  where
    go : (b : Bool) → keys_of (cond b (e ∷ keep p xs) (keep p xs)) ≡ keys_of (cond b (e ∷ keep p ys) (keep p ys))
    go true = ap (λ (t : List ℕ). e.key ∷ t) h
    go false = h

below_head : (from now : ℕ) (e : Entry) (es : List Entry) → e.key < from → due_keys_from from now (e ∷ es) ≡ due_keys_from from now es
unfolding keep
below_head from now e es h = rw (lt-leb from e.key h)

-- ---- a start or a cancel of a key below
pub due_from_put : (key d from now : ℕ) (es : List Entry) → key < from → due_keys_from from now (put key d es) ≡ due_keys_from from now es
unfolding put
due_from_put key d from now [] h = below_head from now (entry key d) [] h
due_from_put key d from now (e ∷ es) h = go (ltb e.key key) (eqb e.key key) (eqb-true _ _) (due_from_put key d from now es h)
  where
    equal : e.key ≡ key → e.key < from
    equal g = omega arith

    go : (a b : Bool) → (b ≡ true → e.key ≡ key) → due_keys_from from now (put key d es) ≡ due_keys_from from now es
        → due_keys_from from now (cond a (e ∷ put key d es) (cond b (entry key d ∷ es) (entry key d ∷ e ∷ es))) ≡ due_keys_from from now (e ∷ es)
    go true b g i = kept_head (due_not_below from now) e (put key d es) es i
    go false true g i = below_head from now (entry key d) es h ∙ sym (below_head from now e es (equal (g refl)))
    go false false g i = below_head from now (entry key d) (e ∷ es) h

pub due_from_remove : (key from now : ℕ) (es : List Entry) → key < from → due_keys_from from now (remove key es) ≡ due_keys_from from now es
unfolding keep
due_from_remove key from now [] h = refl
due_from_remove key from now (e ∷ es) h = go (eqb e.key key) (eqb-true _ _) (due_from_remove key from now es h)
  where
    equal : e.key ≡ key → e.key < from
    equal g = omega arith

    go : (b : Bool) → (b ≡ true → e.key ≡ key) → due_keys_from from now (remove key es) ≡ due_keys_from from now es → due_keys_from from now (cond (not b) (e ∷ remove key es) (remove key es)) ≡ due_keys_from from now (e ∷ es)
    go true g i = i ∙ sym (below_head from now e es (equal (g refl)))
    go false g i = kept_head (due_not_below from now) e (remove key es) es i

-- ---- no key is below
pub due_from_all : (from now low : ℕ) (es : List Entry) → ascending_from low (keys_of es) ≡ true → from ≤ low → due_keys_from from now es ≡ due_keys now es
unfolding keys_of keep
due_from_all from now low [] a h = refl
due_from_all from now low (e ∷ es) a h =
    let f = first_key low e.key (keys_of es) a in
    rw (le-leb from e.key (le_trans h f)) (go (leb e.deadline now) (due_from_all from now (suc e.key) es (other_keys low e.key (keys_of es) a) (more f)))
  where
    more : low ≤ e.key → from ≤ suc e.key
    more f = omega arith

    go : (b : Bool) → due_keys_from from now es ≡ due_keys now es → keys_of (cond b (e ∷ keep (due_not_below from now) es) (keep (due_not_below from now) es)) ≡ keys_of (cond b (e ∷ keep (due now) es) (keep (due now) es))
    go true i = ap (λ (t : List ℕ). e.key ∷ t) i
    go false i = i

-- ---- behind the first of them stand the others
behind : (x : Entry) (es : List Entry) (from now low k : ℕ) (ks : List ℕ) → ascending_from low (x.key ∷ keys_of es) ≡ true → due_keys_from from now es ≡ k ∷ ks → suc x.key ≤ k
behind x es from now low k ks a h = first_key (suc x.key) k ks (ap (ascending_from (suc x.key)) (sym h) ∙ keep_ascending (due_not_below from now) (suc x.key) es (other_keys low x.key (keys_of es) a))

pub due_from_next : (from now low k : ℕ) (ks : List ℕ) (es : List Entry) → ascending_from low (keys_of es) ≡ true → due_keys_from from now es ≡ k ∷ ks → due_keys_from (suc k) now es ≡ ks
unfolding keys_of keep
due_from_next from now low k ks [] a e = let z : ◌≡◌ {A = ℕ} 0 1 = cc in absurd (omega arith)
due_from_next from now low k ks (x ∷ es) a e = go (leb from x.key) (leb x.deadline now) (leb-true _ _) e (due_from_next from now (suc x.key) k ks es (other_keys low x.key (keys_of es) a))
  where
    r : ascending_from (suc x.key) (keys_of es) ≡ true
    r = other_keys low x.key (keys_of es) a

    same_key : (m : ℕ) (ms : List ℕ) → m ∷ ms ≡ k ∷ ks → m ≡ k
    same_key m ms h = cc

    same_keys : (m : ℕ) (ms : List ℕ) → m ∷ ms ≡ k ∷ ks → ms ≡ ks
    same_keys m ms h = cc

    here : x.key ≡ k → x.key < suc k
    here h = omega arith

    more : from ≤ x.key → from ≤ suc x.key
    more h = omega arith

    above : suc x.key ≤ k → x.key < suc k
    above h = omega arith

    near : x.key ≡ k → suc k ≤ suc x.key
    near h = omega arith

    later_on : due_keys_from from now es ≡ k ∷ ks → due_keys_from (suc k) now es ≡ ks → due_keys_from (suc k) now (x ∷ es) ≡ ks
    later_on h i = below_head (suc k) now x es (above (behind x es from now low k ks a h)) ∙ i

    go : (b d : Bool) → (b ≡ true → from ≤ x.key) → keys_of (cond (b && d) (x ∷ keep (due_not_below from now) es) (keep (due_not_below from now) es)) ≡ k ∷ ks
        → (due_keys_from from now es ≡ k ∷ ks → due_keys_from (suc k) now es ≡ ks) → due_keys_from (suc k) now (x ∷ es) ≡ ks
    go true true f h i =
        let s = same_key x.key (due_keys_from from now es) h in
        below_head (suc k) now x es (here s)
        ∙ due_from_all (suc k) now (suc x.key) es r (near s)
        ∙ sym (due_from_all from now (suc x.key) es r (more (f refl)))
        ∙ same_keys x.key (due_keys_from from now es) h
    go true false f h i = later_on h (i h)
    go false d f h i = later_on h (i h)

-- the same behind the key that was met, after it is started again or cancelled
module _ (from now low k : ℕ) (ks : List ℕ) (es : List Entry) (a : ascending_from low (keys_of es) ≡ true) (e : due_keys_from from now es ≡ k ∷ ks) where
  pub due_after_put : (d : ℕ) → due_keys_from (suc k) now (put k d es) ≡ ks
  due_after_put d = due_from_put k d (suc k) now es (le_refl (suc k)) ∙ due_from_next from now low k ks es a e

  pub due_after_remove : due_keys_from (suc k) now (remove k es) ≡ ks
  due_after_remove = due_from_remove k (suc k) now es (le_refl (suc k)) ∙ due_from_next from now low k ks es a e

-- the first of them is not below the cursor, and its timer has expired
pub due_from_first : (from now low k : ℕ) (ks : List ℕ) (es : List Entry) → ascending_from low (keys_of es) ≡ true → due_keys_from from now es ≡ k ∷ ks → (from ≤ k) × (due_at now (lookup k es) ≡ true)
unfolding keys_of keep lookup
due_from_first from now low k ks [] a e = let z : ◌≡◌ {A = ℕ} 0 1 = cc in absurd (omega arith)
due_from_first from now low k ks (x ∷ es) a e = go (leb from x.key) (leb x.deadline now) refl refl e (due_from_first from now (suc x.key) k ks es (other_keys low x.key (keys_of es) a))
  where
    same_key : (m : ℕ) (ms : List ℕ) → m ∷ ms ≡ k ∷ ks → m ≡ k
    same_key m ms h = cc

    apart : suc x.key ≤ k → x.key ≡ k → ⊥
    apart h g = omega arith

    later_on : due_keys_from from now es ≡ k ∷ ks → (from ≤ k) × (due_at now (lookup k es) ≡ true) → (from ≤ k) × (due_at now (cond (eqb x.key k) (Some x.deadline) (lookup k es)) ≡ true)
    later_on h i = (i.0, rw (ne_eqb x.key k (apart (behind x es from now low k ks a h))) i.1)

    go : (b d : Bool) → leb from x.key ≡ b → leb x.deadline now ≡ d → keys_of (cond (b && d) (x ∷ keep (due_not_below from now) es) (keep (due_not_below from now) es)) ≡ k ∷ ks
        → (due_keys_from from now es ≡ k ∷ ks → (from ≤ k) × (due_at now (lookup k es) ≡ true)) → (from ≤ k) × (due_at now (cond (eqb x.key k) (Some x.deadline) (lookup k es)) ≡ true)
    go true true f g h i =
        let s = same_key x.key (due_keys_from from now es) h in
        (le_trans (leb-true from x.key f) (le_of_eq s), rw (eq-eqb x.key k s) g)
    go true false f g h i = later_on h (i h)
    go false d f g h i = later_on h (i h)

-- what an answer says of the due keys
pub next_key_lem : (ks : List ℕ) (k : ℕ) → next_key ks ≡ Some k → (rest : List ℕ) × (ks ≡ k ∷ rest)
next_key_lem [] k e = let z : ◌≡◌ {A = ℕ} 0 1 = cc in absurd (omega arith)
next_key_lem (x ∷ ks) k e = (ks, ap (λ (y : ℕ). y ∷ ks) (same e))
  where
    same : Some x ≡ Some k → x ≡ k
    same e = cc

pub next_nothing : (ks : List ℕ) → next_key ks ≡ None → ks ≡ []
next_nothing [] e = refl
next_nothing (x ∷ ks) e = let z : ◌≡◌ {A = ℕ} 0 1 = cc in absurd (omega arith)

-- ---- where a search for the cursor stops, the due keys begin
index_later : (p : Result ℕ ℕ) → index_of (later 1 p) ≡ suc (index_of p)
index_later (Ok p) = one-add p
index_later (Err p) = one-add p

due_from_position : (from now low : ℕ) (ks ds : List ℕ) → length ks ≡ length ds → ascending_from low ks ≡ true
    → due_keys_from from now (entries_of ks ds) ≡ due_keys now (entries_of (drop (index_of (search_in from ks)) ks) (drop (index_of (search_in from ks)) ds))
unfolding entries_of search_in ascending_from keys_of
due_from_position from now low [] [] e a = due_from_all from now from [] refl (le_refl from)
due_from_position from now low [] (d ∷ ds) e a = absurd (omega arith)
due_from_position from now low (k ∷ ks) [] e a = absurd (omega arith)
due_from_position from now low (k ∷ ks) (d ∷ ds) e a = go (ltb k from) (eqb k from) (ltb-true _ _) (ltb-false _ _) (due_from_position from now (suc k) ks ds (suc_inj e) (other_keys low k ks a))
  where
    Stands : Result ℕ ℕ → Type 0
    Stands p = due_keys_from from now (entry k d ∷ entries_of ks ds) ≡ due_keys now (entries_of (drop (index_of p) (k ∷ ks)) (drop (index_of p) (d ∷ ds)))

    first : from ≤ k → due_keys_from from now (entry k d ∷ entries_of ks ds) ≡ due_keys now (entry k d ∷ entries_of ks ds)
    first h = due_from_all from now k (entries_of (k ∷ ks) (d ∷ ds)) (ap (ascending_from k) (keys_entries (k ∷ ks) (d ∷ ds) e) ∙ ascending_cons k k ks (le_refl k) (other_keys low k ks a)) h

    go : (b c : Bool) → (b ≡ true → k < from) → (b ≡ false → from ≤ k) → due_keys_from from now (entries_of ks ds) ≡ due_keys now (entries_of (drop (index_of (search_in from ks)) ks) (drop (index_of (search_in from ks)) ds))
        → Stands (cond {A = Result ℕ ℕ} b (later 1 (search_in from ks)) (cond {A = Result ℕ ℕ} c (Ok 0) (Err 0)))
    go true c f g i = rw (index_later (search_in from ks)) (below_head from now (entry k d) (entries_of ks ds) (f refl) ∙ i)
    go false true f g i = first (g refl)
    go false false f g i = first (g refl)

pub next_expired : (t : MultiTimer) (ks ds : List ℕ) (from now : ℕ) → broken t.count ks ds ≡ false → next_due t.count (index_of (search_in from (take t.count ks))) now ks ds ≡ next_expired_unchecked t ks ds from now
next_expired t ks ds from now b = ap next_key (sym (due_from_position from now 0 (take t.count ks) (take t.count ds) (used_one_length t ks ds b) (good_of t.count ks ds b).sorted))

-- ---- one turn of the loop
module _ (n i now : ℕ) (ks ds : List ℕ) (hk : n ≤ length ks) (hd : n ≤ length ds) where
  pub next_found : i < n → get_or ds i 0 ≤ now → Some (get_or ks i 0) ≡ next_due n i now ks ds
  unfolding entries_of keep keys_of
  next_found h d = rw (rest_cons n i ks h hk, rest_cons n i ds h hd, le-leb _ _ d)

  pub next_step : i < n → now < get_or ds i 0 → next_due n (i + 1) now ks ds ≡ next_due n i now ks ds
  unfolding entries_of keep
  next_step h d = rw (rest_cons n i ks h hk, rest_cons n i ds h hd, lt-leb _ _ d)

  pub next_end : n ≤ i → None ≡ next_due n i now ks ds
  unfolding entries_of keep keys_of
  next_end h = rw (rest_nil n i ks h hk)
