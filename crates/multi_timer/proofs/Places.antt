-- The slices after a change at a place that a search found.
use Rattle.std.specs.Prelude.{Err, Ok, Result, None, Some}
use Rattle.std.proofs.Common.{◌≡◌, ℕ, zero, suc, ◌+◌, ◌-◌, ◌<◌, ◌≤◌, max, List, [], ◌∷◌, ◌++◌, length, get_or, take, drop, set, replicate, sym, refl, ap, ◌∙◌, subst, ap₂, append_assoc, le_of_suc-le-suc, le_of_lt, add-one, arith, length-append, length-drop, length-set, take-append-drop, length-take-le, get_or-take, take-take, drop-drop}
use native.Mathlib.Nat.{sub-zero, suc-sub-suc}
use lib.Seq.{set-append_left}
use borrow.Rule.Slice.PartMut.{put_mid, Post-is}
use Rattle.octets.proofs.Laws.{tail_is, tail_back}
use Rattle.multi_timer.specs.Map.{entries_of, lookup, put, remove}
use Rattle.multi_timer.specs.Internal.{search_in, inserted_at, removed_at, cleared_in}
use Rattle.multi_timer.specs.MultiTimer.{replaced}
use Rattle.multi_timer.proofs.Verdicts.{Good}
use Rattle.multi_timer.proofs.Sorted.{PutIs, put_is, RemoveIs, remove_is, LookupIs, lookup_is, length_keys}

-- ---- n entries that give way to as many, one more, one fewer, or to fewer
module _ (new old : List ℕ) (n : ℕ) where
  pub replaced_fewer : length new ≤ n → replaced new n old ≡ new ++ (replicate (n - length new) 0 ++ drop n old)
  unfolding replaced
  replaced_fewer h = ap (λ (m : ℕ). new ++ (replicate (n - length new) 0 ++ drop m old)) (largest (length new) h)
    where
      largest : (m : ℕ) → m ≤ n → max n m ≡ n
      largest m h = omega arith

  pub replaced_same : length new ≡ n → replaced new n old ≡ new ++ drop n old
  replaced_same e = replaced_fewer (fewer e) ∙ ap (λ (m : ℕ). new ++ (replicate m 0 ++ drop n old)) (no_more e)
    where
      fewer : length new ≡ n → length new ≤ n
      fewer e = omega arith

      no_more : length new ≡ n → n - length new ≡ 0
      no_more e = omega arith

  pub replaced_more : length new ≡ suc n → replaced new n old ≡ new ++ drop (suc n) old
  unfolding replaced
  replaced_more e = ap₂ (λ (k m : ℕ). new ++ (replicate k 0 ++ drop m old)) (no_more (length new) e) (largest (length new) e)
    where
      no_more : (m : ℕ) → m ≡ suc n → n - m ≡ 0
      no_more m e = omega arith

      largest : (m : ℕ) → m ≡ suc n → max n m ≡ suc n
      largest m e = omega arith

  pub replaced_less : suc (length new) ≡ n → replaced new n old ≡ new ++ 0 ∷ drop n old
  replaced_less e = replaced_fewer (fewer e) ∙ ap (λ (m : ℕ). new ++ (replicate m 0 ++ drop n old)) (one_more e)
    where
      fewer : suc (length new) ≡ n → length new ≤ n
      fewer e = omega arith

      one_more : suc (length new) ≡ n → n - length new ≡ 1
      one_more e = omega arith

-- ---- lists
pub drop_take : (p n : ℕ) (xs : List ℕ) → p ≤ n → drop p (take n xs) ≡ take (n - p) (drop p xs)
drop_take zero n xs h = ap (λ (m : ℕ). take m xs) (sym (sub-zero n))
drop_take (suc p) zero xs h = absurd (omega arith)
drop_take (suc p) (suc n) [] h = go (suc n - suc p)
  where
    go : (m : ℕ) → ◌≡◌ {A = List ℕ} [] (take m [])
    go zero = refl
    go (suc m) = refl
drop_take (suc p) (suc n) (x ∷ xs) h = drop_take p n xs (le_of_suc-le-suc h) ∙ ap (λ (m : ℕ). take m (drop p xs)) (sym (suc-sub-suc n p))

inserted_list : (v p n : ℕ) (xs : List ℕ) → p ≤ n → (take p (take n xs) ++ v ∷ drop p (take n xs)) ++ drop (suc n) xs ≡ inserted_at p n v xs
inserted_list v p n xs h =
    append_assoc (take p (take n xs)) (v ∷ drop p (take n xs)) (drop (suc n) xs)
    ∙ ap₂ (λ (a b : List ℕ). a ++ (v ∷ (b ++ drop (suc n) xs))) (take-take p n xs h) (drop_take p n xs h)
    ∙ ap (λ (c : List ℕ). take p xs ++ (v ∷ (take (n - p) (drop p xs) ++ c))) (sym (drop-drop (suc (n - p)) p xs ∙ ap (λ (m : ℕ). drop m xs) (sum p n h)))
  where
    sum : (p n : ℕ) → p ≤ n → p + suc (n - p) ≡ suc n
    sum p n h = omega arith

removed_list : (p n : ℕ) (xs : List ℕ) → p < n → (take p (take n xs) ++ drop (suc p) (take n xs)) ++ 0 ∷ drop n xs ≡ removed_at p n xs
removed_list p n xs h =
    append_assoc (take p (take n xs)) (drop (suc p) (take n xs)) (0 ∷ drop n xs)
    ∙ ap₂ (λ (a b : List ℕ). a ++ (b ++ (0 ∷ drop n xs))) (take-take p n xs (le_of_lt h)) (ap (λ (m : ℕ). drop m (take n xs)) (sym (add-one p)) ∙ sym (drop-drop 1 p (take n xs)) ∙ ap (drop 1) (drop_take p n xs (le_of_lt h)))
    ∙ ap (λ (c : List ℕ). take p xs ++ (drop 1 (take (n - p) (drop p xs)) ++ (0 ∷ c))) (sym (drop-drop (n - p) p xs ∙ ap (λ (m : ℕ). drop m xs) (sum p n h)))
  where
    sum : (p n : ℕ) → p < n → p + (n - p) ≡ n
    sum p n h = omega arith

-- ---- a lent part that comes back
module _ (i : ℕ) (xs : List ℕ) where
  pub inserted_back : (n v : ℕ) (ys : List ℕ) → i ≤ length xs → ys ≡ v ∷ (take (n - i) (take (length xs - i) (drop i xs)) ++ drop (suc (n - i)) (take (length xs - i) (drop i xs))) → put_mid i (length xs - i) xs ys ≡ inserted_at i n v xs
  inserted_back n v ys h e = tail_back i xs ys h ∙ ap (λ (t : List ℕ). take i xs ++ t) (e ∙ ap (λ (t : List ℕ). v ∷ (take (n - i) t ++ drop (suc (n - i)) t)) (tail_is i xs))

  pub removed_back : (n : ℕ) (ys : List ℕ) → i ≤ length xs → ys ≡ drop 1 (take (n - i) (take (length xs - i) (drop i xs))) ++ (0 ∷ drop (n - i) (take (length xs - i) (drop i xs))) → put_mid i (length xs - i) xs ys ≡ removed_at i n xs
  removed_back n ys h e = tail_back i xs ys h ∙ ap (λ (t : List ℕ). take i xs ++ t) (e ∙ ap (λ (t : List ℕ). drop 1 (take (n - i) t) ++ (0 ∷ drop (n - i) t)) (tail_is i xs))

  pub cleared_back : (n : ℕ) (ys : List ℕ) → i ≤ n → n ≤ length xs → ys ≡ replicate (length (take (n - i) (drop i xs))) 0 → put_mid i (n - i) xs ys ≡ cleared_in i n xs
  cleared_back n ys h l e =
      ap₂ (λ (a b : List ℕ). take i xs ++ (a ++ b)) (e ∙ ap (λ (m : ℕ). replicate m 0) (length-take-le (n - i) (drop i xs) (subst (λ (m : ℕ). n - i ≤ m) (sym (length-drop i xs)) (fits (length xs) l)))) (Post-is i n xs h)
    where
      fits : (m : ℕ) → n ≤ m → n - i ≤ m - i
      fits m l = omega arith

-- ---- the first n give way to themselves, to themselves with one set, to one more, to one fewer
module _ (n : ℕ) (xs new : List ℕ) (l : n ≤ length xs) where
  size : length (take n xs) ≡ n
  size = length-take-le n xs l

  pub same_is : new ≡ take n xs → replaced new n xs ≡ xs
  same_is e = ap (λ (t : List ℕ). replaced t n xs) e ∙ replaced_same (take n xs) xs n size ∙ take-append-drop n xs

  module _ (p v : ℕ) where
    pub set_is : p < n → new ≡ set (take n xs) p v → replaced new n xs ≡ set xs p v
    set_is h e =
        ap (λ (t : List ℕ). replaced t n xs) e ∙ replaced_same (set (take n xs) p v) xs n (length-set (take n xs) p v ∙ size)
        ∙ sym (set-append_left (take n xs) (drop n xs) p v (subst (λ (m : ℕ). p < m) (sym size) h)) ∙ ap (λ (t : List ℕ). set t p v) (take-append-drop n xs)

    pub inserted_length : p ≤ n → new ≡ take p (take n xs) ++ v ∷ drop p (take n xs) → length new ≡ n + 1
    inserted_length h e = let q : length new ≡ length (take p (take n xs)) + suc (length (drop p (take n xs))) = ap length e ∙ length-append (take p (take n xs)) (v ∷ drop p (take n xs)) in let a : length (take p (take n xs)) ≡ p = length-take-le p (take n xs) (subst (λ (m : ℕ). p ≤ m) (sym size) h) in let b = length-drop p (take n xs) in let s = size in omega arith

    pub inserted_is : p ≤ n → new ≡ take p (take n xs) ++ v ∷ drop p (take n xs) → replaced new n xs ≡ inserted_at p n v xs
    inserted_is h e = replaced_more new xs n (inserted_length h e ∙ add-one n) ∙ ap (λ (t : List ℕ). t ++ drop (suc n) xs) e ∙ inserted_list v p n xs h

  module _ (p : ℕ) (h : p < n) (e : new ≡ take p (take n xs) ++ drop (suc p) (take n xs)) where
    pub removed_length : suc (length new) ≡ n
    removed_length = let q : length new ≡ length (take p (take n xs)) + length (drop (suc p) (take n xs)) = ap length e ∙ length-append (take p (take n xs)) (drop (suc p) (take n xs)) in let a : length (take p (take n xs)) ≡ p = length-take-le p (take n xs) (subst (λ (m : ℕ). p ≤ m) (sym size) (le_of_lt h)) in let b = length-drop (suc p) (take n xs) in let s = size in omega arith

    pub removed_is : replaced new n xs ≡ removed_at p n xs
    removed_is = replaced_less new xs n removed_length ∙ ap (λ (t : List ℕ). t ++ 0 ∷ drop n xs) e ∙ removed_list p n xs h

-- ---- the set's entries, by what a search found
module _ (n : ℕ) (ks ds : List ℕ) (g : Good n ks ds) where
  abbrev K : List ℕ
  K = take n ks

  abbrev D : List ℕ
  D = take n ds

  pub within : n ≤ length ds
  within = subst (λ (m : ℕ). n ≤ m) g.same g.within

  pub one_length : length K ≡ length D
  one_length = length-take-le n ks g.within ∙ sym (length-take-le n ds within)

  module _ (key : ℕ) where
    pub put_found : (d : ℕ) (q : Result ℕ ℕ) → q ≡ search_in key K → PutIs q K D key d (put key d (entries_of K D))
    put_found d q e = subst (λ (z : Result ℕ ℕ). PutIs z K D key d (put key d (entries_of K D))) (sym e) (put_is key d K D one_length)

    pub remove_found : (q : Result ℕ ℕ) → q ≡ search_in key K → RemoveIs q K D (remove key (entries_of K D))
    remove_found q e = subst (λ (z : Result ℕ ℕ). RemoveIs z K D (remove key (entries_of K D))) (sym e) (remove_is key 0 K D one_length g.sorted)

    pub lookup_found : (q : Result ℕ ℕ) → q ≡ search_in key K → LookupIs q D (lookup key (entries_of K D))
    lookup_found q e = subst (λ (z : Result ℕ ℕ). LookupIs z D (lookup key (entries_of K D))) (sym e) (lookup_is key 0 K D one_length g.sorted)

    module _ (p : ℕ) where
      pub at_bound : Ok p ≡ search_in key K → p < n
      at_bound e = subst (λ (m : ℕ). p < m) (length-take-le n ds within) (lookup_found (Ok p) e).0

      pub at_lookup : Ok p ≡ search_in key K → lookup key (entries_of K D) ≡ Some (get_or ds p 0)
      at_lookup e = (lookup_found (Ok p) e).1 ∙ ap Some (get_or-take n ds p 0 (at_bound e))

      pub absent_lookup : Err p ≡ search_in key K → lookup key (entries_of K D) ≡ None
      absent_lookup e = lookup_found (Err p) e

      pub absent_bound : Err p ≡ search_in key K → p ≤ n
      absent_bound e = subst (λ (m : ℕ). p ≤ m) (length-take-le n ks g.within) (put_found 0 (Err p) e).bound

      pub kept_count : (d : ℕ) → Ok p ≡ search_in key K → length (put key d (entries_of K D)) ≡ n
      kept_count d e = sym (length_keys _) ∙ ap length (put_found d (Ok p) e).keys ∙ length-take-le n ks g.within

      pub inserted_count : (d : ℕ) → Err p ≡ search_in key K → length (put key d (entries_of K D)) ≡ n + 1
      inserted_count d e = sym (length_keys _) ∙ inserted_length n ks _ g.within p key (absent_bound e) (put_found d (Err p) e).keys

      pub removed_count : Ok p ≡ search_in key K → length (remove key (entries_of K D)) ≡ n - 1
      removed_count e = sym (length_keys _) ∙ fewer (removed_length n ks _ g.within p (at_bound e) (remove_found (Ok p) e).keys)
        where
          fewer : {m : ℕ} → suc m ≡ n → m ≡ n - 1
          fewer e = omega arith

      pub same_count : Err p ≡ search_in key K → length (remove key (entries_of K D)) ≡ n
      same_count e = sym (length_keys _) ∙ ap length (remove_found (Err p) e).keys ∙ length-take-le n ks g.within
