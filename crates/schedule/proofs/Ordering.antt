-- The leaving order, and insertion into a list that is in order.
use mathlib.Core.Path.{◌≡◌, refl, sym, ◌∙◌, ap, subst}
use Prim.Native.Nat.{ℕ, zero, suc, ◌<◌, ◌≤◌}
use native.Mathlib.Omega.{arith}
use mathlib.Core.Bool.{Bool, true, false, cond, not, ◌&&◌, ◌||◌, true≢false, false≢true}
use mathlib.Core.Logic.{◌⊎◌, inl, inr}
use mathlib.Core.List.{List, [], ◌∷◌, ◌++◌}
use lib.ListN.{length, get_or, take, drop}
use lib.Seq.{length-take-le}
use lib.Dec.{ltb}
use borrow.Author.Tests.{ltb-true, ltb-false, lt-ltb, le-ltb}
use Rattle.schedule.specs.Record.{later, after, inserted, ordered_from, time_of, order_of}
use Rattle.schedule.specs.Internal.{index_for}
use Rattle.schedule.specs.Waiting.{All, of_none, of_more}
use Rattle.refusal.proofs.Laws.{or_false}

-- ---- the order, as arithmetic
abbrev pub UpTo : ℕ → ℕ → ℕ → ℕ → Type 0
UpTo t o u p = (t < u) ⊎ ((t ≡ u) × (o ≤ p))

pub up_to : (t o u p : ℕ) → later t o u p ≡ false → UpTo t o u p
up_to t o u p h = go (ltb t u) (ltb u t) refl refl h
  where
    go : (x y : Bool) → ltb t u ≡ x → ltb u t ≡ y → cond x false (cond y true (ltb p o)) ≡ false → UpTo t o u p
    go true y e₁ e₂ h = inl (ltb-true _ _ e₁)
    go false true e₁ e₂ h = absurd (true≢false h)
    go false false e₁ e₂ h = inr (omega (arith, ltb-false t u e₁, ltb-false u t e₂), ltb-false _ _ h)

pub not_later : (t o u p : ℕ) → later t o u p ≡ false → t ≤ u
not_later t o u p h = go (up_to t o u p h)
  where
    go : UpTo t o u p → t ≤ u
    go (inl l) = omega arith
    go (inr (e, l)) = omega arith

pub is_up_to : (t o u p : ℕ) → UpTo t o u p → later t o u p ≡ false
is_up_to t o u p (inl l) = simp (lt-ltb _ _ l)
is_up_to t o u p (inr (e, l)) = simp (le-ltb t u (omega arith), le-ltb u t (omega arith), le-ltb _ _ l)

past : (t o u p : ℕ) → later t o u p ≡ true → UpTo u p t o
past t o u p h = go (ltb t u) (ltb u t) refl refl h
  where
    go : (x y : Bool) → ltb t u ≡ x → ltb u t ≡ y → cond x false (cond y true (ltb p o)) ≡ true → UpTo u p t o
    go true y e₁ e₂ h = absurd (false≢true h)
    go false true e₁ e₂ h = inl (ltb-true _ _ e₂)
    go false false e₁ e₂ h = inr (omega (arith, ltb-false t u e₁, ltb-false u t e₂), omega (arith, ltb-true p o h))

-- what insertion asks of an order
pub record Order {A : Type 0} (aft : A → A → Bool) : Type 0 where
  pub chain : (a b c : A) → aft a b ≡ false → aft b c ≡ false → aft a c ≡ false
  pub asym : (a b : A) → aft a b ≡ true → aft b a ≡ false

-- an order by time and then by number
pub by_key : {A : Type 0} (time order : A → ℕ) → Order (λ (a b : A). later (time a) (order a) (time b) (order b))
by_key {A} time order = record { chain = λ a b c p q. chain (time a) (order a) (time b) (order b) (time c) (order c) (up_to _ _ _ _ p) (up_to _ _ _ _ q); asym = λ a b p. is_up_to (time b) (order b) (time a) (order a) (past (time a) (order a) (time b) (order b) p) }
  where
    chain : (t o u p v q : ℕ) → UpTo t o u p → UpTo u p v q → later t o v q ≡ false
    chain t o u p v q (inl l) (inl m) = is_up_to t o v q (inl (omega arith))
    chain t o u p v q (inl l) (inr (e, m)) = is_up_to t o v q (inl (omega arith))
    chain t o u p v q (inr (e, l)) (inl m) = is_up_to t o v q (inl (omega arith))
    chain t o u p v q (inr (e, l)) (inr (e', m)) = is_up_to t o v q (inr (omega arith, omega arith))

pub records : Order after
records = by_key time_of order_of

-- nothing leaves before what leaves at 0 with number 0
pub least : (u p : ℕ) → later 0 0 u p ≡ false
least u p = go (ltb 0 u) refl
  where
    go : (t : Bool) → ltb 0 u ≡ t → later 0 0 u p ≡ false
    go true e = is_up_to 0 0 u p (inl (ltb-true 0 u e))
    go false e = is_up_to 0 0 u p (inr (omega (arith, ltb-false 0 u e), omega arith))

module _ {A : Type 0} (aft : A → A → Bool) where
  -- the first is not before what stands in front, and what follows is in order
  pub first_of : (p x : A) (xs : List A) → ordered_from aft p (x ∷ xs) ≡ true → (aft p x ≡ false) × (ordered_from aft x xs ≡ true)
  unfolding ordered_from
  first_of p x xs h = go (aft p x) refl h
    where
      go : (t : Bool) → aft p x ≡ t → (not t && ordered_from aft x xs) ≡ true → (aft p x ≡ false) × (ordered_from aft x xs ≡ true)
      go true e h = absurd (false≢true h)
      go false e h = (e, h)

  pub put_first : (p x : A) (xs : List A) → aft p x ≡ false → ordered_from aft x xs ≡ true → ordered_from aft p (x ∷ xs) ≡ true
  unfolding ordered_from
  put_first p x xs e h = ap (λ (t : Bool). not t && ordered_from aft x xs) e ∙ h

  pub none : (p : A) → ordered_from aft p [] ≡ true
  unfolding ordered_from
  none p = refl

  -- ---- insertion
  pub insert_none : (r : A) → inserted aft r [] ≡ r ∷ []
  unfolding inserted
  insert_none r = refl

  pub insert_here : (r p : A) (ps : List A) → aft p r ≡ true → inserted aft r (p ∷ ps) ≡ r ∷ p ∷ ps
  unfolding inserted
  insert_here r p ps e = ap (λ (t : Bool). cond t (r ∷ p ∷ ps) (p ∷ inserted aft r ps)) e

  pub insert_later : (r p : A) (ps : List A) → aft p r ≡ false → inserted aft r (p ∷ ps) ≡ p ∷ inserted aft r ps
  unfolding inserted
  insert_later r p ps e = ap (λ (t : Bool). cond t (r ∷ p ∷ ps) (p ∷ inserted aft r ps)) e

  pub inserted_length : (r : A) (xs : List A) → length (inserted aft r xs) ≡ suc (length xs)
  inserted_length r [] = ap length (insert_none r)
  inserted_length r (x ∷ xs) = go (inserted_length r xs) (aft x r) refl
    where
      go : length (inserted aft r xs) ≡ suc (length xs) → (t : Bool) → aft x r ≡ t → length (inserted aft r (x ∷ xs)) ≡ suc (suc (length xs))
      go ih true a = ap length (insert_here r x xs a)
      go ih false a = ap length (insert_later r x xs a) ∙ ap suc ih

  -- what holds of each, and of the one put in, holds of all
  pub inserted_all_lem : {P : A → Type 0} (r : A) (xs : List A) → P r → All P xs → All P (inserted aft r xs)
  unfolding inserted
  inserted_all_lem r [] h of_none = of_more h of_none
  inserted_all_lem {P} r (x ∷ xs) h (of_more k l) = go (aft x r) (inserted_all_lem r xs h l)
    where
      go : (t : Bool) → All P (inserted aft r xs) → All P (cond t (r ∷ x ∷ xs) (x ∷ inserted aft r xs))
      go true i = of_more h (of_more k l)
      go false i = of_more k i

  -- so a test that is false of each, and of the one put in, is false of all
  module _ (f : A → Bool) (any : List A → Bool) (any_none : any [] ≡ false) (any_more : (x : A) (xs : List A) → any (x ∷ xs) ≡ (f x || any xs)) where
    all_false : (xs : List A) → any xs ≡ false → All (λ x. f x ≡ false) xs
    all_false [] e = of_none
    all_false (x ∷ xs) e = let o = or_false (f x) (any xs) (sym (any_more x xs) ∙ e) in of_more o.0 (all_false xs o.1)

    none_true : (xs : List A) → All (λ x. f x ≡ false) xs → any xs ≡ false
    none_true [] of_none = any_none
    none_true (x ∷ xs) (of_more h k) = any_more x xs ∙ rw (h, none_true xs k)

    pub inserted_false : (r : A) (xs : List A) → f r ≡ false → any xs ≡ false → any (inserted aft r xs) ≡ false
    inserted_false r xs h e = none_true (inserted aft r xs) (inserted_all_lem r xs h (all_false xs e))

  -- ---- where it is put
  for_none : (r : A) → index_for aft r [] ≡ 0
  unfolding index_for
  for_none r = refl

  for_cons : (r y : A) (ys : List A) (t : Bool) → aft y r ≡ t → index_for aft r (y ∷ ys) ≡ cond t 0 (suc (index_for aft r ys))
  unfolding index_for
  for_cons r y ys t e = ap (λ (u : Bool). cond u 0 (suc (index_for aft r ys))) e

  pub for_inserts : (r : A) (xs : List A) → inserted aft r xs ≡ take (index_for aft r xs) xs ++ r ∷ drop (index_for aft r xs) xs
  for_inserts r [] = insert_none r ∙ ap (λ (n : ℕ). take n [] ++ r ∷ drop n []) (sym (for_none r))
  for_inserts r (x ∷ xs) = go (for_inserts r xs) (aft x r) refl
    where
      split : ℕ → List A
      split n = take n (x ∷ xs) ++ r ∷ drop n (x ∷ xs)

      go : inserted aft r xs ≡ take (index_for aft r xs) xs ++ r ∷ drop (index_for aft r xs) xs → (t : Bool) → aft x r ≡ t → inserted aft r (x ∷ xs) ≡ split (index_for aft r (x ∷ xs))
      go ih true a = insert_here r x xs a ∙ ap split (sym (for_cons r x xs true a))
      go ih false a = insert_later r x xs a ∙ ap (λ (l : List A). x ∷ l) ih ∙ ap split (sym (for_cons r x xs false a))

  pub for_le : (r : A) (xs : List A) → index_for aft r xs ≤ length xs
  for_le r [] = let z = for_none r in omega arith
  for_le r (x ∷ xs) = go (for_le r xs) (aft x r) refl
    where
      go : index_for aft r xs ≤ length xs → (t : Bool) → aft x r ≡ t → index_for aft r (x ∷ xs) ≤ suc (length xs)
      go ih true a = let z : index_for aft r (x ∷ xs) ≡ 0 = for_cons r x xs true a in omega arith
      go ih false a = let z : index_for aft r (x ∷ xs) ≡ suc (index_for aft r xs) = for_cons r x xs false a in omega arith

  pub for_within : (r : A) (n : ℕ) (xs : List A) → n ≤ length xs → index_for aft r (take n xs) ≤ n
  for_within r n xs h = let f = for_le r (take n xs) in let z = length-take-le n xs h in omega arith

  -- one that leaves after r is not before its place
  pub for_below : (d r : A) (i : ℕ) (xs : List A) → i < length xs → aft (get_or xs i d) r ≡ true → index_for aft r xs ≤ i
  for_below d r i [] h e = absurd (omega arith)
  for_below d r zero (x ∷ xs) h e = let z : index_for aft r (x ∷ xs) ≡ 0 = for_cons r x xs true e in omega arith
  for_below d r (suc i) (x ∷ xs) h e = go (for_below d r i xs (omega arith) e) (aft x r) refl
    where
      go : index_for aft r xs ≤ i → (t : Bool) → aft x r ≡ t → index_for aft r (x ∷ xs) ≤ suc i
      go ih true a = let z : index_for aft r (x ∷ xs) ≡ 0 = for_cons r x xs true a in omega arith
      go ih false a = let z : index_for aft r (x ∷ xs) ≡ suc (index_for aft r xs) = for_cons r x xs false a in omega arith

  module _ (o : Order aft) where
    -- among records in order one that doesn't leave after r is before its place
    pub for_above : (d p₀ r : A) (i : ℕ) (xs : List A) → i < length xs → ordered_from aft p₀ xs ≡ true → aft (get_or xs i d) r ≡ false → (aft p₀ r ≡ false) × (i < index_for aft r xs)
    for_above d p₀ r i [] l h e = absurd (omega arith)
    for_above d p₀ r zero (x ∷ xs) l h e =
        let z : index_for aft r (x ∷ xs) ≡ suc (index_for aft r xs) = for_cons r x xs false e in
        (o.chain p₀ x r (first_of p₀ x xs h).0 e, omega arith)
    for_above d p₀ r (suc i) (x ∷ xs) l h e =
        let f = first_of p₀ x xs h in
        let ih = for_above d x r i xs (omega arith) f.1 e in
        let z : index_for aft r (x ∷ xs) ≡ suc (index_for aft r xs) = for_cons r x xs false ih.0 in
        (o.chain p₀ x r f.0 ih.0, omega arith)

    pub insert_ordered : (p₀ r : A) (xs : List A) → aft p₀ r ≡ false → ordered_from aft p₀ xs ≡ true → ordered_from aft p₀ (inserted aft r xs) ≡ true
    insert_ordered p₀ r [] e h = subst (λ (l : List A). ordered_from aft p₀ l ≡ true) (sym (insert_none r)) (put_first p₀ r [] e (none r))
    insert_ordered p₀ r (x ∷ xs) e h = go (λ a. insert_ordered x r xs a (first_of p₀ x xs h).1) (aft x r) refl
      where
        go : (aft x r ≡ false → ordered_from aft x (inserted aft r xs) ≡ true) → (t : Bool) → aft x r ≡ t → ordered_from aft p₀ (inserted aft r (x ∷ xs)) ≡ true
        go ih true a = subst (λ (l : List A). ordered_from aft p₀ l ≡ true) (sym (insert_here r x xs a)) (put_first p₀ r (x ∷ xs) e (put_first r x xs (o.asym x r a) (first_of p₀ x xs h).1))
        go ih false a = subst (λ (l : List A). ordered_from aft p₀ l ≡ true) (sym (insert_later r x xs a)) (put_first p₀ x (inserted aft r xs) (first_of p₀ x xs h).0 (ih a))
