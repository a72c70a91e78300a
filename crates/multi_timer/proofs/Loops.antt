-- One turn of each reading loop: what is left to read gives what the whole gives.
use Rattle.std.specs.Prelude.{Err, Ok, Result}
use Rattle.std.proofs.Common.{◌≡◌, ℕ, zero, suc, ◌+◌, ◌-◌, ◌<◌, ◌≤◌, Bool, true, false, ◌&&◌, ◌||◌, ltb, List, [], ◌∷◌, length, get_or, take, sym, refl, ap, subst, zero-le, le_of_eq, not-suc-le-zero, add-zero, add_assoc, zero-add, arith, length-take-le, get_or-take, le-ltb, lt-ltb, eq-eqb, ne_eqb, le-leb}
use Rattle.std.specs.List.{list_any}
use Rattle.bounds.specs.Bounds.{max_time}
use Rattle.multi_timer.specs.Map.{ascending, ascending_from}
use Rattle.multi_timer.specs.MultiTimer.{any_late}
use Rattle.multi_timer.specs.Internal.{search_in, later}
use Rattle.multi_timer.proofs.Lists.{rest, rest_cons, rest_nil}
use Rattle.multi_timer.proofs.Sorted.{search_behind}

module _ (n i : ℕ) (xs : List ℕ) where
  -- ---- ascending
  pub ascending_step : (sorted : Bool) → i < n → n ≤ length xs → ((sorted && ltb (get_or xs (i - 1) 0) (get_or xs i 0)) && ascending_from (suc (get_or xs (i + 1 - 1) 0)) (rest n (i + 1) xs)) ≡ (sorted && ascending_from (suc (get_or xs (i - 1) 0)) (rest n i xs))
  unfolding ascending_from
  ascending_step sorted h l = rw (rest_cons n i xs h l, same i) (in_turn sorted (ltb (get_or xs (i - 1) 0) (get_or xs i 0)) (ascending_from (suc (get_or xs i 0)) (rest n (i + 1) xs)))
    where
      in_turn : (s a b : Bool) → ((s && a) && b) ≡ (s && (a && b))
      in_turn true a b = refl
      in_turn false a b = refl

      same : (i : ℕ) → i + 1 - 1 ≡ i
      same i = omega arith

  pub ascending_end : (sorted : Bool) → n ≤ i → n ≤ length xs → sorted ≡ (sorted && ascending_from (suc (get_or xs (i - 1) 0)) (rest n i xs))
  unfolding ascending_from
  ascending_end sorted h l = rw (rest_nil n i xs h l) (alone sorted)
    where
      alone : (s : Bool) → s ≡ (s && true)
      alone true = refl
      alone false = refl

  -- ---- the search
  pub search_at : (key : ℕ) → i < n → n ≤ length xs → get_or xs i 0 ≡ key → Ok i ≡ later i (search_in key (rest n i xs))
  unfolding search_in
  search_at key h l e = rw (rest_cons n i xs h l) (simp (le-ltb _ _ (le_of_eq (sym e)), eq-eqb _ _ e) (ap Ok (sym (add-zero i))))

  pub search_absent : (key : ℕ) → i < n → n ≤ length xs → key ≤ get_or xs i 0 → (get_or xs i 0 ≡ key → ⊥) → Err i ≡ later i (search_in key (rest n i xs))
  unfolding search_in
  search_absent key h l k e = rw (rest_cons n i xs h l) (simp (le-ltb _ _ k, ne_eqb _ _ e) (ap Err (sym (add-zero i))))

  later_twice : (p : Result ℕ ℕ) → later (i + 1) p ≡ later i (later 1 p)
  later_twice (Ok p) = ap Ok (add_assoc i 1 p)
  later_twice (Err p) = ap Err (add_assoc i 1 p)

  pub search_step : (key : ℕ) → i < n → n ≤ length xs → get_or xs i 0 < key → later (i + 1) (search_in key (rest n (i + 1) xs)) ≡ later i (search_in key (rest n i xs))
  unfolding search_in
  search_step key h l k = rw (rest_cons n i xs h l) (simp (lt-ltb _ _ k) (later_twice (search_in key (rest n (i + 1) xs))))

  pub search_end : (key : ℕ) → n ≤ i → n ≤ length xs → Err i ≡ later i (search_in key (rest n i xs))
  unfolding search_in
  search_end key h l = rw (rest_nil n i xs h l) (ap Err (sym (add-zero i)))

-- ---- late
pub late_any : (ds : List ℕ) → any_late ds ≡ list_any (λ d. ltb max_time d) ds
unfolding any_late
late_any [] = refl
late_any (d ∷ ds) = ap (λ (b : Bool). ltb max_time d || b) (late_any ds)

-- four keys passed by
pub skip_step : (n i : ℕ) (xs : List ℕ) (key : ℕ) → i + 3 < n → n ≤ length xs → ascending (take n xs) ≡ true → get_or xs (i + 3) 0 < key → later (i + 4) (search_in key (rest n (i + 4) xs)) ≡ search_in key (take n xs)
skip_step n i xs key h l a k =
    let e : suc (i + 3) ≡ i + 4 = omega arith in
    subst (λ (j : ℕ). later j (search_in key (rest n j xs)) ≡ search_in key (take n xs)) e
    (search_behind key 0 (i + 3) (take n xs) a (subst (λ (m : ℕ). i + 3 < m) (sym (length-take-le n xs l)) h) (subst (λ (m : ℕ). m < key) (sym (get_or-take n xs (i + 3) 0 h)) k))

pub ascending_start : (n : ℕ) (xs : List ℕ) → n ≤ length xs → (true && ascending_from (suc (get_or xs 0 0)) (rest n 1 xs)) ≡ ascending (take n xs)
unfolding ascending_from
ascending_start zero xs h = refl
ascending_start (suc n) [] h = absurd (not-suc-le-zero h)
ascending_start (suc n) (x ∷ xs) h = simp (le-leb 0 x zero-le)

pub later_none : (p : Result ℕ ℕ) → later 0 p ≡ p
later_none (Ok p) = ap Ok (zero-add p)
later_none (Err p) = ap Err (zero-add p)
