-- The checks of the entry points: their order, and what a state is that check 9 lets pass.
use Rattle.std.specs.Prelude.{Err}
use Rattle.std.proofs.Common.{◌≡◌, ℕ, ◌<◌, ◌≤◌, Bool, true, false, cond, not, ◌||◌, eqb, ltb, List, [], ◌∷◌, length, take, refl, true≢false, ltb-false, le-ltb, lt-ltb, eq-eqb, ne_eqb, eqb-true}
use Rattle.refusal.specs.Order.{check, verdict, first_of, numbered, or_else, order}
use Rattle.refusal.specs.declared.Refusal.TheVariants.{State, Time, Full}
use Rattle.multi_timer.specs.Map.{ascending}
use Rattle.multi_timer.specs.MultiTimer.{broken}
use Rattle.refusal.specs.Order.{passed}

pub one_check : (s : Bool) → verdict (check s State ∷ []) ≡ cond s (Err State) passed
unfolding verdict first_of numbered or_else order
one_check true = refl
one_check false = refl

pub two_checks : (s t : Bool) → verdict (check s State ∷ check t Time ∷ []) ≡ cond s (Err State) (cond t (Err Time) passed)
unfolding verdict first_of numbered or_else order
two_checks true t = refl
two_checks false true = refl
two_checks false false = refl

pub three_checks : (s t u : Bool) → verdict (check s State ∷ check t Time ∷ check u Full ∷ []) ≡ cond s (Err State) (cond t (Err Time) (cond u (Err Full) passed))
unfolding verdict first_of numbered or_else order
three_checks true t u = refl
three_checks false true u = refl
three_checks false false true = refl
three_checks false false false = refl

-- ---- check 9, test by test
pub broken_length : (n : ℕ) (ks ds : List ℕ) → (length ks ≡ length ds → ⊥) → true ≡ broken n ks ds
broken_length n ks ds h = simp (ne_eqb _ _ h)

pub broken_count : (n : ℕ) (ks ds : List ℕ) → length ks ≡ length ds → length ks < n → true ≡ broken n ks ds
broken_count n ks ds e h = simp (eq-eqb _ _ e, lt-ltb _ _ h)

pub broken_order : (n : ℕ) (ks ds : List ℕ) (b : Bool) → length ks ≡ length ds → n ≤ length ks → b ≡ ascending (take n ks) → not b ≡ broken n ks ds
broken_order n ks ds b e h a = simp (eq-eqb _ _ e, le-ltb _ _ h, a)

-- what it lets pass
pub record Good (n : ℕ) (ks ds : List ℕ) : Type 0 where
  pub same : length ks ≡ length ds
  pub within : n ≤ length ks
  pub sorted : ascending (take n ks) ≡ true

-- what a search asks for
pub in_order_lem : {n : ℕ} {ks ds : List ℕ} → Good n ks ds → (n ≤ length ks) × (ascending (take n ks) ≡ true)
in_order_lem g = (g.within, g.sorted)

pub good_of : (n : ℕ) (ks ds : List ℕ) → broken n ks ds ≡ false → Good n ks ds
good_of n ks ds e = go (eqb (length ks) (length ds)) (ltb (length ks) n) (ascending (take n ks)) (eqb-true _ _) (ltb-false _ _) (λ h. h) e
  where
    go : (a b c : Bool) → (a ≡ true → length ks ≡ length ds) → (b ≡ false → n ≤ length ks) → (c ≡ true → ascending (take n ks) ≡ true) → (not a || (b || not c)) ≡ false → Good n ks ds
    go true false true p q r e = record { same = p refl; within = q refl; sorted = r refl }
    go true false false p q r e = absurd (true≢false e)
    go true true c p q r e = absurd (true≢false e)
    go false b c p q r e = absurd (true≢false e)
