-- Blocks of places: their marks, as the loop over the waiting records makes them from the last to the first, and the first free place that they show.
use mathlib.Core.Path.{◌≡◌, refl, sym, ◌∙◌, ap}
use mathlib.Core.Logic.{◌⊎◌, inl, inr}
use Prim.Native.Nat.{ℕ, zero, suc, ◌≤◌, ◌<◌, ◌+◌, ◌-◌}
use native.Mathlib.Omega.{arith}
use native.Mathlib.Nat.{add-zero, sub-zero, suc-sub-suc}
use mathlib.Core.Bool.{Bool, true, false, cond, not, ◌||◌, or_comm}
use mathlib.Core.List.{List, [], ◌∷◌}
use lib.ListN.{length, get_or, set, replicate}
use borrow.Author.Tests.{eq-eqb, ne_eqb}
use Rattle.std.proofs.Common.{ltb, ltb-false, Some, None}
use Rattle.std.specs.Option.{unwrap_or}
use Rattle.std.specs.List.{position_or_len}
use Rattle.schedule.specs.Record.{place_of, place_in, free_from}
use Rattle.schedule.specs.Internal.{block_size, place_marks, block_at, first_unset, doubled_in, outside}
use Rattle.schedule.proofs.Sound.{place_is}
use Rattle.schedule.proofs.FreePlaces.{free_zero, free_suc}
use Rattle.schedule.proofs.Doubled.{in_none, in_first, in_outside, outside_none, outside_below, outside_past}

-- ---- marks of places
marks_next : (n p : ℕ) (rs : List (List ℕ)) → place_marks (suc n) p rs ≡ place_in p rs ∷ place_marks n (suc p) rs
unfolding place_marks
marks_next n p rs = refl

marks_zero : (p : ℕ) (rs : List (List ℕ)) → place_marks zero p rs ≡ []
unfolding place_marks
marks_zero p rs = refl

marks_none : (n p : ℕ) {rs : List (List ℕ)} → rs ≡ [] → replicate n false ≡ place_marks n p rs
unfolding place_marks place_in
marks_none zero p e = refl
marks_none (suc n) p {rs} e = ap (λ (xs : List Bool). false ∷ xs) (marks_none n (suc p) e) ∙ ap (λ (b : Bool). b ∷ place_marks n (suc p) rs) (sym (ap (place_in p) e))

-- a record whose place is not among them marks none
marks_outside : (n p : ℕ) (r : List ℕ) (rs : List (List ℕ)) → (place_of r < p) ⊎ (p + n ≤ place_of r) → place_marks n p rs ≡ place_marks n p (r ∷ rs)
marks_outside zero p r rs h = marks_zero p rs ∙ sym (marks_zero p (r ∷ rs))
marks_outside (suc n) p r rs h =
    marks_next n p rs
    ∙ ap (λ (b : Bool). b ∷ place_marks n (suc p) rs) (sym (place_is p r rs false (ne_eqb p (place_of r) (apart h))))
    ∙ ap (λ (xs : List Bool). place_in p (r ∷ rs) ∷ xs) (marks_outside n (suc p) r rs (further h))
    ∙ sym (marks_next n p (r ∷ rs))
  where
    apart : (place_of r < p) ⊎ (p + suc n ≤ place_of r) → p ≡ place_of r → ⊥
    apart (inl l) e = omega arith
    apart (inr l) e = omega arith

    further : (place_of r < p) ⊎ (p + suc n ≤ place_of r) → (place_of r < suc p) ⊎ (suc p + n ≤ place_of r)
    further (inl l) = inl (omega arith)
    further (inr l) = inr (omega arith)

-- one whose place is the j-th of them marks it
marks_set : (n p j : ℕ) (r : List ℕ) (rs : List (List ℕ)) → place_of r ≡ p + j → j < n → set (place_marks n p rs) j true ≡ place_marks n p (r ∷ rs)
marks_set zero p j r rs e h = absurd (omega arith)
marks_set (suc n) p zero r rs e h =
    ap (λ (xs : List Bool). set xs zero true) (marks_next n p rs)
    ∙ ap (λ (xs : List Bool). true ∷ xs) (marks_outside n (suc p) r rs (inl (omega arith)))
    ∙ sym (marks_next n p (r ∷ rs) ∙ ap (λ (b : Bool). b ∷ place_marks n (suc p) (r ∷ rs)) (place_is p r rs true (eq-eqb p (place_of r) (omega arith))))
marks_set (suc n) p (suc j) r rs e h =
    ap (λ (xs : List Bool). set xs (suc j) true) (marks_next n p rs)
    ∙ ap (λ (xs : List Bool). place_in p rs ∷ xs) (marks_set n (suc p) j r rs (omega arith) (omega arith))
    ∙ ap (λ (b : Bool). b ∷ place_marks n (suc p) (r ∷ rs)) (sym (place_is p r rs false (ne_eqb p (place_of r) (λ q. omega arith))))
    ∙ sym (marks_next n p (r ∷ rs))

marks_at : (n p j : ℕ) (rs : List (List ℕ)) → j < n → get_or (place_marks n p rs) j false ≡ place_in (p + j) rs
marks_at zero p j rs h = absurd (omega arith)
marks_at (suc n) p zero rs h = ap (λ (xs : List Bool). get_or xs zero false) (marks_next n p rs) ∙ ap (λ (q : ℕ). place_in q rs) (sym (add-zero p))
marks_at (suc n) p (suc j) rs h = ap (λ (xs : List Bool). get_or xs (suc j) false) (marks_next n p rs) ∙ marks_at n (suc p) j rs (omega arith) ∙ ap (λ (q : ℕ). place_in q rs) (shift p j)
  where
    shift : (p j : ℕ) → suc p + j ≡ p + suc j
    shift p j = omega arith

pub marks_length : (n p : ℕ) (rs : List (List ℕ)) → length (place_marks n p rs) ≡ n
marks_length zero p rs = ap length (marks_zero p rs)
marks_length (suc n) p rs = ap length (marks_next n p rs) ∙ ap suc (marks_length n (suc p) rs)

-- ---- what the loop has found in the records that it has seen, the last of them first
pub record Found (rs : List (List ℕ)) (base : ℕ) (used : List Bool) (doubled beyond : Bool) : Type 0 where
  pub marks : used ≡ place_marks block_size base rs
  pub twice : doubled ≡ doubled_in base rs
  pub behind : beyond ≡ outside (base + block_size) rs

pub found_none : (base : ℕ) → Found [] base (replicate block_size false) false false
found_none base =
    record { marks = marks_none block_size base refl; twice = sym (in_none base refl); behind = sym (outside_none (base + block_size) refl) }

pub found_all : (base : ℕ) {rs : List (List ℕ)} {used : List Bool} {doubled beyond : Bool} → Found rs base used doubled beyond → record { used = used; doubled = doubled; beyond = beyond } ≡ block_at base rs
found_all base f = rw (f.marks, f.twice, f.behind)

-- one turn: the record in front of them
module _ (r : List ℕ) (base : ℕ) {rs : List (List ℕ)} {used : List Bool} {doubled beyond : Bool} (f : Found rs base used doubled beyond) where
  pub turn_in : base ≤ place_of r → place_of r - base < block_size → Found (r ∷ rs) base (set used (place_of r - base) true) (doubled || get_or used (place_of r - base) false) beyond
  turn_in a b =
      let place = place_of r in
      record {
        marks = ap (λ (xs : List Bool). set xs (place - base) true) f.marks ∙ marks_set block_size base (place - base) r rs (whole place base a) b;
        twice = ap (λ (x : Bool). x || get_or used (place - base) false) f.twice
            ∙ ap (λ (x : Bool). doubled_in base rs || x) (ap (λ (xs : List Bool). get_or xs (place - base) false) f.marks ∙ marks_at block_size base (place - base) rs b ∙ ap (λ (q : ℕ). place_in q rs) (sym (whole place base a)))
            ∙ or_comm (doubled_in base rs) (place_in place rs) ∙ sym (in_first base r rs a (omega arith));
        behind = f.behind ∙ sym (outside_below (base + block_size) r rs (omega arith));
      }
    where
      whole : (p b : ℕ) → b ≤ p → p ≡ b + (p - b)
      whole p b h = omega arith

  pub turn_behind : base + block_size ≤ place_of r → Found (r ∷ rs) base used doubled true
  turn_behind h =
      record { marks = f.marks ∙ marks_outside block_size base r rs (inr h); twice = f.twice ∙ sym (in_outside base r rs (inr h)); behind = sym (outside_past (base + block_size) r rs h) }

  pub turn_before : place_of r < base → Found (r ∷ rs) base used doubled beyond
  turn_before h =
      record { marks = f.marks ∙ marks_outside block_size base r rs (inl h); twice = f.twice ∙ sym (in_outside base r rs (inl h)); behind = f.behind ∙ sym (outside_below (base + block_size) r rs (omega arith)) }

-- ---- the first mark that isn't set
unset_zero : (p : ℕ) (rs : List (List ℕ)) → first_unset (place_marks zero p rs) ≡ 0
unfolding first_unset place_marks
unset_zero p rs = refl

unset_next : (n p : ℕ) (rs : List (List ℕ)) (t : Bool) → place_in p rs ≡ t → first_unset (place_marks (suc n) p rs) ≡ cond t (suc (first_unset (place_marks n (suc p) rs))) 0
unfolding first_unset place_marks
unset_next n p rs t e = ap (λ (b : Bool). cond b (suc (first_unset (place_marks n (suc p) rs))) 0) e

-- it is that of the lowest free place
pub unset_free : (k j p : ℕ) (rs : List (List ℕ)) → 0 < length (free_from j p rs) → first_unset (place_marks k p rs) < k → p + first_unset (place_marks k p rs) ≡ get_or (free_from j p rs) 0 0
unset_free zero j p rs h l = absurd (omega arith)
unset_free (suc k) zero p rs h l = absurd (omega (arith, ap length (free_zero p rs)))
unset_free (suc k) (suc j) p rs h l = go (place_in p rs) refl (unset_free k j (suc p) rs)
  where
    go : (t : Bool) → place_in p rs ≡ t → (0 < length (free_from j (suc p) rs) → first_unset (place_marks k (suc p) rs) < k → suc p + first_unset (place_marks k (suc p) rs) ≡ get_or (free_from j (suc p) rs) 0 0)
        → p + first_unset (place_marks (suc k) p rs) ≡ get_or (free_from (suc j) p rs) 0 0
    go true t ih =
        let u : first_unset (place_marks (suc k) p rs) ≡ suc (first_unset (place_marks k (suc p) rs)) = unset_next k p rs true t in
        let f : free_from (suc j) p rs ≡ free_from j (suc p) rs = free_suc j p rs true t in
        let i = ih (rw f at h) (omega arith) in
        rw f (omega arith)
    go false t ih =
        let u : first_unset (place_marks (suc k) p rs) ≡ 0 = unset_next k p rs false t in
        let f : free_from (suc j) p rs ≡ p ∷ free_from j (suc p) rs = free_suc j p rs false t in
        rw f (omega arith)

-- where all are set, the free places are those behind them
pub unset_none : (k j p : ℕ) (rs : List (List ℕ)) → 0 < length (free_from j p rs) → k ≤ first_unset (place_marks k p rs) → (k < j) × (free_from (j - k) (p + k) rs ≡ free_from j p rs)
unset_none k zero p rs h l = absurd (omega (arith, ap length (free_zero p rs)))
unset_none zero (suc j) p rs h l = (omega arith, ap (λ (n : ℕ). free_from n (p + 0) rs) (sub-zero (suc j)) ∙ ap (λ (q : ℕ). free_from (suc j) q rs) (add-zero p))
unset_none (suc k) (suc j) p rs h l = go (place_in p rs) refl (unset_none k j (suc p) rs)
  where
    shift : (p k : ℕ) → p + suc k ≡ suc p + k
    shift p k = omega arith

    go : (t : Bool) → place_in p rs ≡ t → (0 < length (free_from j (suc p) rs) → k ≤ first_unset (place_marks k (suc p) rs) → (k < j) × (free_from (j - k) (suc p + k) rs ≡ free_from j (suc p) rs))
        → (suc k < suc j) × (free_from (suc j - suc k) (p + suc k) rs ≡ free_from (suc j) p rs)
    go true t ih =
        let u : first_unset (place_marks (suc k) p rs) ≡ suc (first_unset (place_marks k (suc p) rs)) = unset_next k p rs true t in
        let f : free_from (suc j) p rs ≡ free_from j (suc p) rs = free_suc j p rs true t in
        let i = ih (rw f at h) (omega arith) in
        (omega (arith, i.0), ap (λ (n : ℕ). free_from n (p + suc k) rs) (suc-sub-suc j k) ∙ ap (λ (q : ℕ). free_from (j - k) q rs) (shift p k) ∙ i.1 ∙ sym f)
    go false t ih = let u : first_unset (place_marks (suc k) p rs) ≡ 0 = unset_next k p rs false t in absurd (omega arith)

-- as `position` finds it
unset_len : (ms : List Bool) → position_or_len not ms ≡ first_unset ms
unfolding first_unset
unset_len [] = refl
unset_len (true ∷ ms) = let h = unset_len ms in omega arith
unset_len (false ∷ ms) = refl

unset_within : (ms : List Bool) → first_unset ms ≤ length ms
unfolding first_unset
unset_within [] = omega arith
unset_within (true ∷ ms) = let h = unset_within ms in omega arith
unset_within (false ∷ ms) = omega arith

pub unset_position : (ms : List Bool) (n : ℕ) → length ms ≡ n → unwrap_or (cond (ltb (position_or_len not ms) (length ms)) (Some (position_or_len not ms)) None) n ≡ first_unset ms
unset_position ms n e = go (ltb (position_or_len not ms) (length ms)) refl
  where
    go : (t : Bool) → ltb (position_or_len not ms) (length ms) ≡ t → unwrap_or (cond t (Some (position_or_len not ms)) None) n ≡ first_unset ms
    go true q = unset_len ms
    go false q =
        let most = unset_within ms in
        let least : length ms ≤ position_or_len not ms = ltb-false _ _ q in
        let same = unset_len ms in
        omega arith
