-- The tests of a start, one after the other.
use Rattle.std.specs.Prelude.{Err, Ok, Result}
use mathlib.Core.Path.{◌≡◌, refl, subst}
use mathlib.Core.Bool.{Bool, true, false, cond}
use mathlib.Core.List.{List, [], ◌∷◌}
use Prim.Native.Nat.{ℕ, ◌≤◌, ◌<◌}
use native.Mathlib.Omega.{arith}
use lib.Dec.{ltb}
use borrow.Author.Tests.{ltb-false}
use Rattle.refusal.proofs.Laws.{or_false}
use Rattle.refusal.specs.Order.{Check, check, verdict, first_of, numbered, or_else, order}
use Rattle.refusal.specs.declared.Refusal.TheVariants.{Short, Kind, Cut, Setup, Full, Long, Numbers, Counts, State, Time, Roll}
use Rattle.window.specs.State.{window_broken}
use Rattle.setup.specs.Setup.{chunks_broken, setup_broken}
use Rattle.setup.specs.declared.TransferConfig.{TransferConfig}
use Rattle.refusal.specs.declared.Refusal.{Refusal}
use Rattle.refusal.specs.Order.{passed}

-- ---- 4: its first two tests were false, so a chunk has a byte
pub chunk_some : (c : TransferConfig) (file : List ℕ) → setup_broken c file ≡ false → 0 < c.chunk_size
unfolding setup_broken
chunk_some c file e =
    let a = (or_false (window_broken c.window_size) _ e).1 in
    let b = (or_false (chunks_broken c.chunk_size file) _ a).0 in
    let p : 1 ≤ c.chunk_size = ltb-false c.chunk_size 1 (or_false (ltb c.chunk_size 1) _ b).0 in
    omega arith

-- ---- the order of 9, 11, 4 and 5
abbrev pub four_checks : Bool → Bool → Bool → Bool → List Check
four_checks state roll setup full = check state State ∷ check roll Roll ∷ check setup Setup ∷ check full Full ∷ []

pub four_is : (a b d e : Bool) → verdict (four_checks a b d e) ≡ cond a (Err State) (cond b (Err Roll) (cond d (Err Setup) (cond e (Err Full) passed)))
unfolding verdict first_of numbered or_else order
four_is true b d e = refl
four_is false true d e = refl
four_is false false true e = refl
four_is false false false true = refl
four_is false false false false = refl

module _ (a b d e : Bool) where
  pub state_first : a ≡ true → Err State ≡ verdict (four_checks a b d e)
  state_first p = simp (four_is, p)

  pub roll_next : a ≡ false → b ≡ true → Err Roll ≡ verdict (four_checks a b d e)
  roll_next p q = simp (four_is, p, q)

  pub setup_next : a ≡ false → b ≡ false → d ≡ true → Err Setup ≡ verdict (four_checks a b d e)
  setup_next p q r = simp (four_is, p, q, r)

  pub full_last : a ≡ false → b ≡ false → d ≡ false → e ≡ true → Err Full ≡ verdict (four_checks a b d e)
  full_last p q r s = simp (four_is, p, q, r, s)

  pub none_true : a ≡ false → b ≡ false → d ≡ false → e ≡ false → passed ≡ verdict (four_checks a b d e)
  none_true p q r s = simp (four_is, p, q, r, s)

-- what a verdict says of the four
abbrev pub Reasons : Bool → Bool → Bool → Bool → Result Unit Refusal → Type 0
Reasons a b d e (Ok tt) = (a ≡ false) × (b ≡ false) × (d ≡ false) × (e ≡ false)
Reasons a b d e (Err State) = a ≡ true
Reasons a b d e (Err Roll) = (a ≡ false) × (b ≡ true)
Reasons a b d e (Err Setup) = (a ≡ false) × (b ≡ false) × (d ≡ true)
Reasons a b d e (Err Full) = (a ≡ false) × (b ≡ false) × (d ≡ false) × (e ≡ true)
Reasons a b d e (Err (Short n)) = ⊥
Reasons a b d e (Err (Kind n)) = ⊥
Reasons a b d e (Err (Cut n m)) = ⊥
Reasons a b d e (Err Long) = ⊥
Reasons a b d e (Err Numbers) = ⊥
Reasons a b d e (Err Counts) = ⊥
Reasons a b d e (Err Time) = ⊥

reasons : (a b d e : Bool) → Reasons a b d e (verdict (four_checks a b d e))
unfolding verdict first_of numbered or_else order
reasons true b d e = refl
reasons false true d e = (refl, refl)
reasons false false true e = (refl, refl, refl)
reasons false false false true = (refl, refl, refl, refl)
reasons false false false false = (refl, refl, refl, refl)

pub reasons_for : (a b d e : Bool) (v : Result Unit Refusal) → verdict (four_checks a b d e) ≡ v → Reasons a b d e v
reasons_for a b d e v h = subst (λ (w : Result Unit Refusal). Reasons a b d e w) h (reasons a b d e)
