use Prim.Native.Nat.{ℕ, zero, suc, ◌≤◌}
use mathlib.Core.Path.{◌≡◌}
use mathlib.Core.List.{List, ◌++◌}
use Rattle.text.specs.Decimal.{digits}
use lib.ListN.{length, drop}
use Rattle.text.proofs.fill_decimal_unchecked.Given as goal

pub record Left (n rest i : ℕ) (part : List ℕ) : Type 0 where
  pub place : i ≡ length (digits rest)
  pub within : i ≤ length part
  pub joined : digits rest ++ drop i part ≡ digits n

-- the first i letters are still to be written
abbrev pub Unwritten : ℕ → ℕ → ℕ → List ℕ → Type 0
Unwritten n rest zero part = part ≡ digits n
Unwritten n rest (suc i) part = Left n rest (suc i) part

abbrev pub invariant-loop-i : goal.invariant-loop-i
invariant-loop-i l = Unwritten l.n l.rest l.i l.part × (length l.part ≡ length l.initial.part)
