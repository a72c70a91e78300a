use Prim.Native.Nat.{ℕ}
use mathlib.Core.Path.{◌≡◌, refl}
use mathlib.Core.List.{[]}
use Rattle.refusal.specs.Refusal.{entry_of, values_of}
use Rattle.refusal.specs.declared.Refusal.{Refusal}
use Rattle.refusal.specs.declared.Refusal.TheVariants.{Short, Kind, Cut, Setup, Full, Long, Numbers, Counts, State, Time, Roll}
use Rattle.refusal.proofs.Refusal.values.Goals as goal

names_none : (r : Refusal) → ((n : ℕ) → r ≡ Short n → ⊥) → ((b : ℕ) → r ≡ Kind b → ⊥) → ((n : ℕ) → (m : ℕ) → r ≡ Cut n m → ⊥) → values_of [] ≡ values_of (entry_of r).values
names_none (Short n) h k l = absurd (h n refl)
names_none (Kind b) h k l = absurd (k b refl)
names_none (Cut n m) h k l = absurd (l n m refl)
names_none Setup h k l = refl
names_none Full h k l = refl
names_none Long h k l = refl
names_none Numbers h k l = refl
names_none Counts h k l = refl
names_none State h k l = refl
names_none Time h k l = refl
names_none Roll h k l = refl

pub returns-in-Short : goal.returns-in-Short
returns-in-Short c = rw c.in-Short.is

pub returns-in-Kind : goal.returns-in-Kind
returns-in-Kind c = rw c.in-Kind.is

pub returns-in-Cut : goal.returns-in-Cut
returns-in-Cut c = rw c.in-Cut.is

pub returns-in_default : goal.returns-in_default
returns-in_default c = names_none c.args.self c.in_default.not-Short c.in_default.not-Kind c.in_default.not-Cut
