-- Laws of the calls that only read.
use Rattle.std.specs.Prelude.{Err, Ok}
use Prim.Native.Nat.{ℕ}
use mathlib.Core.Path.{◌≡◌, sym, ◌∙◌}
use mathlib.Core.Bool.{true, false}
use native.Mathlib.Omega.{arith}
use Rattle.refusal.specs.declared.Refusal.{Refusal}
use Rattle.refusal.specs.declared.Refusal.TheVariants.{State, Counts}
use Rattle.refusal.specs.Order.{order, or_else, numbered, first_of, verdict, decide}
use Rattle.refusal.proofs.Laws.{decide_accepted, decide_refused, on_accepted, on_refused}
use Rattle.window.specs.State.{outstanding, numbers_broken, counts_broken}
use Rattle.window.specs.Outstanding.{unless_broken, in_flight_count}
use Rattle.window.specs.declared.SendWindow.{SendWindow}

module _ {A : Type 0} (s : SendWindow) (f : Refusal → A) (a : A) where
  pub numbers_refused : numbers_broken s ≡ true → f State ≡ unless_broken s f a
  unfolding unless_broken verdict first_of numbered or_else order decide
  numbers_refused e = rw e

  pub counts_refused : numbers_broken s ≡ false → counts_broken s ≡ true → f Counts ≡ unless_broken s f a
  unfolding unless_broken verdict first_of numbered or_else order decide
  counts_refused e g = rw (e, g)

  pub numbers_accepted : numbers_broken s ≡ false → counts_broken s ≡ false → a ≡ unless_broken s f a
  unfolding unless_broken verdict first_of numbered or_else order decide
  numbers_accepted e g = rw (e, g)

  -- by what `in_flight_count` answers
  pub by_count : (n : ℕ) → in_flight_count s ≡ Ok n → a ≡ unless_broken s f a
  unfolding unless_broken
  by_count n e = sym (on_accepted f a (decide_accepted _ Err _ e (λ r g. let z : ◌≡◌ {A = ℕ} 0 1 = cc in omega arith)))

  pub by_refusal : (r : Refusal) → in_flight_count s ≡ Err r → f r ≡ unless_broken s f a
  unfolding unless_broken
  by_refusal r e = sym (on_refused f a (decide_refused _ Err _ r e (λ g. let z : ◌≡◌ {A = ℕ} 0 1 = cc in omega arith) (λ q g. cc)))

pub count_is : (s : SendWindow) (n : ℕ) → in_flight_count s ≡ Ok n → n ≡ outstanding s
count_is s n e = let same = by_count s Err (Ok (outstanding s)) n e ∙ e in cc
