-- The one check of this crate's calls.
use Rattle.std.proofs.Common.{◌≡◌, Bool, true, false, cond, [], ◌∷◌, refl}
use Rattle.refusal.specs.Order.{check, verdict, decide, first_of, numbered, or_else, order}
use Rattle.refusal.specs.declared.Refusal.{Refusal}
use Rattle.refusal.specs.declared.Refusal.TheVariants.{Time}

pub time_check : {A : Type 0} (late : Bool) (f : Refusal → A) (a : A) → decide (verdict (check late Time ∷ [])) f a ≡ cond late (f Time) a
unfolding decide verdict first_of numbered or_else order
time_check true f a = refl
time_check false f a = refl
