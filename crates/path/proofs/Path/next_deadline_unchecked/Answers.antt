use Rattle.std.specs.Prelude.{ℕ, Err, None, Ok, Option, Result, Some}
use Rattle.std.specs.Result.{result_unwrap_or}
use mathlib.Core.Path.{◌≡◌, refl, ◌∙◌, ap}
use Rattle.refusal.specs.declared.Refusal.{Refusal}
use Rattle.path.specs.Path.{deadline_of}
use Rattle.path.proofs.Path.next_deadline_unchecked.Goals as goal

or_none : (a : Result (Option ℕ) Refusal) → result_unwrap_or a None ≡ deadline_of a
unfolding deadline_of
or_none (Ok None) = refl
or_none (Ok (Some t)) = refl
or_none (Err r) = refl

pub returns : goal.returns
returns c = c.unwrap_or.ensures ∙ or_none _ ∙ ap deadline_of c.next_deadline_unchecked.ensures
