use mathlib.Core.Path.{refl}
use Rattle.path.specs.Rolls.{rolls_at}
use Rattle.path.proofs.rolls_at.Goals as goal

pub returns : goal.returns
unfolding rolls_at
returns c = refl
