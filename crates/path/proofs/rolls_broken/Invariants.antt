use mathlib.Core.Path.{◌≡◌}
use mathlib.Core.Bool.{◌||◌}
use lib.ListN.{drop}
use Rattle.path.specs.Rolls.{rolls_broken}
use Rattle.path.proofs.rolls_broken.Given as goal

abbrev pub invariant-loop-roll : goal.invariant-loop-roll
invariant-loop-roll l = (l.broken || rolls_broken (drop l.roll-index l.rolls)) ≡ rolls_broken l.rolls
