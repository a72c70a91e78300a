use Prim.Native.Nat.{ℕ}
use mathlib.Core.Path.{◌∙◌, ap}
use lib.Dec.{ltb}
use Rattle.path.specs.Rolls.{packet_rolls}
use Rattle.path.proofs.Calls.{spent}
use Rattle.path.proofs.Path.rolls_spent.Goals as goal

pub returns : goal.returns
returns c = ap (λ (n : ℕ). ltb n packet_rolls) c.saturating_sub.ensures ∙ spent _ _
