use Rattle.std.proofs.Common.{◌≡◌, false, refl, ◌∙◌}
use Rattle.std.specs.Float.{float_with_sign}
use lib.Ieee.{Float, nan, inf, fin}
use Rattle.float.specs.Sign.{absolute}
use Rattle.rtt.proofs.distance.Goals as goal

-- `rtt::distance` meets its contract.

without_sign : (x : Float) → float_with_sign false x ≡ absolute x
unfolding float_with_sign
without_sign nan = refl
without_sign (inf s) = refl
without_sign (fin s m e) = refl

pub returns : goal.returns
returns c = c.abs.ensures.value ∙ without_sign _
