use mathlib.Core.Path.{ap, ◌∙◌}
use lib.Ieee.{Float, binary64, add, mul}
use Rattle.rtt.specs.Rtt.{larger}
use Rattle.rtt.proofs.rto_ms.Goals as goal

pub returns : goal.returns
returns c = ap (λ (z : Float). add binary64 c.args.srtt_ms z) (c.larger.ensures ∙ ap (λ (z : Float). larger (mul binary64 c.args.k c.args.rttvar_ms) z) c.to_ms.ensures)
