use mathlib.Core.Path.{ap}
use lib.Ieee.{Float, binary64, mul, of_bits}
use Rattle.rtt.specs.Rtt.{thousand64}
use Rattle.rtt.proofs.to_ms.Goals as goal

-- `rtt::to_ms` meets its contract: 1000.0 is `thousand64`.

pub returns : goal.returns
unfolding of_bits
returns c = ap (λ (z : Float). mul binary64 z thousand64) c.as_secs_f64.ensures
