use lib.Ieee.{of_bits}
use Rattle.rtt.proofs.from_ms.Goals as goal

-- `rtt::from_ms` meets its contract: 1000.0 is `thousand64`.

pub from_secs_f64_unchecked-requires : goal.from_secs_f64_unchecked-requires
unfolding of_bits
from_secs_f64_unchecked-requires c = c.requires

pub returns : goal.returns
unfolding of_bits
returns c = c.from_secs_f64_unchecked.ensures
