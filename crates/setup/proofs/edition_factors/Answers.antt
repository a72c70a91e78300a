use Rattle.std.proofs.Common.{rules}
use lib.Ieee.{eq, of_bits}
use Rattle.setup.proofs.edition_factors.Goals as goal

pub returns-then-c-3 : goal.returns-then-c-3
unfolding eq of_bits
returns-then-c-3 c = search rules

pub returns-else-c-3 : goal.returns-else-c-3
unfolding eq of_bits
returns-else-c-3 c = search rules
