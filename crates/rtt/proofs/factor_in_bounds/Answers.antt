use mathlib.Core.Path.{◌≡◌}
use mathlib.Core.Bool.{true}
use lib.Ieee.{le, of_bits}
use Rattle.rtt.specs.Rtt.{zero64}
use Rattle.rtt.proofs.factor_in_bounds.Goals as goal

pub returns-then-x : goal.returns-then-x
unfolding of_bits
returns-then-x c = let a : le zero64 c.args.x ≡ true = c.if-x.true in
    simp a
