use native.Mathlib.Omega.{arith}
use Rattle.text.specs.Decimal.{digits}
use Rattle.text.proofs.Numbers.{right_long}
use Rattle.text.proofs.right_length.Goals as goal

pub returns : goal.returns
returns c = let r = right_long c.args.width (digits c.args.n) in omega arith
