use native.Mathlib.Omega.{arith}
use Rattle.text.proofs.Digits.{length_low, length_high, tenth_less}
use Rattle.text.proofs.Numbers.{digits_u64}
use Rattle.text.proofs.decimal_length.Goals as goal

pub loop-rest-init : goal.loop-rest-init
loop-rest-init c = (omega arith, digits_u64 c.args.n (omega arith))

pub loop-rest-smaller : goal.loop-rest-smaller
loop-rest-smaller c = tenth_less c.loop-rest.rest (omega arith)

pub loop-rest-preserved : goal.loop-rest-preserved
loop-rest-preserved c = let h = length_high c.loop-rest.rest (omega arith) in omega arith

pub returns : goal.returns
returns c = let h = length_low c.loop-rest.rest (omega arith) in omega arith
