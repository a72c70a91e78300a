use Prim.Native.Nat.{◌+◌}
use native.Mathlib.Omega.{arith}
use lib.Bits.{and_mask}
use Rattle.checksum.specs.Rfc1071.{ones_add}
use Rattle.checksum.proofs.ones_add.Goals as goal

pub overflow_add-result : goal.overflow_add-result
overflow_add-result c = omega (arith, and_mask (c.args.a + c.args.b) 16)

pub overflow_cast-result : goal.overflow_cast-result
overflow_cast-result c = omega (arith, and_mask (c.args.a + c.args.b) 16)

pub returns : goal.returns
unfolding ones_add
returns c = omega (arith, and_mask (c.args.a + c.args.b) 16)
