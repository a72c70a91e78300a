use mathlib.Core.Path.{◌∙◌}
use native.Mathlib.Omega.{arith}
use lib.Bits.{and_mask}
use Rattle.checksum.proofs.Carry.{carried_fold}
use Rattle.checksum.proofs.fold_carries.Goals as goal

pub overflow_add-s : goal.overflow_add-s
overflow_add-s c = omega (arith, and_mask c.loop-s.s 16)

pub loop-s-smaller : goal.loop-s-smaller
loop-s-smaller c = omega (arith, and_mask c.loop-s.s 16)

pub loop-s-preserved : goal.loop-s-preserved
loop-s-preserved c = let m = and_mask c.loop-s.s 16 in
    (omega (arith, m), rw m (carried_fold c.loop-s.s ∙ c.loop-s.invariant.1))
