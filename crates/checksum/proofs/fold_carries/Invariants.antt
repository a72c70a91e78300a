use Prim.Native.Nat.{◌<◌}
use mathlib.Core.Path.{◌≡◌}
use Rattle.checksum.specs.Techniques.{folded}
use Rattle.checksum.proofs.fold_carries.Given as goal

abbrev pub invariant-loop-s : goal.invariant-loop-s
invariant-loop-s l = (l.s < 18446744073709551616) × (folded l.s ≡ folded l.sum)

abbrev pub decreases-loop-s : goal.decreases-loop-s
decreases-loop-s l = l.s
