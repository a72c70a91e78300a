use Prim.Native.Nat.{◌+◌, ◌*◌, ◌≤◌}
use lib.ListN.{length}
use Rattle.checksum.specs.Techniques.{Swapped}
use Rattle.checksum.proofs.swapped_sum.Given as goal

abbrev pub invariant-loop-n : goal.invariant-loop-n
invariant-loop-n l = (l.blocks * 16 ≤ length l.s) × (l.a ≤ 4294967296 * l.n) × (l.b ≤ 4294967296 * l.n) × (l.c ≤ 4294967296 * l.n) × (l.d ≤ 4294967296 * l.n) × Swapped l.s 0 (l.n * 16) (l.a + l.b + l.c + l.d)
