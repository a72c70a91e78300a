use Prim.Native.Nat.{◌+◌, ◌*◌, ◌≤◌}
use Rattle.checksum.specs.Techniques.{Swapped}
use Rattle.checksum.proofs.last_octets.Given as goal

abbrev pub invariant-loop-n : goal.invariant-loop-n
invariant-loop-n l = (l.sum ≤ 4294967296 * (l.from + l.n * 2)) × Swapped l.s l.from (l.from + l.n * 2) l.sum
