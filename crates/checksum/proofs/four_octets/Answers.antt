use native.Mathlib.Omega.{arith}
use Rattle.checksum.proofs.Swap.{swapped_four}
use Rattle.checksum.proofs.four_octets.Goals as goal

pub returns : goal.returns
returns c = let a = c.args in
    (swapped_four a.s.now a.i c.little_endian.result (omega arith) c.little_endian.ensures.0, c.little_endian.ensures.1)
