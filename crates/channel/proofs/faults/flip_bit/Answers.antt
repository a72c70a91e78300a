use native.Mathlib.Omega.{arith}
use Prim.Native.Nat.{ℕ, ◌^◌}
use mathlib.Core.Path.{ap, ◌∙◌}
use native.Mathlib.Nat.{one-mul}
use lib.ListN.{set, get_or}
use lib.Bits.{bit_xor}
use lib.Pow.{shl_exact}
use lib.Dec.{lit<}
use Rattle.octets.specs.Flip.{flip}
use Rattle.channel.proofs.faults.flip_bit.Goals as goal

pub returns : goal.returns
unfolding flip
returns c = let a = c.args in
    ap (λ (m : ℕ). set a.d.now a.byte (bit_xor (get_or a.d.now a.byte 0) m)) (shl_exact {a = 1} 1 a.bit 8 (lit< tt) (omega arith) ∙ one-mul (2 ^ a.bit))
