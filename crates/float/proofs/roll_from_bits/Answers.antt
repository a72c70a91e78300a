use Rattle.std.proofs.Common.{ℕ, ◌/◌, ◌^◌, ◌<◌, refl, le_of_lt, arith, le→leb, rules}
use lib.Ieee.{in_float, of_bits}
use Rattle.float.proofs.Roll.{roll_in_bounds_lem}
use Rattle.float.proofs.roll_from_bits.Goals as goal

-- `float::roll_from_bits` meets its contract: the literal is 2 ^ -53.

small : (n : ℕ) → n < 2 ^ 64 → n / 2048 < 2 ^ 53
small n h = omega arith

pub int_to_float-result : goal.int_to_float-result
unfolding in_float
int_to_float-result c = le→leb (c.args.bits / 2048) (2 ^ 53) (le_of_lt (small c.args.bits (search rules)))

pub returns : goal.returns
unfolding of_bits
returns c = (refl, roll_in_bounds_lem (c.args.bits / 2048) (small c.args.bits (search rules)))
