use Rattle.std.proofs.Common.{◌≡◌, ℕ, ◌/◌, ◌%◌, ◌^◌, ◌<◌, ◌≤◌, pos, refl, arith, le→leb, rules}
use lib.Ieee.{binary64, of_int, of_bits, in_float}
use Rattle.duration.proofs.as_secs_f64.Goals as goal

-- `duration::as_secs_f64` meets its contract: the two casts are of numbers below 2 ^ 53, and the literal 1000000000.0 is 10 ^ 9.

small : (n : ℕ) → n < 2 ^ 64 → n / 1000000000 ≤ 2 ^ 53
small n h = omega arith

rest : (n : ℕ) → n % 1000000000 ≤ 2 ^ 53
rest n = omega arith

billion : of_bits binary64 4741671816366391296 ≡ of_int binary64 (pos 1000000000)
unfolding of_bits of_int
billion = refl

pub int_to_float-result : goal.int_to_float-result
unfolding in_float
int_to_float-result c = le→leb (c.args.ns / 1000000000) (2 ^ 53) (small c.args.ns (search rules))

pub int_to_float-result-2 : goal.int_to_float-result-2
unfolding in_float
int_to_float-result-2 c = le→leb (c.args.ns % 1000000000) (2 ^ 53) (rest c.args.ns)

pub returns : goal.returns
returns c = rw billion
