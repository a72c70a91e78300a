use Rattle.std.proofs.Common.{ℕ, ◌^◌, ◌<◌, pos, sym, subst, le_trans, lit≤, le→leb}
use denote.Floats.{passes}
use lib.Ieee.{binary64, mul, of_int, in_float}
use Rattle.float.proofs.Below.{roll_under, scaled_below, asked}
use Rattle.float.proofs.scaled_unchecked.Goals as goal

-- `float::scaled_unchecked` meets its contract, by the law `roll_under`.

pub int_to_float-n : goal.int_to_float-n
unfolding in_float
int_to_float-n c = le→leb c.args.n (2 ^ 53) c.requires.2

pub truncating_f64_to_u64-requires : goal.truncating_f64_to_u64-requires
truncating_f64_to_u64-requires c = let x = c.args.roll in
    let n = c.args.n in
    let both = asked (mul binary64 x (of_int binary64 (pos n))) n (le_trans c.requires.2 (lit≤ tt)) (roll_under x n (passes _ c.well_formed.0.1) c.requires.0 c.requires.1 c.requires.2) in
    record { lower_bound = both.0; upper_bound = both.1 }

pub returns : goal.returns
returns c = let e = c.truncating_f64_to_u64.ensures in
    (e, subst (λ (r : ℕ). r < c.args.n) (sym e) (scaled_below c.args.roll c.args.n (passes _ c.well_formed.0.1) c.requires.0 c.requires.1 c.requires.2))
