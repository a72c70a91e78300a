use Rattle.std.proofs.Common.{ℕ, ◌+◌, ◌-◌, ◌*◌, ◌/◌, ◌%◌, ◌^◌, ◌≤◌, sym, ap, ◌∙◌, subst, arith}
use lib.Ieee.{binary64, to_bits}
use lib.Ieee.Nearest.{closest}
use lib.Ieee.Positive.{num, den}
use denote.Floats.{passes}
use Rattle.float.proofs.Sticky.{sticky_le}
use Rattle.duration.proofs.Significand.{Significand, parts, rest, span_significand, span_number}
use Rattle.duration.proofs.nanos_below_2_pow_21.Goals as goal
use Rattle.duration.proofs.nanos_below_2_pow_21.Goals.{After-sticky_u64, Start}

-- `duration::nanos_below_2_pow_21` meets its contract, by `span_significand`.

-- the significand of the argument

known : (c : goal.Start) → Significand (num c.args.x) (den c.args.x) (to_bits binary64 c.args.x)
known c = span_significand c.args.x (passes _ c.well_formed.0.1) c.requires

-- the 53 significand, as the code has them

abbrev significand-of : goal.Start → ℕ
significand-of c = to_bits binary64 c.args.x % 4503599627370496 + 4503599627370496

one-digit : (c : goal.After-sticky_u64) → c.sticky_u64.result ≤ 1
one-digit c = subst (λ (z : ℕ). z ≤ 1) (sym c.sticky_u64.ensures) (sticky_le (rest (significand-of (goal.at.overflow_add-n c).Start)))

-- the field is 992 at least, so the shift is 53 at most

short : (f : ℕ) → 992 ≤ f → 1045 - f ≤ 53
short f h = omega arith

pub float_to_bits-bits : goal.float_to_bits-bits
float_to_bits-bits c = span_number c.args.x c.requires

pub overflow_add-n : goal.overflow_add-n
overflow_add-n c = omega (arith, one-digit (goal.at.overflow_add-n c).After-sticky_u64)

pub overflow_sub-field : goal.overflow_sub-field
overflow_sub-field c = omega (arith, (known (goal.at.overflow_sub-field c).Start).most)

pub closest_shifted-requires : goal.closest_shifted-requires
closest_shifted-requires c = (short _ (known (goal.at.closest_shifted-requires c).Start).least, omega (arith, one-digit (goal.at.closest_shifted-requires c).After-sticky_u64))

pub returns : goal.returns
returns c = let k = 1045 - to_bits binary64 c.args.x / 4503599627370496 in
    c.closest_shifted.ensures
    ∙ ap (λ (z : ℕ). closest (2 * parts (significand-of (goal.at.returns c).Start) + z) (2 ^ k)) c.sticky_u64.ensures
    ∙ sym (known (goal.at.returns c).Start).nanos
