use Rattle.std.proofs.Common.{ℕ, ◌+◌, ◌-◌, ◌*◌, ◌/◌, ◌%◌, ◌^◌, ◌<◌, ◌≤◌, sym, ap, ◌∙◌, subst, le_trans, mod-lt, arith, lit≤}
use lib.Ieee.{binary64, to_bits}
use lib.Ieee.Nearest.{closest}
use lib.Ieee.Positive.{num, den}
use denote.Floats.{passes}
use Rattle.duration.proofs.Significand.{Whole, Shift, from_21_significand, from_21_number, shift_of, part_most, shifted}
use Rattle.duration.proofs.nanos_from_2_pow_21.Goals as goal
use Rattle.duration.proofs.nanos_from_2_pow_21.Goals.{Start}

known : (c : goal.Start) → Whole (num c.args.x) (den c.args.x) (to_bits binary64 c.args.x)
known c = from_21_significand c.args.x (passes _ c.well_formed.0.1) c.requires

-- the significand, and the shift, as the code has them

abbrev significand : goal.Start → ℕ
significand c = to_bits binary64 c.args.x % 4503599627370496 + 4503599627370496

abbrev places : goal.Start → ℕ
places c = 1075 - to_bits binary64 c.args.x / 4503599627370496

short : (f : ℕ) → 1044 ≤ f → 1075 - f ≤ 31
short f h = omega arith

long : (f : ℕ) → f ≤ 1056 → 19 ≤ 1075 - f
long f h = omega arith

fifty-three : (b : ℕ) → b % 4503599627370496 + 4503599627370496 < 2 ^ 53
fifty-three b = omega arith

shift : (c : goal.Start) → Shift (significand c) (1 * 2 ^ places c % 2 ^ 64)
shift c = shift_of (significand c) (places c) (fifty-three (to_bits binary64 c.args.x)) (long _ (known c).most) (short _ (known c).least)

pub float_to_bits-bits : goal.float_to_bits-bits
float_to_bits-bits c = from_21_number c.args.x c.requires

pub overflow_sub-places : goal.overflow_sub-places
overflow_sub-places c = omega (arith, (known (goal.at.overflow_sub-places c).Start).most)

pub overflow_shl-unit : goal.overflow_shl-unit
overflow_shl-unit c = omega (arith, short _ (known (goal.at.overflow_shl-unit c).Start).least)

pub nonzero_div-whole : goal.nonzero_div-whole
nonzero_div-whole c = omega (arith, (shift (goal.at.nonzero_div-whole c).Start).some)

pub overflow_mul-whole : goal.overflow_mul-whole
overflow_mul-whole c = omega (arith, (shift (goal.at.overflow_mul-whole c).Start).seconds)

pub nonzero_rem-significand-2 : goal.nonzero_rem-significand-2
nonzero_rem-significand-2 c = omega (arith, (shift (goal.at.nonzero_rem-significand-2 c).Start).some)

pub overflow_mul-significand : goal.overflow_mul-significand
overflow_mul-significand c = omega (arith, (shift (goal.at.overflow_mul-significand c).Start).left)

pub closest_shifted-requires : goal.closest_shifted-requires
closest_shifted-requires c = (le_trans (short _ (known (goal.at.closest_shifted-requires c).Start).least) (lit≤ tt), omega (arith, (shift (goal.at.closest_shifted-requires c).Start).left))

pub overflow_add-result : goal.overflow_add-result
overflow_add-result c = let u = places (goal.at.overflow_add-result c).Start in
    let e = shifted u (le_trans (short _ (known (goal.at.overflow_add-result c).Start).least) (lit≤ tt)) in
    let p : c.closest_shifted.result ≤ 1000000000 = subst (λ (z : ℕ). z ≤ 1000000000) (sym c.closest_shifted.ensures) (part_most (significand (goal.at.overflow_add-result c).Start % (1 * 2 ^ u % 2 ^ 64)) (2 ^ u) (subst (λ (z : ℕ). significand (goal.at.overflow_add-result c).Start % (1 * 2 ^ u % 2 ^ 64) < z) e (mod-lt (significand (goal.at.overflow_add-result c).Start) (shift (goal.at.overflow_add-result c).Start).some))) in
    omega (arith, (shift (goal.at.overflow_add-result c).Start).seconds)

pub returns : goal.returns
returns c = let u = places (goal.at.returns c).Start in
    ap (λ (z : ℕ). significand (goal.at.returns c).Start / (1 * 2 ^ u % 2 ^ 64) * 1000000000 + z) c.closest_shifted.ensures
    ∙ ap (λ (v : ℕ). significand (goal.at.returns c).Start / v * 1000000000 + closest (significand (goal.at.returns c).Start % v * 1000000000) (2 ^ u)) (shifted u (le_trans (short _ (known (goal.at.returns c).Start).least) (lit≤ tt)))
    ∙ sym (known (goal.at.returns c).Start).nanos
