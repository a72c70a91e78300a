use Rattle.std.proofs.Common.{◌≡◌, ℕ, ◌*◌, ◌%◌, ◌^◌, ◌<◌, ◌≤◌, sym, ap, ◌∙◌, subst, mod-lt, le_antisymm, div-le_self, add-one, arith, pow_pos, pow_mono}
use lib.Ieee.Nearest.{closest}
use Rattle.float.proofs.Sticky.{closest_lt, closest_gt, closest_eq}
use Rattle.duration.proofs.Significand.{shifted}
use Rattle.duration.proofs.closest_shifted.Goals as goal
use Rattle.duration.proofs.closest_shifted.Goals.{Start}

-- the divisor, as the shift makes it

divisor : (c : goal.Start) → 1 * 2 ^ c.args.k % 2 ^ 64 ≡ 2 ^ c.args.k
divisor c = shifted c.args.k c.requires.0

some : (c : goal.Start) → 0 < 1 * 2 ^ c.args.k % 2 ^ 64
some c = subst (λ (z : ℕ). 0 < z) (sym (divisor c)) (pow_pos c.args.k)

most : (c : goal.Start) → 1 * 2 ^ c.args.k % 2 ^ 64 ≤ 9007199254740992
most c = subst (λ (z : ℕ). z ≤ 9007199254740992) (sym (divisor c)) (pow_mono c.requires.0)

pub nonzero_div-q : goal.nonzero_div-q
nonzero_div-q c = omega (arith, some (goal.at.nonzero_div-q c).Start)

pub nonzero_rem-r : goal.nonzero_rem-r
nonzero_rem-r c = omega (arith, some (goal.at.nonzero_rem-r c).Start)

pub overflow_mul-r : goal.overflow_mul-r
overflow_mul-r c = omega (arith, mod-lt c.args.a (some (goal.at.overflow_mul-r c).Start), most (goal.at.overflow_mul-r c).Start)

pub returns-then-r-b : goal.returns-then-r-b
returns-then-r-b c = sym (closest_lt _ _ c.if-r-b.true) ∙ ap (closest c.args.a) (divisor (goal.at.returns-then-r-b c).Start)

pub overflow_add-result : goal.overflow_add-result
overflow_add-result c = omega (arith, div-le_self c.args.a (1 * 2 ^ c.args.k % 2 ^ 64))

pub returns-then-b-r : goal.returns-then-b-r
returns-then-b-r c = add-one _ ∙ sym (closest_gt _ _ c.if-b-r.true) ∙ ap (closest c.args.a) (divisor (goal.at.returns-then-b-r c).Start)

pub overflow_add-result-2 : goal.overflow_add-result-2
overflow_add-result-2 c = omega (arith, div-le_self c.args.a (1 * 2 ^ c.args.k % 2 ^ 64))

pub returns : goal.returns
returns c = sym (closest_eq _ _ (le_antisymm c.if-b-r.false c.if-r-b.false)) ∙ ap (closest c.args.a) (divisor (goal.at.returns c).Start)
