use native.Mathlib.Omega.{arith}
use Prim.Native.Nat.{ℕ, ◌+◌, ◌*◌, ◌≤◌}
use native.Mathlib.Nat.{mul-le-mul}
use Rattle.schedule.proofs.FreePlaces.{sum_frees}
use Rattle.schedule.proofs.places.lowest_free.Goals as goal

square : (n : ℕ) → n ≤ 65535 → n * (n + 1) ≤ 65535 * 65536
square n h = let k : n + 1 ≤ 65536 = omega arith in mul-le-mul h k

pub overflow_mul-result : goal.overflow_mul-result
overflow_mul-result c = omega (arith, square c.args.count c.if-count-le65535.true)

pub overflow_sub-result : goal.overflow_sub-result
overflow_sub-result c = omega (arith, sum_frees c.args.places c.args.count _ c.args.s.now c.requires.0 c.requires.1 c.requires.3 c.place_sum-sum.ensures c.in-Some.is)

pub returns-in-Some : goal.returns-in-Some
returns-in-Some c = omega (arith, sum_frees c.args.places c.args.count _ c.args.s.now c.requires.0 c.requires.1 c.requires.3 c.place_sum-sum.ensures c.in-Some.is)
