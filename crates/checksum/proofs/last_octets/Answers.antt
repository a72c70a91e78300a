use mathlib.Core.Path.{◌≡◌, subst}
use Prim.Native.Nat.{ℕ, ◌+◌, ◌-◌, ◌*◌, ◌/◌}
use native.Mathlib.Omega.{arith}
use lib.ListN.{length}
use Rattle.checksum.specs.Techniques.{Swapped}
use Rattle.checksum.proofs.Swap.{swapped_add, swapped_none, swapped_one, swapped_two}
use Rattle.checksum.proofs.last_octets.Goals as goal

pub loop-n-init : goal.loop-n-init
loop-n-init c = let a = c.args in
    let e : a.from ≡ a.from + 0 * 2 = omega arith in
    (omega arith, subst (λ (k : ℕ). Swapped a.s.now a.from k 0) e (swapped_none a.s.now a.from))

pub loop-n-preserved : goal.loop-n-preserved
loop-n-preserved c = let a = c.args in
    let i = a.from + c.loop-n.n * 2 in
    let e : i + 2 ≡ a.from + (c.loop-n.n + 1) * 2 = omega arith in (
      omega arith,
      subst (λ (k : ℕ). Swapped a.s.now a.from k (c.loop-n.sum + c.little_endian-sum.result)) e
          (swapped_add a.s.now a.from i (i + 2) c.loop-n.sum c.little_endian-sum.result c.loop-n.invariant.1
          (swapped_two a.s.now i c.little_endian-sum.result (omega arith) (omega arith))),
    )

pub returns-then-end-s : goal.returns-then-end-s
returns-then-end-s c = let a = c.args in
    let end = a.from + (length a.s.now - a.from) / 2 * 2 in
    let e : a.from + c.loop-n.n * 2 ≡ end = omega arith in
    let before : Swapped a.s.now a.from end c.loop-n.sum = subst (λ (k : ℕ). Swapped a.s.now a.from k c.loop-n.sum) e c.loop-n.invariant.1 in (
      swapped_add a.s.now a.from end (length a.s.now) c.loop-n.sum c.little_endian-sum-then-end-s.result before
          (swapped_one a.s.now end c.little_endian-sum-then-end-s.result (omega arith) (omega arith) (omega arith)),
      omega arith,
    )

pub returns-else-end-s : goal.returns-else-end-s
returns-else-end-s c = let a = c.args in
    let e : a.from + c.loop-n.n * 2 ≡ length a.s.now = omega arith in
    (subst (λ (k : ℕ). Swapped a.s.now a.from k c.loop-n.sum) e c.loop-n.invariant.1, omega arith)
