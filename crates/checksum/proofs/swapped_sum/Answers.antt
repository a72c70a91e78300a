use Prim.Native.Nat.{ℕ, ◌+◌, ◌*◌, ◌/◌, ◌≤◌, ◌<◌}
use mathlib.Core.Path.{◌≡◌, subst}
use mathlib.Core.List.{List}
use native.Mathlib.Omega.{arith}
use lib.ListN.{length}
use Rattle.checksum.specs.Techniques.{Swapped}
use Rattle.checksum.proofs.Swap.{swapped_add, swapped_none, swapped_all}
use Rattle.checksum.proofs.swapped_sum.Goals as goal

bound : (a w n : ℕ) → a ≤ 4294967296 * n → w < 4294967296 → a + w ≤ 4294967296 * (n + 1)
bound a w n h k = omega arith

moved : (s : List ℕ) (i k r t : ℕ) → i ≡ k → r ≡ t → Swapped s 0 i r → Swapped s 0 k t
moved s i k r t p q h = subst (λ (x : ℕ). Swapped s 0 x t) p (subst (λ (x : ℕ). Swapped s 0 i x) q h)

pub loop-n-init : goal.loop-n-init
loop-n-init c = (omega arith, omega arith, omega arith, omega arith, omega arith, swapped_none c.args.s.now 0)

pub loop-n-preserved : goal.loop-n-preserved
loop-n-preserved c = let s = c.args.s.now in
    let n = c.loop-n.n in
    let i = n * 16 in
    let t = c.loop-n.a + c.loop-n.b + c.loop-n.c + c.loop-n.d in
    let w = c.four_octets-a.result in
    let x = c.four_octets-b.result in
    let y = c.four_octets-c.result in
    let z = c.four_octets-d.result in
    let e1 : Swapped s 0 (i + 4) (t + w) = swapped_add s 0 i (i + 4) t w c.loop-n.invariant.5 c.four_octets-a.ensures.0 in
    let e2 : Swapped s 0 (i + 4 + 4) (t + w + x) = swapped_add s 0 (i + 4) (i + 4 + 4) (t + w) x e1 c.four_octets-b.ensures.0 in
    let e3 : Swapped s 0 (i + 4 + 4 + 4) (t + w + x + y) = swapped_add s 0 (i + 4 + 4) (i + 4 + 4 + 4) (t + w + x) y e2 c.four_octets-c.ensures.0 in
    let e4 : Swapped s 0 (i + 4 + 4 + 4 + 4) (t + w + x + y + z) =
    swapped_add s 0 (i + 4 + 4 + 4) (i + 4 + 4 + 4 + 4) (t + w + x + y) z e3 c.four_octets-d.ensures.0 in (
      omega arith,
      bound c.loop-n.a w n c.loop-n.invariant.1 c.four_octets-a.ensures.1,
      bound c.loop-n.b x n c.loop-n.invariant.2 c.four_octets-b.ensures.1,
      bound c.loop-n.c y n c.loop-n.invariant.3 c.four_octets-c.ensures.1,
      bound c.loop-n.d z n c.loop-n.invariant.4 c.four_octets-d.ensures.1,
      moved s (i + 4 + 4 + 4 + 4) ((n + 1) * 16) _ _ (omega arith) (omega arith) e4,
    )

pub returns : goal.returns
returns c = let s = c.args.s.now in
    let t = c.loop-n.a + c.loop-n.b + c.loop-n.c + c.loop-n.d in
    let e : Swapped s 0 (length s / 16 * 16) t = moved s (c.loop-n.n * 16) (length s / 16 * 16) t t (omega arith) (omega arith) c.loop-n.invariant.5 in
    (swapped_all s (t + c.last_octets.result) (swapped_add s 0 (length s / 16 * 16) (length s) t c.last_octets.result e c.last_octets.ensures.0), omega arith)
