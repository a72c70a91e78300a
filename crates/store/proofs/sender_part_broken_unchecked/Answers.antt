use Prim.Native.Nat.{◌+◌, ◌-◌, min}
use mathlib.Core.Path.{◌≡◌}
use native.Mathlib.Omega.{arith}
use Rattle.store.proofs.Scans.{part_broken_lem}
use Rattle.store.proofs.sender_part_broken_unchecked.Goals as goal

pub returns : goal.returns
returns c = let a = c.args in
    let n = a.to - a.from in
    let m = min a.count n in
    let l : c.min.result ≡ m = c.min.ensures in
    let first : a.from + c.min.result - a.from ≡ m = omega arith in
    let second : a.to - (a.from + c.min.result) ≡ n - m = omega arith in
    rw (c.slots_outside_unchecked-outstanding.ensures, c.slots_outside_unchecked-others.ensures, first, second, l, c.highest_mark-high.ensures) (part_broken_lem a.selective a.store.now a.from n a.count)
