use mathlib.Core.Path.{◌≡◌}
use Prim.Native.Nat.{◌≤◌, ◌-◌, ◌*◌, ◌+◌}
use lib.ListN.{take, drop}
use Rattle.schedule.specs.Internal.{sum_from}
use Rattle.schedule.proofs.places.place_sum.Given as goal

abbrev pub invariant-loop-i : goal.invariant-loop-i
invariant-loop-i l = (l.i ≤ l.count) × (l.a + l.b + (l.c + l.d) ≤ l.i * 65535) × (sum_from l.count (l.a + l.b + (l.c + l.d)) (drop l.i (take l.count l.s)) ≡ sum_from l.count 0 (take l.count l.s))

abbrev pub decreases-loop-i : goal.decreases-loop-i
decreases-loop-i l = l.count - l.i
