use mathlib.Core.Path.{◌≡◌}
use Prim.Native.Nat.{◌≤◌, ◌+◌, ◌*◌}
use lib.ListN.{take, drop}
use Rattle.schedule.specs.Internal.{sum_from}
use Rattle.schedule.proofs.places.sum_from.Given as goal

abbrev pub invariant-loop-r : goal.invariant-loop-r
invariant-loop-r l = (l.total ≤ (l.from + l.r-index) * 65535) × (sum_from l.count l.total (drop (l.from + l.r-index) (take l.count l.s)) ≡ sum_from l.count l.sum (drop l.from (take l.count l.s)))
