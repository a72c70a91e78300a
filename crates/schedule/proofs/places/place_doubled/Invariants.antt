use mathlib.Core.Path.{◌≡◌}
use mathlib.Core.Bool.{false}
use Prim.Native.Nat.{◌-◌}
use lib.ListN.{take}
use Rattle.schedule.proofs.Doubled.{doubled_below}
use Rattle.schedule.proofs.places.place_doubled.Given as goal

abbrev pub invariant-loop-base : goal.invariant-loop-base
invariant-loop-base l = doubled_below l.base (take l.count l.s) ≡ false

abbrev pub decreases-loop-base : goal.decreases-loop-base
decreases-loop-base l = l.places - l.base
