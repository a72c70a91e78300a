use mathlib.Core.Path.{◌≡◌}
use Prim.Native.Nat.{◌-◌, ◌<◌}
use lib.ListN.{take}
use Rattle.schedule.specs.Record.{free_from}
use Rattle.schedule.proofs.places.lowest_unmarked.Given as goal

abbrev pub invariant-loop-base : goal.invariant-loop-base
invariant-loop-base l = (l.base < l.places) × (free_from (l.places - l.base) l.base (take l.count l.s) ≡ free_from l.places 0 (take l.count l.s))

abbrev pub decreases-loop-base : goal.decreases-loop-base
decreases-loop-base l = l.places - l.base
