use mathlib.Core.Path.{◌≡◌}
use lib.ListN.{length, take}
use Rattle.schedule.specs.Structs.{rows}
use Rattle.schedule.proofs.owned.packed_all.Given as goal

abbrev pub invariant-loop-i : goal.invariant-loop-i
invariant-loop-i l = (length l.r ≡ 8) × (take l.i l.r ≡ take l.i (rows l.s))
