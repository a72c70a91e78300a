use Prim.Native.Nat.{◌-◌}
use mathlib.Core.Path.{◌≡◌}
use Rattle.store.specs.Scans.{slots_outside}
use Rattle.store.proofs.slots_outside_unchecked.Given as goal

abbrev pub invariant-loop-slot : goal.invariant-loop-slot
invariant-loop-slot l = (l.outside ≡ slots_outside l.low l.high l.store l.from (l.slot - l.from))
