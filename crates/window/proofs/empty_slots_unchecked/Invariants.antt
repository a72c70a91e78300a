use Prim.Native.Nat.{◌-◌}
use mathlib.Core.Bool.{true}
use mathlib.Core.Path.{◌≡◌}
use lib.ListN.{length}
use Rattle.store.specs.Clean.{CleanSlots}
use Rattle.window.specs.Slots.{empty_from}
use Rattle.window.proofs.empty_slots_unchecked.Given as goal

abbrev pub invariant-loop-n : goal.invariant-loop-n
invariant-loop-n l = (length l.store ≡ length l.initial.store) × (empty_from l.store l.window l.n (l.until - l.n) ≡ empty_from l.initial.store l.window l.from (l.until - l.from)) × (l.clean ≡ true → CleanSlots l.store l.window)
