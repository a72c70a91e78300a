use Prim.Native.Nat.{◌+◌, ◌-◌, ◌%◌}
use mathlib.Core.Path.{◌≡◌}
use Rattle.store.specs.Numbers.{marked_count}
use Rattle.store.proofs.marked_count_unchecked.Given as goal

abbrev pub invariant-loop : goal.invariant-loop
invariant-loop l = (l.total + marked_count l.mark l.store l.window (l.first + l.counter) (l.count - l.counter) ≡ marked_count l.mark l.store l.window l.first l.count) × (l.slot ≡ (l.first + l.counter) % l.window)
