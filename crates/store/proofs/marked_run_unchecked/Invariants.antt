use Prim.Native.Nat.{◌+◌, ◌-◌, ◌%◌}
use mathlib.Core.Path.{◌≡◌}
use Rattle.store.specs.Numbers.{marked_run}
use Rattle.store.proofs.marked_run_unchecked.Given as goal

abbrev pub invariant-loop-k : goal.invariant-loop-k
invariant-loop-k l = (l.k + marked_run l.mark l.store l.window (l.first + l.k) (l.count - l.k) ≡ marked_run l.mark l.store l.window l.first l.count) × (l.slot ≡ (l.first + l.k) % l.window)
