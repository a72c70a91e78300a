use Prim.Native.Nat.{◌+◌, ◌-◌, ◌*◌, ◌%◌, ◌≤◌}
use mathlib.Core.Path.{◌≡◌}
use lib.ListN.{length}
use Rattle.store.specs.Numbers.{payloads_from}
use Rattle.store.proofs.payloads_length_unchecked.Given as goal

abbrev pub invariant-loop : goal.invariant-loop
invariant-loop l = (l.total ≤ l.counter * 1400) × (l.total + length (payloads_from l.store l.window (l.first + l.counter) (l.count - l.counter)) ≡ length (payloads_from l.store l.window l.first l.count)) × (l.slot ≡ (l.first + l.counter) % l.window)
