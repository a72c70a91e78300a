use Prim.Native.Nat.{◌+◌, ◌-◌, ◌%◌}
use mathlib.Core.Path.{◌≡◌}
use lib.ListN.{length}
use Rattle.store.specs.Numbers.{payloads_from, written_at}
use Rattle.store.proofs.copy_payloads_unchecked.Given as goal

abbrev pub invariant-loop : goal.invariant-loop
invariant-loop l = (length l.buffer ≡ length l.initial.buffer) × (l.start + length (payloads_from l.store l.window (l.first + l.counter) (l.count - l.counter)) ≡ l.place + length (payloads_from l.store l.window l.first l.count)) × (written_at l.buffer l.start (payloads_from l.store l.window (l.first + l.counter) (l.count - l.counter)) ≡ written_at l.initial.buffer l.place (payloads_from l.store l.window l.first l.count)) × (l.slot ≡ (l.first + l.counter) % l.window)
