use Prim.Native.Nat.{◌+◌, ◌-◌, ◌≤◌}
use mathlib.Core.Path.{◌≡◌}
use lib.ListN.{length}
use Rattle.window.specs.Slots.{sender}
use Rattle.window.specs.Resending.{datagrams_from}
use Rattle.window.proofs.Resending.{placed}
use Rattle.window.proofs.SendWindow.write_datagrams_unchecked.Given as goal

abbrev pub invariant-loop-n : goal.invariant-loop-n
invariant-loop-n l = (length l.out ≡ length l.initial.out) × (l.at + length (datagrams_from (sender l.self l.store) l.n (l.first + l.count - l.n)) ≤ length l.out) × (placed l.out l.at (datagrams_from (sender l.self l.store) l.n (l.first + l.count - l.n)) ≡ placed l.initial.out 0 (datagrams_from (sender l.self l.store) l.first l.count))
