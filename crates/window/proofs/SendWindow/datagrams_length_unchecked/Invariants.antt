use Prim.Native.Nat.{◌+◌, ◌-◌, ◌*◌, ◌≤◌}
use mathlib.Core.Path.{◌≡◌}
use lib.ListN.{length}
use Rattle.window.specs.Slots.{sender}
use Rattle.window.specs.Resending.{datagrams_from}
use Rattle.window.proofs.SendWindow.datagrams_length_unchecked.Given as goal

abbrev pub invariant-loop-n : goal.invariant-loop-n
invariant-loop-n l = (l.total ≤ (l.n - l.first) * 1410) × (l.total + length (datagrams_from (sender l.self l.store) l.n (l.first + l.count - l.n)) ≡ length (datagrams_from (sender l.self l.store) l.first l.count))
