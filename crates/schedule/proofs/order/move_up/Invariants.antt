use mathlib.Core.Path.{◌≡◌}
use Rattle.schedule.specs.Internal.{raised}
use Rattle.schedule.proofs.order.move_up.Given as goal

abbrev pub invariant-loop-i : goal.invariant-loop-i
invariant-loop-i l = l.s ≡ raised l.n l.i l.fn.s
