use mathlib.Core.Path.{◌≡◌}
use Rattle.schedule.proofs.Lists.{shifted}
use Rattle.schedule.proofs.order.remove_first.Given as goal

abbrev pub invariant-loop-i : goal.invariant-loop-i
invariant-loop-i l = l.s ≡ shifted l.i l.fn.s
