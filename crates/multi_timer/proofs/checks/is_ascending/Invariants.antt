use Rattle.std.proofs.Common.{◌≡◌, suc, ◌-◌, ◌≤◌, ◌&&◌, get_or, take}
use Rattle.multi_timer.specs.Map.{ascending, ascending_from}
use Rattle.multi_timer.proofs.Lists.{rest}
use Rattle.multi_timer.proofs.checks.is_ascending.Given as goal

abbrev pub invariant-loop-i : goal.invariant-loop-i
invariant-loop-i l = (1 ≤ l.i) × ((l.sorted && ascending_from (suc (get_or l.keys (l.i - 1) 0)) (rest l.count l.i l.keys)) ≡ ascending (take l.count l.keys))
