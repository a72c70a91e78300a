use Rattle.std.proofs.Common.{◌≡◌, ◌≤◌, take}
use Rattle.multi_timer.specs.Internal.{search_in, later}
use Rattle.multi_timer.proofs.Lists.{rest}
use Rattle.multi_timer.proofs.entries.search.Given as goal

abbrev pub invariant-loop-i : goal.invariant-loop-i
invariant-loop-i l = (l.i ≤ l.count) × (later l.i (search_in l.key (rest l.count l.i l.keys)) ≡ search_in l.key (take l.count l.keys))
