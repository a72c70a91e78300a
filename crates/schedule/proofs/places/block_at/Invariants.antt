use Rattle.std.proofs.Common.{map, reverse}
use Rattle.schedule.proofs.Marks.{Found}
use Rattle.schedule.proofs.places.block_at.Given as goal

abbrev pub invariant-loop-r : goal.invariant-loop-r
invariant-loop-r l = Found (reverse (map (λ r. r.now) l.yielded)) l.base l.used l.doubled l.beyond
