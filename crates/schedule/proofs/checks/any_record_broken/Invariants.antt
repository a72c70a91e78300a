use mathlib.Core.Path.{◌≡◌}
use lib.ListN.{drop, take}
use Rattle.schedule.specs.Record.{vacant}
use Rattle.schedule.specs.Internal.{any_record_broken}
use Rattle.schedule.proofs.checks.any_record_broken.Given as goal

abbrev pub invariant-loop-r : goal.invariant-loop-r
invariant-loop-r l = any_record_broken l.next l.places l.front (drop l.r-index (take l.count l.s)) ≡ any_record_broken l.next l.places vacant (take l.count l.s)
