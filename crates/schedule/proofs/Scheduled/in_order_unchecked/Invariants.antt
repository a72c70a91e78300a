use Rattle.std.proofs.Common.{◌≡◌, take, drop}
use Rattle.schedule.specs.Record.{ordered_from}
use Rattle.schedule.proofs.Structs.{empty, leaves}
use Rattle.schedule.proofs.Scheduled.in_order_unchecked.Given as goal

-- what is left to look at is in order after p where the whole is in order
abbrev pub invariant-loop-q : goal.invariant-loop-q
invariant-loop-q l = ordered_from leaves l.p (drop l.q-index (take l.count l.s)) ≡ ordered_from leaves empty (take l.count l.s)
