use Rattle.multi_timer.specs.MultiTimer.{timers_exit}
use Rattle.clock.proofs.Calls.{deadline_single, deadline_edition, deadline_at, deadline_none, deadline_refused}
use Rattle.refusal.proofs.Laws.{ok_is}
use Rattle.clock.proofs.Clock.next_deadline_unchecked.Goals as goal

pub returns-in-Single : goal.returns-in-Single
returns-in-Single c = deadline_single (timers_exit c.args.self c.args.keys.now c.args.deadlines.now) c.in-Single.is c.single_deadline.ensures

pub returns-in-Ok-Some : goal.returns-in-Ok-Some
returns-in-Ok-Some c = deadline_at (timers_exit c.args.self c.args.keys.now c.args.deadlines.now) c.in-PerNumber.is c.earliest_deadline_unchecked-earliest.ensures (ok_is c.in-Ok-Some.is (rw c.in-Ok-Some.is at c.in-Ok-Some.field-0-is))

pub returns-in-Ok-None : goal.returns-in-Ok-None
returns-in-Ok-None c = deadline_none (timers_exit c.args.self c.args.keys.now c.args.deadlines.now) c.in-PerNumber.is c.earliest_deadline_unchecked-earliest.ensures (ok_is c.in-Ok-None.is (rw c.in-Ok-None.is at c.in-Ok-None.field-0-is))

pub returns-in-Err : goal.returns-in-Err
returns-in-Err c = deadline_refused (timers_exit c.args.self c.args.keys.now c.args.deadlines.now) c.in-PerNumber.is c.earliest_deadline_unchecked-earliest.ensures c.in-Err.is

pub returns-in-Edition : goal.returns-in-Edition
returns-in-Edition c = deadline_edition (timers_exit c.args.self c.args.keys.now c.args.deadlines.now) c.in-Edition.is c.single_deadline-in-Edition.ensures
