use Rattle.multi_timer.specs.MultiTimer.{timers_exit}
use Rattle.clock.proofs.Calls.{due_single, due_edition, due_numbers, due_none}
use Rattle.clock.proofs.Clock.due_unchecked.Goals as goal

pub returns-in-Single : goal.returns-in-Single
returns-in-Single c = due_single (timers_exit c.args.self c.args.keys.now c.args.deadlines.now) c.args.now c.args.outstanding c.in-Single.is c.single_due.ensures

pub returns-in-Some : goal.returns-in-Some
returns-in-Some c = due_numbers (timers_exit c.args.self c.args.keys.now c.args.deadlines.now) c.args.now c.args.outstanding c.requires.0.state c.next_expired_unchecked-next.ensures c.in-PerNumber.is c.in-Some.is

pub returns-in-None : goal.returns-in-None
returns-in-None c = due_none (timers_exit c.args.self c.args.keys.now c.args.deadlines.now) c.args.now c.args.outstanding c.requires.0.state c.next_expired_unchecked-next.ensures c.in-PerNumber.is c.in-None.is

pub returns-in-Edition : goal.returns-in-Edition
returns-in-Edition c = due_edition (timers_exit c.args.self c.args.keys.now c.args.deadlines.now) c.args.now c.args.outstanding c.in-Edition.is c.single_due-in-Edition.ensures
