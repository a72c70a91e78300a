use Rattle.multi_timer.specs.MultiTimer.{timers_exit}
use Rattle.clock.proofs.Calls.{cancel_number_law}
use Rattle.clock.proofs.Clock.cancel_number_unchecked.Goals as goal

pub returns : goal.returns
returns c = cancel_number_law (timers_exit c.args.self c.args.keys.now c.args.deadlines.now) c.args.seq c.cancel_timer_unchecked-t.ensures c.with_timers.ensures
