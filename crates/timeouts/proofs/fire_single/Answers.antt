use Rattle.timeouts.proofs.Single.{fire_timer_held, fire_can_single, fire_single_is}
use Rattle.timeouts.proofs.fire_single.Goals as goal

pub cancel_unchecked-clock-requires : goal.cancel_unchecked-clock-requires
cancel_unchecked-clock-requires c = fire_timer_held c.requires

pub timed_out-requires : goal.timed_out-requires
timed_out-requires c = fire_can_single c.requires c.cancel_unchecked-clock.ensures

pub returns : goal.returns
returns c = fire_single_is c.requires c.cancel_unchecked-clock.ensures c.args.max_retransmissions c.timeout_of-of.ensures c.timed_out.ensures
