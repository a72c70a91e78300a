use mathlib.Core.Path.{◌∙◌}
use Rattle.timeouts.proofs.Numbers.{can_cancelled, fires_number}
use Rattle.timeouts.proofs.fire_number.Goals as goal

pub cancel_number_unchecked-clock-requires : goal.cancel_number_unchecked-clock-requires
cancel_number_unchecked-clock-requires c = c.requires.good.outgoing.clock.state

pub timed_out-requires : goal.timed_out-requires
timed_out-requires c = can_cancelled _ _ _ _ c.cancel_number_unchecked-clock.ensures c.requires

pub shape_of-keys : goal.shape_of-keys
shape_of-keys c = c.timed_out.auto.keys ∙ c.cancel_number_unchecked-clock.auto.keys

pub shape_of-deadlines : goal.shape_of-deadlines
shape_of-deadlines c = c.timed_out.auto.deadlines ∙ c.cancel_number_unchecked-clock.auto.deadlines

pub returns : goal.returns
returns c = fires_number _ _ _ _ c.cancel_number_unchecked-clock.ensures _ c.timed_out.ensures
