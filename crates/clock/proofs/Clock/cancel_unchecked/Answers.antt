use Rattle.clock.specs.Clock.{cancel}
use Rattle.clock.proofs.Clock.cancel_unchecked.Goals as goal

pub returns : goal.returns
unfolding cancel
returns c = rw (c.with_timer.ensures, c.cancelled_unchecked.ensures)
