use Rattle.lent_events.specs.Checks.{is_late}
use Rattle.lent_events.proofs.is_late.Goals as goal

pub returns : goal.returns
unfolding is_late
returns c = c.any_above.ensures
