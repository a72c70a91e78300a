use mathlib.Core.Path.{◌∙◌}
use Rattle.clock.specs.EditionClock.{on_send}
use Rattle.clock.proofs.Clock.on_send.Goals as goal

pub returns-in-None : goal.returns-in-None
unfolding on_send
returns-in-None c = c.started.ensures ∙ rw c.in-None.is

pub returns-in-Some : goal.returns-in-Some
unfolding on_send
returns-in-Some c = rw c.in-Some.is
