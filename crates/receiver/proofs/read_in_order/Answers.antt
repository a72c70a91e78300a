use mathlib.Core.Path.{◌∙◌}
use Rattle.receiver.proofs.read_in_order.Goals as goal

pub returns : goal.returns
returns c = c.read_after.ensures ∙ rw (c.held_verdict-held.ensures, c.counts_broken.ensures, c.state_broken.ensures)
