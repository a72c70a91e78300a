use mathlib.Core.Path.{◌∙◌}
use borrow.Author.Tests.{le-ltb, lt-ltb}
use Rattle.notes.specs.Notes.{mark_ack_scheduled}
use Rattle.notes.proofs.Notes.mark_ack_scheduled_unchecked.Goals as goal

pub returns-then-cumulative : goal.returns-then-cumulative
unfolding mark_ack_scheduled
returns-then-cumulative c = c.mark_to.ensures ∙ rw (c.if-cumulative.true, c.min-end.ensures)

pub returns-then-self-at : goal.returns-then-self-at
unfolding mark_ack_scheduled
returns-then-self-at c = rw (c.if-cumulative.false, le-ltb _ _ c.if-self-at.true)

pub returns : goal.returns
unfolding mark_ack_scheduled
returns c = rw (c.if-cumulative.false, lt-ltb _ _ c.if-self-at.false, c.mark.ensures)
