use borrow.Author.Tests.{le-ltb, lt-ltb}
use Rattle.notes.specs.Notes.{rto_at_send}
use Rattle.notes.proofs.Notes.rto_at_send_unchecked.Goals as goal

pub returns-then-self-at : goal.returns-then-self-at
unfolding rto_at_send
returns-then-self-at c = rw (le-ltb _ _ c.if-self-at.true)

pub returns : goal.returns
unfolding rto_at_send
returns c = rw (lt-ltb _ _ c.if-self-at.false)
