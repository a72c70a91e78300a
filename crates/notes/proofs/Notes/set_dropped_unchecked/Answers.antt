use borrow.Author.Tests.{le-ltb, lt-ltb}
use Rattle.notes.specs.Notes.{set_dropped}
use Rattle.notes.proofs.Notes.set_dropped_unchecked.Goals as goal

pub returns-then-self-at : goal.returns-then-self-at
unfolding set_dropped
returns-then-self-at c = rw (le-ltb _ _ c.if-self-at.true)

pub returns : goal.returns
unfolding set_dropped
returns c = rw (lt-ltb _ _ c.if-self-at.false, c.with_dropped.ensures)
