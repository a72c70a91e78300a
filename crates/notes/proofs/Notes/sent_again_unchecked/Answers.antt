use borrow.Author.Tests.{le-ltb, lt-ltb}
use Rattle.notes.specs.Notes.{sent_again}
use Rattle.notes.proofs.Notes.sent_again_unchecked.Goals as goal

pub returns-then-self-at : goal.returns-then-self-at
unfolding sent_again
returns-then-self-at c = rw (le-ltb _ _ c.if-self-at.true)

pub returns : goal.returns
unfolding sent_again
returns c = rw (lt-ltb _ _ c.if-self-at.false, c.with_sending.ensures)
