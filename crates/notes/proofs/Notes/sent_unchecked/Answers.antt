use borrow.Author.Tests.{eq-eqb, ne_eqb}
use Rattle.notes.specs.Notes.{sent}
use Rattle.notes.proofs.Notes.sent_unchecked.Goals as goal

pub returns-then-at-self : goal.returns-then-at-self
unfolding sent
returns-then-at-self c = rw (ne_eqb _ _ c.if-at-self.true)

pub returns : goal.returns
unfolding sent
returns c = rw (eq-eqb _ _ c.if-at-self.false)
