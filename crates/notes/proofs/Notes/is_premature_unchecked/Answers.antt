use borrow.Author.Tests.{le-ltb, lt-ltb, eq-eqb, ne_eqb}
use Rattle.notes.specs.Notes.{is_premature}
use Rattle.notes.proofs.Notes.is_premature_unchecked.Goals as goal

pub returns-then-self-at : goal.returns-then-self-at
unfolding is_premature
returns-then-self-at c = rw (le-ltb _ _ c.if-self-at.true)

pub returns-then-note-eq1 : goal.returns-then-note-eq1
unfolding is_premature
returns-then-note-eq1 c = rw (lt-ltb _ _ c.if-self-at.false, eq-eqb _ _ c.if-note-eq1.true)

pub returns : goal.returns
unfolding is_premature
returns c = rw (lt-ltb _ _ c.if-self-at.false, ne_eqb _ _ c.if-note-eq1.false)
