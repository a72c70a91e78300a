use borrow.Author.Tests.{le-ltb, lt-ltb, eq-eqb, ne_eqb}
use Rattle.notes.specs.Notes.{take_sample}
use Rattle.notes.proofs.Notes.take_sample_unchecked.Goals as goal

pub returns-then-self-at : goal.returns-then-self-at
unfolding take_sample
returns-then-self-at c = rw (le-ltb _ _ c.if-self-at.true)

pub returns-then-note-eq1 : goal.returns-then-note-eq1
unfolding take_sample
returns-then-note-eq1 c = rw (lt-ltb _ _ c.if-self-at.false, eq-eqb _ _ c.if-note-eq1.true)

pub returns : goal.returns
unfolding take_sample
returns c = rw (lt-ltb _ _ c.if-self-at.false, ne_eqb _ _ c.if-note-eq1.false, c.with_rtt_sampled.ensures, c.saturating_sub.ensures)
