use Rattle.submission.specs.Submission.{note_after}
use Rattle.submission.proofs.note_after.Goals as goal

pub returns-then-retransmission : goal.returns-then-retransmission
unfolding note_after
returns-then-retransmission c = rw c.if-retransmission.true

pub returns : goal.returns
unfolding note_after
returns c = rw (c.if-retransmission.false, ← c.copies_of.ensures) c.set_dropped_unchecked.ensures
