use Rattle.submission.specs.Submission.{note_before}
use Rattle.submission.proofs.note_before.Goals as goal

pub returns-then-retransmission : goal.returns-then-retransmission
unfolding note_before
returns-then-retransmission c = rw c.if-retransmission.true c.sent_again_unchecked.ensures

pub returns : goal.returns
unfolding note_before
returns c = rw c.if-retransmission.false c.sent_unchecked.ensures
