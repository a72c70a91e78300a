use Rattle.refusal.specs.Order.{decide}
use Rattle.refusal.proofs.Laws.{err_returned}
use Rattle.receiver.specs.Reading.{read_after}
use Rattle.receiver.proofs.read_after.Goals as goal

pub returns-in_err-verdict : goal.returns-in_err-verdict
unfolding read_after decide
returns-in_err-verdict c = err_returned _ c.from_residual.ensures.1 (rw c.in_err-verdict.was)

pub returns : goal.returns
unfolding read_after decide
returns c = rw c.in_ok-verdict.was c.read_packet.ensures
