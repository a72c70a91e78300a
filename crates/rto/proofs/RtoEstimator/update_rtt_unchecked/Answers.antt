use Rattle.rto.proofs.RtoEstimator.update_rtt_unchecked.Goals as goal

pub returns-then-is_retransmission : goal.returns-then-is_retransmission
returns-then-is_retransmission c = simp c.if-is_retransmission.true c.reject_sample.ensures

pub returns : goal.returns
returns c = simp c.if-is_retransmission.false c.accept_sample.ensures
