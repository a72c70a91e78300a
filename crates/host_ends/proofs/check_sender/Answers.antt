use Rattle.host_ends.proofs.Calls.{decision_verdict}
use Rattle.host_ends.proofs.check_sender.Goals as goal

pub returns-in-StopAndWait : goal.returns-in-StopAndWait
returns-in-StopAndWait c = rw (c.verdict_of.ensures, c.decide_timeout.ensures, c.in-StopAndWait.is) (decision_verdict _ _ _ _)

pub returns-in-GoBackN : goal.returns-in-GoBackN
returns-in-GoBackN c = rw (c.held_verdict.ensures, c.counts_broken.ensures, c.state_broken.ensures, c.in-GoBackN.is)

pub returns-in-SelectiveRepeat : goal.returns-in-SelectiveRepeat
returns-in-SelectiveRepeat c = rw (c.held_verdict-in-SelectiveRepeat.ensures, c.counts_broken-in-SelectiveRepeat.ensures, c.state_broken-in-SelectiveRepeat.ensures, c.in-SelectiveRepeat.is)
