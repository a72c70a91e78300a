use Rattle.host_drain.proofs.counts_broken.Goals as goal

pub returns-in-StopAndWait : goal.returns-in-StopAndWait
returns-in-StopAndWait c = rw c.in-StopAndWait.is c.counts_broken.ensures

pub returns-in-GoBackN : goal.returns-in-GoBackN
returns-in-GoBackN c = rw c.in-GoBackN.is c.counts_broken-in-GoBackN.ensures

pub returns-in-SelectiveRepeat : goal.returns-in-SelectiveRepeat
returns-in-SelectiveRepeat c = rw c.in-SelectiveRepeat.is c.counts_broken-in-SelectiveRepeat.ensures
