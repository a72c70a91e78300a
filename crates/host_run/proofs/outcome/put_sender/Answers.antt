use Rattle.host_run.proofs.outcome.put_sender.Goals as goal

pub returns-in-StopAndWait : goal.returns-in-StopAndWait
returns-in-StopAndWait c = rw c.in-StopAndWait.is c.put_three.ensures

pub returns-in-GoBackN : goal.returns-in-GoBackN
returns-in-GoBackN c = rw c.in-GoBackN.is c.put_three-in-GoBackN.ensures

pub returns-in-SelectiveRepeat : goal.returns-in-SelectiveRepeat
returns-in-SelectiveRepeat c = rw c.in-SelectiveRepeat.is c.put_three-in-SelectiveRepeat.ensures
