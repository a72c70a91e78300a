use Rattle.setup.proofs.timers_short.Goals as goal

pub returns-in-StopAndWait : goal.returns-in-StopAndWait
returns-in-StopAndWait c = rw c.in-StopAndWait.is

pub returns-in-GoBackN : goal.returns-in-GoBackN
returns-in-GoBackN c = rw c.in-GoBackN.is

pub returns-in-SelectiveRepeat : goal.returns-in-SelectiveRepeat
returns-in-SelectiveRepeat c = rw c.in-SelectiveRepeat.is
