use Rattle.setup.proofs.stores_short.Goals as goal

pub returns-in-StopAndWait : goal.returns-in-StopAndWait
returns-in-StopAndWait c = rw c.in-StopAndWait.is c.store_short.ensures

pub returns-in-GoBackN : goal.returns-in-GoBackN
returns-in-GoBackN c = rw c.in-GoBackN.is c.store_short-in-GoBackN.ensures

pub returns-in-SelectiveRepeat : goal.returns-in-SelectiveRepeat
returns-in-SelectiveRepeat c = rw c.in-SelectiveRepeat.is c.both_short.ensures
