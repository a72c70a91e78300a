use Rattle.host_session.proofs.go_back_n_timeout.Goals as goal

pub returns-in-All : goal.returns-in-All
returns-in-All c = rw c.in-All.is c.handle_timeout.ensures

pub returns-in-Earliest : goal.returns-in-Earliest
returns-in-Earliest c = rw c.in-Earliest.is c.handle_timeout_earliest.ensures

pub returns-in-Number : goal.returns-in-Number
returns-in-Number c = rw c.in-Number.is c.handle_timeout-in-Number.ensures
