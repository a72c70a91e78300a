use Rattle.host_estimator.proofs.make_default_estimator.Goals as goal

pub returns : goal.returns
returns c = rw (← c.default.ensures) c.make_estimator.ensures
