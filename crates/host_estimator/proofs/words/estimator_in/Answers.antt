use Rattle.host_estimator.proofs.words.estimator_in.Goals as goal

pub returns : goal.returns
returns c = rw (c.config_in-config.ensures, c.stats_in-stats.ensures, c.duration_of-srtt.ensures, c.duration_of-rttvar.ensures)
