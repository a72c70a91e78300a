use Rattle.host_estimator.proofs.words.stats_in.Goals as goal

pub returns : goal.returns
returns c = rw (c.duration_of-min_rtt.ensures, c.duration_of-max_rtt.ensures, c.duration_of-latest_rtt.ensures)
