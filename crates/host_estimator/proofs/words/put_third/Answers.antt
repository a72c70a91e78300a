use native.Mathlib.Omega.{arith}
use lib.ListN.{length-set}
use Rattle.host_estimator.proofs.Held.{set_or_0, time_or_0}
use Rattle.host_estimator.proofs.words.put_third.Goals as goal

pub bounds-state-18 : goal.bounds-state-18
bounds-state-18 c = simp length-set (omega arith)

pub bounds-state-19 : goal.bounds-state-19
bounds-state-19 c = simp length-set (omega arith)

pub bounds-state-20 : goal.bounds-state-20
bounds-state-20 c = simp length-set (omega arith)

pub bounds-state-21 : goal.bounds-state-21
bounds-state-21 c = simp length-set (omega arith)

pub bounds-state-22 : goal.bounds-state-22
bounds-state-22 c = simp length-set (omega arith)

pub bounds-state-23 : goal.bounds-state-23
bounds-state-23 c = simp length-set (omega arith)

pub shape_of-state : goal.shape_of-state
shape_of-state c = simp length-set

pub returns : goal.returns
returns c = rw (c.from-min_set.ensures, c.is_some.ensures, set_or_0 c.args.stats.min_rtt, c.unwrap_or-min_time.ensures, time_or_0 c.args.stats.min_rtt, c.from-max_set.ensures, c.is_some-2.ensures, set_or_0 c.args.stats.max_rtt, c.unwrap_or-max_time.ensures, time_or_0 c.args.stats.max_rtt, c.from-latest_set.ensures, c.is_some-3.ensures, set_or_0 c.args.stats.latest_rtt, c.unwrap_or-latest_time.ensures, time_or_0 c.args.stats.latest_rtt)
