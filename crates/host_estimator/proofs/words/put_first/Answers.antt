use native.Mathlib.Omega.{arith}
use lib.ListN.{length-set}
use Rattle.host_estimator.proofs.Held.{set_or_0, time_or_0}
use Rattle.host_estimator.proofs.words.put_first.Goals as goal

pub bounds-state-1 : goal.bounds-state-1
bounds-state-1 c = simp length-set (omega arith)

pub bounds-state-2 : goal.bounds-state-2
bounds-state-2 c = simp length-set (omega arith)

pub bounds-state-3 : goal.bounds-state-3
bounds-state-3 c = simp length-set (omega arith)

pub bounds-state-4 : goal.bounds-state-4
bounds-state-4 c = simp length-set (omega arith)

pub bounds-state-5 : goal.bounds-state-5
bounds-state-5 c = simp length-set (omega arith)

pub bounds-state-6 : goal.bounds-state-6
bounds-state-6 c = simp length-set (omega arith)

pub bounds-state-7 : goal.bounds-state-7
bounds-state-7 c = simp length-set (omega arith)

pub bounds-state-8 : goal.bounds-state-8
bounds-state-8 c = simp length-set (omega arith)

pub returns : goal.returns
returns c = rw (c.from-srtt_set.ensures, c.is_some.ensures, set_or_0 c.args.srtt, c.unwrap_or-srtt_time.ensures, time_or_0 c.args.srtt, c.from-rttvar_set.ensures, c.is_some-2.ensures, set_or_0 c.args.rttvar, c.unwrap_or-rttvar_time.ensures, time_or_0 c.args.rttvar)
