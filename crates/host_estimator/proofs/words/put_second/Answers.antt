use native.Mathlib.Omega.{arith}
use lib.ListN.{length-set}
use Rattle.host_estimator.proofs.Held.{flag_is}
use Rattle.host_estimator.proofs.words.put_second.Goals as goal

pub bounds-state-10 : goal.bounds-state-10
bounds-state-10 c = simp length-set (omega arith)

pub bounds-state-11 : goal.bounds-state-11
bounds-state-11 c = simp length-set (omega arith)

pub bounds-state-12 : goal.bounds-state-12
bounds-state-12 c = simp length-set (omega arith)

pub bounds-state-13 : goal.bounds-state-13
bounds-state-13 c = simp length-set (omega arith)

pub bounds-state-14 : goal.bounds-state-14
bounds-state-14 c = simp length-set (omega arith)

pub bounds-state-15 : goal.bounds-state-15
bounds-state-15 c = simp length-set (omega arith)

pub bounds-state-16 : goal.bounds-state-16
bounds-state-16 c = simp length-set (omega arith)

pub returns : goal.returns
returns c = rw (c.from-in_backoff.ensures, flag_is c.args.e.in_backoff)
