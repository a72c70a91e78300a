use native.Mathlib.Omega.{arith}
use lib.ListN.{length-set}
use Rattle.host_estimator.proofs.words.put_doubles.Goals as goal

pub bounds-doubles-1 : goal.bounds-doubles-1
bounds-doubles-1 c = simp length-set (omega arith)

pub bounds-doubles-2 : goal.bounds-doubles-2
bounds-doubles-2 c = simp length-set (omega arith)

pub bounds-doubles-3 : goal.bounds-doubles-3
bounds-doubles-3 c = simp length-set (omega arith)
