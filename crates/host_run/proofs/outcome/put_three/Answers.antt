use native.Mathlib.Omega.{arith}
use lib.ListN.{length-set}
use Rattle.host_run.proofs.outcome.put_three.Goals as goal

pub bounds-words-12 : goal.bounds-words-12
bounds-words-12 c = simp length-set (omega arith)

pub bounds-words-13 : goal.bounds-words-13
bounds-words-13 c = simp length-set (omega arith)
