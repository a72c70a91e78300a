use native.Mathlib.Omega.{arith}
use lib.ListN.{length-set}
use Rattle.host_run.proofs.outcome.put_receiver.Goals as goal

pub bounds-words-15 : goal.bounds-words-15
bounds-words-15 c = simp length-set (omega arith)

pub bounds-words-16 : goal.bounds-words-16
bounds-words-16 c = simp length-set (omega arith)

pub bounds-words-17 : goal.bounds-words-17
bounds-words-17 c = simp length-set (omega arith)

pub bounds-words-18 : goal.bounds-words-18
bounds-words-18 c = simp length-set (omega arith)

pub returns : goal.returns
returns c = rw c.receiver_fields-f.ensures
