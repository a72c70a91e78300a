use native.Mathlib.Omega.{arith}
use lib.ListN.{length-set}
use Rattle.host_run.proofs.Ends.{from_is}
use Rattle.host_run.proofs.outcome.put_course.Goals as goal

pub bounds-words-1 : goal.bounds-words-1
bounds-words-1 c = simp length-set (omega arith)

pub bounds-words-2 : goal.bounds-words-2
bounds-words-2 c = simp length-set (omega arith)

pub returns : goal.returns
returns c = rw (from_is c.args.completed c.from.ensures, c.end_word.ensures)
