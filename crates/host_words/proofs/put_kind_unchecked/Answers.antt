use native.Mathlib.Omega.{arith}
use lib.ListN.{length-set}
use Rattle.host_words.proofs.put_kind_unchecked.Goals as goal

pub bounds-state-6 : goal.bounds-state-6
bounds-state-6 c = simp length-set (omega arith)
