use native.Mathlib.Omega.{arith}
use Rattle.text.proofs.Laws.{digits_u64}
use Rattle.trace.proofs.number_length.Goals as goal

pub returns : goal.returns
returns c = let d = digits_u64 c.args.n (omega arith) in (omega arith, omega arith)
