use native.Mathlib.Omega.{arith}
use Rattle.trace.proofs.Lines.{length_none, length_one, length_two}
use Rattle.trace.proofs.joined_length.Goals as goal

pub returns-then-copies-eq0 : goal.returns-then-copies-eq0
returns-then-copies-eq0 c = let a = c.args in let e = length_none a.copies a.first a.second (omega arith) in (omega arith, omega arith)

pub returns-then-copies-eq1 : goal.returns-then-copies-eq1
returns-then-copies-eq1 c = let a = c.args in let e = length_one a.copies a.first a.second (omega arith) in (omega arith, omega arith)

pub returns : goal.returns
returns c = let a = c.args in let e = length_two a.copies a.first a.second (omega arith) in (omega arith, omega arith)
