use native.Mathlib.Omega.{arith}
use Rattle.lent_events.proofs.Rows.{above_none, above_first, above_one, above_second}
use Rattle.lent_events.proofs.any_above.Goals as goal

pub returns-then-copies-eq0 : goal.returns-then-copies-eq0
returns-then-copies-eq0 c = let a = c.args in above_none a.max a.copies a.first a.second c.if-copies-eq0.true

pub returns-then-max-first : goal.returns-then-max-first
returns-then-max-first c = let a = c.args in above_first a.max a.copies a.first a.second c.if-copies-eq0.false c.if-max-first.true

pub returns-then-copies-eq1 : goal.returns-then-copies-eq1
returns-then-copies-eq1 c = let a = c.args in above_one a.max a.copies a.first a.second c.if-copies-eq1.true (omega arith)

pub returns : goal.returns
returns c = let a = c.args in above_second a.max a.copies a.first a.second (omega arith) (omega arith)
