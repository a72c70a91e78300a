use Rattle.std.proofs.Common.{arith}
use Rattle.octets.proofs.Fold.{fold_start, fold_more, fold_end}
use Rattle.octets.proofs.fold_bytes.Goals as goal

pub loop-b-init : goal.loop-b-init
loop-b-init c = (omega arith, fold_start _)

pub loop-b-preserved : goal.loop-b-preserved
loop-b-preserved c = fold_more _ _ _ c.loop-b-test.true c.loop-b.invariant.1 (rw c.from-sum.ensures)

pub returns : goal.returns
returns c = fold_end _ _ _ c.loop-b-test.false c.loop-b.invariant.0 c.loop-b.invariant.1
