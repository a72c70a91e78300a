use mathlib.Core.Path.{sym, ap, ◌∙◌}
use native.Mathlib.Omega.{arith}
use lib.Seq.{length-take-le}
use Rattle.refusal.specs.Order.{verdict}
use Rattle.lent_events.proofs.Rows.{few_rows, enough_rows}
use Rattle.lent_events.proofs.check_events.Goals as goal

pub returns-then-rows-count : goal.returns-then-rows-count
returns-then-rows-count c = let a = c.args in few_rows a.count a.rows.now (omega arith)

pub slice_bounds-check_rows-end : goal.slice_bounds-check_rows-end
slice_bounds-check_rows-end c = let a = c.args in sym (length-take-le a.count a.rows.now (omega arith))

pub returns : goal.returns
returns c = let a = c.args in
    c.check_rows.ensures ∙ sym (ap verdict (enough_rows a.count a.rows.now (omega arith)))
