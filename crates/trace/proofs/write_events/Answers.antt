use native.Mathlib.Omega.{arith}
use mathlib.Core.Path.{sym}
use lib.Seq.{length-take-le}
use Rattle.trace.proofs.Writing.{write_refused, rows_placed}
use Rattle.trace.proofs.write_events.Goals as goal

pub returns-then-rows-count : goal.returns-then-rows-count
returns-then-rows-count c = let a = c.args in write_refused a.out.now a.count a.rows.now (omega arith)

pub slice_bounds-place_events-end : goal.slice_bounds-place_events-end
slice_bounds-place_events-end c = let a = c.args in sym (length-take-le a.count a.rows.now (omega arith))

pub returns : goal.returns
returns c = let a = c.args in
    rows_placed a.out.now a.count a.rows.now (omega arith) c.place_events.ensures
