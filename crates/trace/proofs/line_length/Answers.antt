use mathlib.Core.Path.{ap}
use native.Mathlib.Omega.{arith}
use lib.ListN.{length, get_or}
use Rattle.events.specs.Events.{of_copies}
use Rattle.trace.proofs.Lines.{line_columns, length_columns}
use Rattle.trace.proofs.line_length.Goals as goal

pub returns : goal.returns
returns c = let row = c.args.row in
    let m = c.mark-again in
    let e = ap length (line_columns row m.ensures) in
    let l = length_columns (get_or row 0 0) m.result (of_copies (get_or row 2 0) (get_or row 3 0) (get_or row 4 0))
    (of_copies (get_or row 2 0) (get_or row 5 0) (get_or row 6 0)) in
    omega arith
