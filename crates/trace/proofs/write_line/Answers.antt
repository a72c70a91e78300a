use Prim.Native.Nat.{ℕ, ◌+◌}
use mathlib.Core.Path.{ap, ◌∙◌}
use mathlib.Core.List.{List}
use native.Mathlib.Omega.{arith}
use lib.ListN.{length}
use Rattle.text.specs.Place.{written_at}
use Rattle.trace.proofs.Lines.{line_columns}
use Rattle.trace.proofs.write_line.Goals as goal

pub write_columns-requires : goal.write_columns-requires
write_columns-requires c = let p = c.requires in
    let e = ap length (line_columns c.args.row c.mark-again.ensures) in omega arith

pub returns : goal.returns
returns c = let a = c.args in
    let e = line_columns a.row c.mark-again.ensures in
    let w = c.write_columns.ensures in
    (w.0 ∙ ap (λ (l : List ℕ). a.at + length l) e, w.1 ∙ ap (written_at a.out.now a.at) e)
