use mathlib.Core.Path.{sym, ap, ◌∙◌}
use lib.Dec.{ltb}
use Rattle.receiving.specs.Receiving.{any_copies}
use Rattle.receiving.proofs.any_copies.Goals as goal

pub returns-in-Ok : goal.returns-in-Ok
returns-in-Ok c = ap (ltb 0) c.copies_of.ensures ∙ ap any_copies (sym c.in-Ok.is)
