use mathlib.Core.Path.{◌∙◌, ap}
use mathlib.Core.List.{List, []}
use Prim.Native.Nat.{ℕ}
use lib.ListN.{set}
use Rattle.schedule.proofs.Lists.{raise_put}
use Rattle.schedule.proofs.order.insert_first.Goals as goal

pub returns : goal.returns
returns c = ap (λ (xs : List (List ℕ)). set xs 0 c.args.r) c.move_up.ensures ∙ raise_put [] c.args.r c.args.n c.args.s.now c.requires
