use mathlib.Core.Path.{sym, ap, ◌∙◌}
use Prim.Native.Nat.{ℕ, ◌*◌}
use native.Mathlib.Omega.{arith}
use mathlib.Core.List.{List, ◌++◌}
use lib.ListN.{drop, replicate}
use lib.Seq.{length-take-le}
use Rattle.store.proofs.empty_all_unchecked.Goals as goal

pub slice_bounds-clear-end-2 : goal.slice_bounds-clear-end-2
slice_bounds-clear-end-2 c = let a = c.args in
    sym (length-take-le (a.slots * 1404) a.store.now (omega arith))

pub returns : goal.returns
returns c = let a = c.args in
    let n = length-take-le (a.slots * 1404) a.store.now (omega arith) in
    ap (λ (l : List ℕ). l ++ drop (a.slots * 1404) a.store.now) (c.clear.ensures ∙ ap (λ (k : ℕ). replicate k 0) n)
