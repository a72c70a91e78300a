use native.Mathlib.Omega.{arith}
use mathlib.Core.Path.{◌≡◌, ◌∙◌, ap}
use mathlib.Core.List.{List, [], ◌∷◌, ◌++◌, map, reverse}
use Rattle.std.proofs.Common.{Bor, ℕ}
use lib.ListN.{take}
use Rattle.std.proofs.lemmas.List.{map-append, reverse-append, reverse-reverse}
use Rattle.schedule.specs.Internal.{block_at}
use Rattle.std.proofs.lemmas.Iterator.Adapters.{YieldsList-from_rev_slice}
use Rattle.std.proofs.lemmas.Iterator.Consumers.{YieldsList-end}
use Rattle.schedule.proofs.Marks.{found_none, found_all, turn_in, turn_behind, turn_before}
use Rattle.schedule.proofs.places.block_at.Goals as goal

-- one record more
seen : (rs : List (Bor (List ℕ))) (r : Bor (List ℕ)) → reverse (map (λ (r : Bor (List ℕ)). r.now) (rs ++ r ∷ [])) ≡ r.now ∷ reverse (map (λ (r : Bor (List ℕ)). r.now) rs)
seen rs r = ap reverse (map-append (λ (r : Bor (List ℕ)). r.now) rs (r ∷ [])) ∙ reverse-append (map (λ (r : Bor (List ℕ)). r.now) rs) (r.now ∷ [])

pub loop-r-init : goal.loop-r-init
loop-r-init c = found_none c.args.base

pub bounds-used-at : goal.bounds-used-at
bounds-used-at c = c.if-k-lt256.true

pub bounds-used-at-then-k-lt256 : goal.bounds-used-at-then-k-lt256
bounds-used-at-then-k-lt256 c = c.if-k-lt256.true

pub loop-r-preserved-then-k-lt256 : goal.loop-r-preserved-then-k-lt256
loop-r-preserved-then-k-lt256 c = rw seen (turn_in _ c.args.base c.loop-r.invariant c.if-base-place.true c.if-k-lt256.true)

pub loop-r-preserved-else-k-lt256 : goal.loop-r-preserved-else-k-lt256
loop-r-preserved-else-k-lt256 c = rw seen (turn_behind _ c.args.base c.loop-r.invariant (omega arith))

pub loop-r-preserved : goal.loop-r-preserved
loop-r-preserved c = rw seen (turn_before _ c.args.base c.loop-r.invariant c.if-base-place.false)

pub returns : goal.returns
returns c = let xs = take c.args.count c.args.s.now in
    let all = YieldsList-end (YieldsList-from_rev_slice xs cc) c.loop-r.yielded _ c.loop-r.yielded_by _ _ c.in-None.is c.next.ensures.steps in
    found_all c.args.base c.loop-r.invariant ∙ ap (block_at c.args.base) (ap reverse all.0 ∙ reverse-reverse xs)
