use native.Mathlib.Omega.{arith}
use borrow.Author.Rules.{rules}
use mathlib.Core.Path.{◌≡◌, sym, ◌∙◌, ap}
use Prim.Native.Nat.{ℕ, ◌≤◌, ◌<◌, ◌+◌, ◌-◌}
use mathlib.Core.List.{List, ◌∷◌, ◌++◌}
use lib.ListN.{length, take, drop, length-drop}
use Rattle.octets.proofs.Laws.{tail_is}
use Rattle.schedule.specs.Record.{after}
use Rattle.schedule.specs.Internal.{index_for}
use Rattle.schedule.proofs.Lists.{insert_part}
use Rattle.schedule.proofs.Ordering.{for_within, for_inserts}
use Rattle.schedule.proofs.order.insert.Goals as goal

module _ (s : List (List ℕ)) (count : ℕ) (r : List ℕ) (room : count < length s) {at : ℕ} (found : at ≡ index_for after r (take count s)) where
  low : at ≤ count
  low = let f = for_within after r count s (omega arith) in omega arith

  fits : count - at < length (take (length s - at) (drop at s))
  fits = let l = low in let e : length (take (length s - at) (drop at s)) ≡ length s - at = ap length (tail_is at s) ∙ length-drop at s in omega arith

pub offset_bounds-s-at : goal.offset_bounds-s-at
offset_bounds-s-at c = let l = low c.args.s.now c.args.count c.args.r c.requires.0 c.index_for-at.ensures in
    search rules

pub slice_bounds-insert_first-count : goal.slice_bounds-insert_first-count
slice_bounds-insert_first-count c = let l = low c.args.s.now c.args.count c.args.r c.requires.0 c.index_for-at.ensures in
    let p = c.requires.0 in
    omega arith

pub slice_bounds-insert_first-start : goal.slice_bounds-insert_first-start
slice_bounds-insert_first-start c = let l = low c.args.s.now c.args.count c.args.r c.requires.0 c.index_for-at.ensures in
    search rules

pub overflow_sub-count : goal.overflow_sub-count
overflow_sub-count c = low c.args.s.now c.args.count c.args.r c.requires.0 c.index_for-at.ensures

pub insert_first-requires : goal.insert_first-requires
insert_first-requires c = fits c.args.s.now c.args.count c.args.r c.requires.0 c.index_for-at.ensures

pub returns : goal.returns
returns c = let found = c.index_for-at.ensures in
    let w = take c.args.count c.args.s.now in
    let rest = drop (c.args.count + 1) c.args.s.now in
    insert_part c.args.r c.index_for-at.result c.args.count c.args.s.now c.insert_first.new.s (low c.args.s.now c.args.count c.args.r c.requires.0 found) c.requires.0 c.insert_first.ensures
    ∙ ap (λ (k : ℕ). (take k w ++ c.args.r ∷ drop k w) ++ rest) found
    ∙ ap (λ (xs : List (List ℕ)). xs ++ rest) (sym (for_inserts after c.args.r w))
