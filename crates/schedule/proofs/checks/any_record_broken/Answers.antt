use Prim.Native.Nat.{ℕ, ◌<◌, ◌+◌}
use native.Mathlib.Numerals.{add-one}
use mathlib.Core.Path.{◌≡◌, refl, sym, ◌∙◌}
use mathlib.Core.List.{List, [], ◌∷◌}
use lib.ListN.{length, get_or, drop, drop_of_length-le}
use lib.Seq.{drop-cons}
use Rattle.schedule.proofs.Sound.{test_is}
use Rattle.schedule.proofs.Doubled.{alone_none, alone_first}
use Rattle.schedule.proofs.checks.any_record_broken.Goals as goal

next : (l : List (List ℕ)) (i : ℕ) → i < length l → drop i l ≡ get_or l i [] ∷ drop (i + 1) l
next l i h = rw add-one (drop-cons l i [] h)

pub loop-r-init : goal.loop-r-init
loop-r-init c = refl

pub returns-then-record_broken : goal.returns-then-record_broken
returns-then-record_broken c = sym (alone_first _ _ c.loop-r.front (next _ _ c.loop-r-test.true) (test_is c.record_broken.ensures c.if-record_broken.true)) ∙ c.loop-r.invariant

pub loop-r-preserved : goal.loop-r-preserved
loop-r-preserved c = sym (alone_first _ _ c.loop-r.front (next _ _ c.loop-r-test.true) (test_is c.record_broken.ensures c.if-record_broken.false)) ∙ c.loop-r.invariant

pub returns : goal.returns
returns c = sym (alone_none _ _ c.loop-r.front (drop_of_length-le _ c.loop-r-test.false)) ∙ c.loop-r.invariant
