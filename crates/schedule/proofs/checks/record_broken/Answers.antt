use mathlib.Core.Path.{◌≡◌, refl, sym, ◌∙◌, ap}
use mathlib.Core.Bool.{Bool, true, false, ◌||◌, or-true}
use borrow.Author.Tests.{lt-ltb}
use Rattle.schedule.specs.Internal.{bounds_broken}
use Rattle.schedule.specs.Record.{after}
use Rattle.schedule.proofs.Sound.{test_is, or_both}
use Rattle.schedule.proofs.checks.record_broken.Goals as goal

-- where the second is false, the first tells

or-alone : (a b : Bool) → b ≡ false → (a || b) ≡ a
or-alone true b h = refl
or-alone false b h = h

pub returns-then-bounds_broken : goal.returns-then-bounds_broken
returns-then-bounds_broken c = let a = c.args in
    sym (ap (λ (b : Bool). after a.front a.r || b) (test_is c.bounds_broken.ensures c.if-bounds_broken.true) ∙ or-true (after a.front a.r))

pub returns-then-before-time : goal.returns-then-before-time
returns-then-before-time c = let a = c.args in
    sym (or_both (after a.front a.r) (bounds_broken a.next a.places a.r) (simp (lt-ltb _ _ c.if-before-time.true)) (test_is c.bounds_broken.ensures c.if-bounds_broken.false))

pub returns : goal.returns
returns c = let a = c.args in
    c.leaves_after.ensures ∙ sym (or-alone (after a.front a.r) (bounds_broken a.next a.places a.r) (test_is c.bounds_broken.ensures c.if-bounds_broken.false))
