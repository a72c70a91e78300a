use native.Mathlib.Omega.{arith}
use mathlib.Core.Path.{refl, ◌∙◌}
use Prim.Native.Nat.{◌+◌}
use Rattle.schedule.proofs.FreePlaces.{none_past, four_past, four_next}
use Rattle.schedule.proofs.places.place_sum.Goals as goal

pub returns-then-last-p : goal.returns-then-last-p
returns-then-last-p c = four_past c.args.s.now c.args.count c.requires.0 c.loop-i.i c.loop-i-test.true refl refl refl refl (c.loop-i.a + c.loop-i.b + (c.loop-i.c + c.loop-i.d)) c.if-last-p.true ∙ c.loop-i.invariant.2

pub overflow_add-a : goal.overflow_add-a
overflow_add-a c = let w = none_past c.args.count _ _ _ _ c.if-last-p.false in omega arith

pub overflow_add-b : goal.overflow_add-b
overflow_add-b c = let w = none_past c.args.count _ _ _ _ c.if-last-p.false in omega arith

pub overflow_add-c : goal.overflow_add-c
overflow_add-c c = let w = none_past c.args.count _ _ _ _ c.if-last-p.false in omega arith

pub overflow_add-d : goal.overflow_add-d
overflow_add-d c = let w = none_past c.args.count _ _ _ _ c.if-last-p.false in omega arith

pub loop-i-preserved : goal.loop-i-preserved
loop-i-preserved c = let w = none_past c.args.count _ _ _ _ c.if-last-p.false in
    (omega arith, omega arith, four_next c.args.s.now c.args.count c.requires.0 c.loop-i.i c.loop-i-test.true refl refl refl refl c.loop-i.a c.loop-i.b c.loop-i.c c.loop-i.d c.if-last-p.false ∙ c.loop-i.invariant.2)

pub returns : goal.returns
returns c = c.sum_from.ensures ∙ c.loop-i.invariant.2
