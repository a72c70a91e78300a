use native.Mathlib.Omega.{arith}
use mathlib.Core.Path.{sym, ap}
use Prim.Native.Nat.{◌+◌}
use native.Mathlib.Nat.{le_refl}
use lib.ListN.{take}
use Rattle.schedule.specs.Internal.{block_size}
use Rattle.schedule.specs.declared.Block.{Block}
use Rattle.schedule.proofs.Sound.{test_is, negated}
use Rattle.schedule.proofs.Doubled.{in_doubled, below_zero, below_more, below_all}
use Rattle.schedule.proofs.places.place_doubled.Goals as goal

pub loop-base-init : goal.loop-base-init
loop-base-init c = below_zero (take c.args.count c.args.s.now)

pub returns-then-block : goal.returns-then-block
returns-then-block c = sym (in_doubled c.loop-base.base (take c.args.count c.args.s.now) (test_is (ap (λ (b : Block). b.doubled) c.block_at-block.ensures) c.if-block.true))

pub returns-then-not-block : goal.returns-then-not-block
returns-then-not-block c = let b = c.block_at-block in
    let w = take c.args.count c.args.s.now in
    sym (below_all (c.loop-base.base + block_size) (c.loop-base.base + block_size) w (test_is (ap (λ (b : Block). b.beyond) b.ensures) (negated b.result.beyond c.if-not-block.true)) (le_refl (c.loop-base.base + block_size))
    (below_more c.loop-base.base w c.loop-base.invariant (test_is (ap (λ (b : Block). b.doubled) b.ensures) c.if-block.false)))

pub loop-base-preserved : goal.loop-base-preserved
loop-base-preserved c = let b = c.block_at-block in
    below_more c.loop-base.base (take c.args.count c.args.s.now) c.loop-base.invariant (test_is (ap (λ (b : Block). b.doubled) b.ensures) c.if-block.false)

pub returns : goal.returns
returns c = sym (below_all c.args.places c.loop-base.base (take c.args.count c.args.s.now) c.requires.1 c.loop-base-test.false c.loop-base.invariant)

-- the last block
pub returns-else-not-block : goal.returns-else-not-block
returns-else-not-block c = let b = c.block_at-block in
    let w = take c.args.count c.args.s.now in
    sym (below_all c.args.places (c.loop-base.base + block_size) w c.requires.1 (omega arith) (below_more c.loop-base.base w c.loop-base.invariant (test_is (ap (λ (b : Block). b.doubled) b.ensures) c.if-block.false)))
