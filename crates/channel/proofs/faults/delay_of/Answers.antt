use native.Mathlib.Omega.{arith}
use Rattle.channel.proofs.Limits.{delays_within}
use Rattle.channel.proofs.faults.delay_of.Goals as goal

pub overflow_add-config : goal.overflow_add-config
overflow_add-config c = omega (arith, (delays_within c.args.config c.requires.0).jitter)

pub scaled_unchecked-requires : goal.scaled_unchecked-requires
scaled_unchecked-requires c = let d = delays_within c.args.config c.requires.0 in (c.requires.1, omega arith, omega arith)

pub overflow_add-result : goal.overflow_add-result
overflow_add-result c = let d = delays_within c.args.config c.requires.0 in omega (arith, c.scaled_unchecked.ensures.1)

pub hold_of-requires : goal.hold_of-requires
hold_of-requires c = c.requires.0

pub overflow_add-result-2 : goal.overflow_add-result-2
overflow_add-result-2 c = let d = delays_within c.args.config c.requires.0 in omega (arith, c.scaled_unchecked.ensures.1, c.hold_of.ensures.1)

pub returns : goal.returns
returns c = let d = delays_within c.args.config c.requires.0 in
    (simp (c.scaled_unchecked.ensures.0, c.hold_of.ensures.0), omega (arith, c.scaled_unchecked.ensures.1, c.hold_of.ensures.1))
