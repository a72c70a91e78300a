use native.Mathlib.Omega.{arith}
use lib.ListN.{length}
use Rattle.schedule.proofs.Laws.{test_is}
use Rattle.channel.proofs.Limits.{rolls_within}
use Rattle.channel.proofs.Carrying.{corrupted_some, corrupt_law, uncorrupted_law}
use Rattle.channel.proofs.faults.corrupt.Goals as goal

pub index_unchecked-byte-requires : goal.index_unchecked-byte-requires
index_unchecked-byte-requires c = ((rolls_within c.args.rolls c.requires.1).byte, corrupted_some c.args.config c.args.rolls (length c.args.d.now) (test_is c.is_corrupted.ensures c.if-is_corrupted.true), omega arith)

pub scaled_unchecked-bit-requires : goal.scaled_unchecked-bit-requires
scaled_unchecked-bit-requires c = ((rolls_within c.args.rolls c.requires.1).bit, omega arith, omega arith)

pub returns-then-is_corrupted : goal.returns-then-is_corrupted
returns-then-is_corrupted c = let a = c.args in
    corrupt_law a.config a.rolls a.d.now (test_is c.is_corrupted.ensures c.if-is_corrupted.true) c.index_unchecked-byte.ensures.0 c.scaled_unchecked-bit.ensures.0 c.flip_bit.ensures

pub returns-else-is_corrupted : goal.returns-else-is_corrupted
returns-else-is_corrupted c = let a = c.args in uncorrupted_law a.config a.rolls a.d.now (test_is c.is_corrupted.ensures c.if-is_corrupted.false)
