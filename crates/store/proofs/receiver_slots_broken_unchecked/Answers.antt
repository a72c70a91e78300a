use native.Mathlib.Omega.{arith}
use native.Mathlib.Nat.{mod-lt, sub-zero}
use Rattle.store.proofs.Tests.{slot_in}
use Rattle.store.proofs.Scans.{receiver_scan}
use Rattle.store.proofs.receiver_slots_broken_unchecked.Goals as goal

pub mark_unchecked-filled-requires : goal.mark_unchecked-filled-requires
mark_unchecked-filled-requires c = slot_in c.args.store.now c.args.base c.args.window c.requires.0 c.requires.1

pub slots_outside_unchecked-to_the_end-requires : goal.slots_outside_unchecked-to_the_end-requires
slots_outside_unchecked-to_the_end-requires c = (omega (arith, mod-lt c.args.base c.requires.0), c.requires.1)

pub slots_outside_unchecked-from_the_start-requires : goal.slots_outside_unchecked-from_the_start-requires
slots_outside_unchecked-from_the_start-requires c = (omega arith, omega (arith, mod-lt c.args.base c.requires.0, c.requires.1))

pub returns : goal.returns
returns c = let a = c.args in
    rw (c.mark_unchecked-filled.ensures, c.slots_outside_unchecked-to_the_end.ensures, c.slots_outside_unchecked-from_the_start.ensures, sub-zero)
    (receiver_scan a.store.now a.window a.base c.requires.0)
