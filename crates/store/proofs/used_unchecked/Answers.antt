use native.Mathlib.Omega.{arith}
use lib.ListN.{drop_of_length-le}
use Rattle.store.specs.Slot.{slot_at}
use Rattle.store.proofs.Laws.{slot_length_lem}
use Rattle.store.proofs.used_unchecked.Goals as goal

pub returns-then-clean : goal.returns-then-clean
returns-then-clean c = let k = c.requires.clean_slot c.if-clean.true in
    let n = c.length_unchecked.ensures in
    let short = k.short in
    (omega (arith, n, short), rw n k.zeros)

pub returns : goal.returns
returns c = (omega arith, drop_of_length-le (slot_at c.args.store.now c.args.slot) {i = 1404} (omega (arith, slot_length_lem c.args.store.now c.args.slot c.requires.slot_in)))
