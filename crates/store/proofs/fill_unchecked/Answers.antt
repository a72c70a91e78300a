use mathlib.Core.Path.{ap, ◌∙◌}
use Prim.Native.Nat.{◌*◌}
use lib.ListN.{length, drop}
use Rattle.octets.proofs.Laws.{part_written}
use Rattle.store.specs.Slot.{put_slot}
use Rattle.store.proofs.Laws.{slot_length_lem}
use Rattle.store.proofs.Write.{lent_slot}
use Rattle.store.proofs.fill_unchecked.Goals as goal

pub write_slot-requires : goal.write_slot-requires
write_slot-requires c = let u = c.used_unchecked-used.ensures in
    let e = lent_slot c.args.store.now c.args.slot in record { slot_len = (ap length e ∙ slot_length_lem c.args.store.now c.args.slot c.requires.slot_in.0, c.requires.slot_in.1); used_le_slot_size = (u.0, ap (drop c.used_unchecked-used.result) e ∙ u.1) }

pub returns : goal.returns
unfolding put_slot
returns c = let a = c.args in
    part_written a.store.now c.write_slot.new.slot _ (a.slot * 1404) 1404 c.write_slot.ensures
