use mathlib.Core.Path.{refl}
use lib.ListN.{length}
use Rattle.octets.proofs.Laws.{front_written}
use Rattle.store.specs.Slot.{slot_bytes, head_bytes}
use Rattle.store.proofs.Write.{slot_covered, slot_written}
use Rattle.store.proofs.write_slot.Goals as goal

pub returns-then-end-used : goal.returns-then-end-used
unfolding slot_bytes
returns-then-end-used c = let p = c.args.payload.now in
    let head = head_bytes (length p) c.args.mark c.args.flags in
    slot_written head p c.args.slot.now _
    (front_written head p c.copy_unchecked.new.dst c.args.slot.now c.write_head.new.slot 4 refl c.write_head.ensures c.copy_unchecked.ensures)
    refl c.requires.slot_len.0 c.requires.slot_len.1 c.args.used c.requires.used_le_slot_size.1 c.clear.new.dst c.if-end-used.true c.requires.used_le_slot_size.0 c.clear.ensures

pub returns-else-end-used : goal.returns-else-end-used
unfolding slot_bytes
returns-else-end-used c = let p = c.args.payload.now in
    let head = head_bytes (length p) c.args.mark c.args.flags in
    slot_covered head p c.args.slot.now _
    (front_written head p c.copy_unchecked.new.dst c.args.slot.now c.write_head.new.slot 4 refl c.write_head.ensures c.copy_unchecked.ensures)
    refl c.requires.slot_len.0 c.requires.slot_len.1 c.args.used c.requires.used_le_slot_size.1 c.if-end-used.false
