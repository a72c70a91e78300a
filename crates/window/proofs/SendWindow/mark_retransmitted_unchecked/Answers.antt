use Rattle.store.proofs.Laws.{slot_in}
use Rattle.store.specs.Slot.{slot_at, slot_flags}
use Rattle.window.specs.Slots.{slot_for, mark_retransmitted}
use Rattle.packet.proofs.Laws.{bit_0_set}
use Rattle.window.proofs.SendWindow.mark_retransmitted_unchecked.Goals as goal

pub flags_unchecked-flags-requires : goal.flags_unchecked-flags-requires
flags_unchecked-flags-requires c = slot_in c.args.store.now c.args.seq_num c.args.self.window_size c.requires.window_size_nonzero.0 c.requires.window_size_nonzero.1

pub set_flags_unchecked-requires : goal.set_flags_unchecked-requires
set_flags_unchecked-requires c = slot_in c.args.store.now c.args.seq_num c.args.self.window_size c.requires.window_size_nonzero.0 c.requires.window_size_nonzero.1

pub returns : goal.returns
unfolding mark_retransmitted
returns c = rw (c.set_flags_unchecked.ensures, c.flags_unchecked-flags.ensures, bit_0_set (slot_flags (slot_at c.args.store.now (slot_for c.args.self c.args.seq_num))))
