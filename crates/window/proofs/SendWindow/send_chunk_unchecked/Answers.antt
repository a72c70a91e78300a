use mathlib.Core.Path.{◌∙◌}
use native.Mathlib.Omega.{arith}
use native.Mathlib.Nat.{mod-lt}
use Rattle.store.proofs.Laws.{slot_in}
use Rattle.window.specs.Slots.{hold}
use Rattle.window.proofs.Slots.{sending_is}
use Rattle.window.proofs.SendWindow.send_chunk_unchecked.Goals as goal

pub fill_unchecked-requires : goal.fill_unchecked-requires
fill_unchecked-requires c = let can = c.requires.can_send_chunk in record { slot_in = (slot_in c.args.store.now c.args.self.next_seq_num c.args.self.window_size can.positive can.room, can.short); clean_slot = λ k. (c.requires.clean k).each _ (mod-lt c.args.self.next_seq_num can.positive) }

pub overflow_add-self-2 : goal.overflow_add-self-2
overflow_add-self-2 c = omega (arith, c.requires.can_send_chunk.count)

pub returns : goal.returns
unfolding hold
returns c = sending_is _ (rw c.fill_unchecked.ensures) (c.to_bytes_unchecked.ensures ∙ rw (c.compute_and_set_checksum_unchecked-packet.ensures, c.new_data.ensures))
