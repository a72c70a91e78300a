use Prim.Native.Nat.{ℕ, ◌+◌}
use mathlib.Core.List.{List}
use mathlib.Core.Path.{sym, ap, ◌∙◌}
use native.Mathlib.Omega.{arith}
use Rattle.store.proofs.Laws.{slot_in}
use lib.ListN.{length}
use Rattle.store.specs.Slot.{slot_at, slot_payload}
use Rattle.window.specs.Slots.{slot_for, packet_for, datagram_for, sender}
use Rattle.packet.proofs.Laws.{made_length}
use Rattle.window.proofs.Slots.{slot_payload_length}
use Rattle.window.proofs.SendWindow.write_datagram_unchecked.Goals as goal

pub payload_unchecked-payload-requires : goal.payload_unchecked-payload-requires
payload_unchecked-payload-requires c = (slot_in c.args.store.now c.args.seq_num c.args.self.window_size c.requires.window_size_nonzero.0 c.requires.window_size_nonzero.1, c.requires.seq_num_bound.0)

pub flags_unchecked-requires : goal.flags_unchecked-requires
flags_unchecked-requires c = slot_in c.args.store.now c.args.seq_num c.args.self.window_size c.requires.window_size_nonzero.0 c.requires.window_size_nonzero.1

pub compute_and_set_checksum_unchecked-requires : goal.compute_and_set_checksum_unchecked-requires
compute_and_set_checksum_unchecked-requires c = let n = ap length c.payload_unchecked-payload.ensures ∙ slot_payload_length c.args.store.now (slot_for c.args.self c.args.seq_num) (slot_in c.args.store.now c.args.seq_num c.args.self.window_size c.requires.window_size_nonzero.0 c.requires.window_size_nonzero.1) c.requires.seq_num_bound.0 in
    let few = c.requires.seq_num_bound.0 in
    omega arith

pub to_bytes_unchecked-requires : goal.to_bytes_unchecked-requires
to_bytes_unchecked-requires c = let n = ap length c.payload_unchecked-payload.ensures ∙ slot_payload_length c.args.store.now (slot_for c.args.self c.args.seq_num) (slot_in c.args.store.now c.args.seq_num c.args.self.window_size c.requires.window_size_nonzero.0 c.requires.window_size_nonzero.1) c.requires.seq_num_bound.0 in
    let few = c.requires.seq_num_bound in
    (omega arith, omega arith)

pub returns : goal.returns
unfolding datagram_for
returns c = let v = sender c.args.self c.args.store.now in
    let p = packet_for v c.args.seq_num in
    let l = slot_payload (slot_at c.args.store.now (slot_for c.args.self c.args.seq_num)) in
    let e = c.payload_unchecked-payload.ensures in record { value = ap (λ (m : List ℕ). 10 + length m) e ∙ sym (made_length p l); out_after = c.to_bytes_unchecked.ensures ∙ rw (c.compute_and_set_checksum_unchecked.ensures, c.flags_unchecked.ensures, e, made_length p l) }
