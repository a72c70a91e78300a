use native.Mathlib.Omega.{arith}
use Rattle.selective_repeat.specs.Receiver.{receiver, released}
use Rattle.selective_repeat.proofs.States.{payloads_in}
use Rattle.selective_repeat.proofs.Carrying.{payload_room, held_room, held_carried}
use Rattle.selective_repeat.proofs.SelectiveRepeatReceiver.apply_in_room.Goals as goal

pub apply_in_room_unchecked-filled-requires : goal.apply_in_room_unchecked-filled-requires
apply_in_room_unchecked-filled-requires c = payload_room (receiver c.args.self c.args.store.now) c.args.decision c.args.change c.args.payload.now c.args.output.now c.args.ack.now c.requires.room_for c.requires.change_value.0

pub overflow_add-self : goal.overflow_add-self
overflow_add-self c = omega (arith, c.requires.ready.0.low)

pub copy_payloads_unchecked-end-requires : goal.copy_payloads_unchecked-end-requires
copy_payloads_unchecked-end-requires c = let small = c.requires.ready.0.small in
    let few = c.requires.ready.1 in
    let k = c.released.ensures in record { payloads_in = (rw k (payloads_in c.args.self c.args.store.now (released c.args.change) c.requires.ready.0 few), omega arith); count_in_bounds = held_room (receiver c.args.self c.args.store.now) c.args.decision c.args.change c.args.payload.now c.args.output.now c.args.ack.now c.requires.room_for c.requires.change_value.0 _ _ _ _ k c.apply_in_room_unchecked-filled.ensures }

pub change_slots-requires : goal.change_slots-requires
change_slots-requires c = record { ready = (c.requires.ready.0, c.requires.ready.1); payload_len_bound = c.requires.change_value.1 }

pub returns : goal.returns
returns c = record { ack_after = held_carried (receiver c.args.self c.args.store.now) c.args.decision c.args.change c.args.payload.now c.args.output.now c.args.ack.now c.requires.room_for c.requires.change_value.0 _ _ _ _ _ _ c.released.ensures c.apply_in_room_unchecked-filled.ensures c.copy_payloads_unchecked-end.ensures.value c.copy_payloads_unchecked-end.ensures.buffer_after; store_after = c.change_slots.ensures }
