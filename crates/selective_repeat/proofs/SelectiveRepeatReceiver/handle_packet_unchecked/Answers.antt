use mathlib.Core.Path.{refl, sym, ◌∙◌}
use Rattle.selective_repeat.specs.Receiver.{receiver}
use Rattle.selective_repeat.proofs.States.{ready, receiving_sound, releases}
use Rattle.selective_repeat.proofs.Receiving.{unchecked_full, unchecked_received}
use Rattle.selective_repeat.proofs.SelectiveRepeatReceiver.handle_packet_unchecked.Goals as goal

pub decide_unchecked-after-requires : goal.decide_unchecked-after-requires
decide_unchecked-after-requires c = let sound = receiving_sound c.args.self c.args.store.now c.args.output.now c.requires.output_value.0 in record { store_value = sound.0; self_value = c.requires.output_value.1 }

pub delivered_length-size-requires : goal.delivered_length-size-requires
delivered_length-size-requires c = let sound = receiving_sound c.args.self c.args.store.now c.args.output.now c.requires.output_value.0 in let s = ready c.args.self c.args.store.now sound.0 in (s, rw c.decide_unchecked-after.ensures (releases (receiver c.args.self c.args.store.now) c.args.reading s.positive).few)

pub room_missing_unchecked-requires : goal.room_missing_unchecked-requires
room_missing_unchecked-requires c = let sound = receiving_sound c.args.self c.args.store.now c.args.output.now c.requires.output_value.0 in sound.1

pub returns-then-room_missing_unchecked : goal.returns-then-room_missing_unchecked
returns-then-room_missing_unchecked c = unchecked_full (receiver c.args.self c.args.store.now) c.args.reading c.args.payload.now c.args.output.now c.args.ack.now c.decide_unchecked-after.ensures c.delivered_length-size.ensures (sym c.room_missing_unchecked.ensures ∙ c.if-room_missing_unchecked.true)

pub apply_in_room-filled-requires : goal.apply_in_room-filled-requires
apply_in_room-filled-requires c = let sound = receiving_sound c.args.self c.args.store.now c.args.output.now c.requires.output_value.0 in let s = ready c.args.self c.args.store.now sound.0 in let d = c.decide_unchecked-after.ensures in let r = releases (receiver c.args.self c.args.store.now) c.args.reading s.positive in record { ready = (s, rw d r.few); change_value = (rw d r.none, c.requires.payload_len_bound); room_for = (record { mark = sound.1; room = rw (← c.delivered_length-size.ensures) (sym c.room_missing_unchecked.ensures ∙ c.if-room_missing_unchecked.false) }) }

pub returns : goal.returns
returns c = unchecked_received (receiver c.args.self c.args.store.now) c.args.reading c.args.payload.now c.args.output.now c.args.ack.now c.decide_unchecked-after.ensures c.delivered_length-size.ensures (sym c.room_missing_unchecked.ensures ∙ c.if-room_missing_unchecked.false) refl c.apply_in_room-filled.ensures.ack_after c.apply_in_room-filled.ensures.store_after
