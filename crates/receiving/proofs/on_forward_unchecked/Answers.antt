use Rattle.notes.specs.Notes.{seg_metas}
use Rattle.path.specs.Direction.{direction}
use Rattle.receiving.specs.Receiving.{inbound}
use Rattle.receiving.proofs.Calls.{dropped_law, can_handle, can_count, can_submit, silent_law, refused_law, ack_law}
use Rattle.refusal.proofs.Laws.{ok_is}
use Rattle.receiving.proofs.on_forward_unchecked.Goals as goal

pub handle_packet_unchecked-received-requires : goal.handle_packet_unchecked-received-requires
handle_packet_unchecked-received-requires c = can_handle c.args.rolls.now c.args.total_chunks c.args.now c.args.raw.now (inbound c.args.side c.args.store.now c.args.output.now (seg_metas c.args.notes c.args.rows.now) (direction c.args.records.now c.args.places.now c.args.reverse)) c.requires c.arrival_of.ensures c.in-Some.is c.payload.ensures

pub delivered-side-requires : goal.delivered-side-requires
delivered-side-requires c = can_count c.args.rolls.now c.args.total_chunks c.args.now c.args.raw.now (inbound c.args.side c.args.store.now c.args.output.now (seg_metas c.args.notes c.args.rows.now) (direction c.args.records.now c.args.places.now c.args.reverse)) c.requires c.arrival_of.ensures c.in-Some.is c.gbn_duplicate-late.ensures c.payload.ensures c.handle_packet_unchecked-received.ensures

pub submit_ack-requires : goal.submit_ack-requires
submit_ack-requires c = let m = can_submit c.args.rolls.now c.args.total_chunks c.args.now c.args.raw.now (inbound c.args.side c.args.store.now c.args.output.now (seg_metas c.args.notes c.args.rows.now) (direction c.args.records.now c.args.places.now c.args.reverse)) c.requires c.arrival_of.ensures c.in-Some.is c.gbn_duplicate-late.ensures c.payload.ensures c.handle_packet_unchecked-received.ensures c.delivered-side.ensures c.absorb-side.ensures c.handle_packet_unchecked-received.auto.ack in record { ack_sent_bound = m.0; count_in_bounds = m.1; can_carry = m.2 }

pub returns-in-None : goal.returns-in-None
returns-in-None c = dropped_law c.args.rolls.now c.args.total_chunks c.args.now c.args.raw.now (inbound c.args.side c.args.store.now c.args.output.now (seg_metas c.args.notes c.args.rows.now) (direction c.args.records.now c.args.places.now c.args.reverse)) c.arrival_of.ensures c.in-None.is

pub returns-in-Ok-None : goal.returns-in-Ok-None
returns-in-Ok-None c = silent_law c.args.rolls.now c.args.total_chunks c.args.now c.args.raw.now (inbound c.args.side c.args.store.now c.args.output.now (seg_metas c.args.notes c.args.rows.now) (direction c.args.records.now c.args.places.now c.args.reverse)) c.requires c.arrival_of.ensures c.in-Some.is c.gbn_duplicate-late.ensures c.payload.ensures c.handle_packet_unchecked-received.ensures c.delivered-side.ensures c.absorb-side.ensures (ok_is c.in-Ok-None.is (rw c.in-Ok-None.is at c.in-Ok-None.field-0-is))

pub returns-in-Err : goal.returns-in-Err
returns-in-Err c = refused_law c.args.rolls.now c.args.total_chunks c.args.now c.args.raw.now (inbound c.args.side c.args.store.now c.args.output.now (seg_metas c.args.notes c.args.rows.now) (direction c.args.records.now c.args.places.now c.args.reverse)) c.requires c.arrival_of.ensures c.in-Some.is c.gbn_duplicate-late.ensures c.payload.ensures c.handle_packet_unchecked-received.ensures c.delivered-side.ensures c.absorb-side.ensures c.in-Err.is

pub shape_of-store-in-Ok-Some : goal.shape_of-store-in-Ok-Some
shape_of-store-in-Ok-Some c = c.handle_packet_unchecked-received.auto.store

pub shape_of-output-in-Ok-Some : goal.shape_of-output-in-Ok-Some
shape_of-output-in-Ok-Some c = c.handle_packet_unchecked-received.auto.output

pub returns-in-Ok-Some : goal.returns-in-Ok-Some
returns-in-Ok-Some c = ack_law c.args.rolls.now c.args.total_chunks c.args.now c.args.raw.now (inbound c.args.side c.args.store.now c.args.output.now (seg_metas c.args.notes c.args.rows.now) (direction c.args.records.now c.args.places.now c.args.reverse)) c.requires c.arrival_of.ensures c.in-Some.is c.gbn_duplicate-late.ensures c.payload.ensures c.handle_packet_unchecked-received.ensures c.delivered-side.ensures c.absorb-side.ensures (ok_is c.in-Ok-Some.is (rw c.in-Ok-Some.is at c.in-Ok-Some.field-0-is)) (c.submit_ack.ensures.by_index _ _)
