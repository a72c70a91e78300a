use mathlib.Core.Path.{refl, sym, ◌∙◌}
use lib.ListN.{replicate}
use Rattle.chunks.specs.Chunks.{chunks_of}
use Rattle.path.specs.Direction.{direction}
use Rattle.notes.specs.Notes.{seg_metas}
use Rattle.multi_timer.specs.MultiTimer.{timers_exit}
use Rattle.session.specs.Sending.{sender_end}
use Rattle.submission.specs.Submission.{outgoing}
use Rattle.sending.specs.Sending.{pump_state}
use Rattle.bounds.specs.Bounds.{max_datagram}
use Rattle.sending.proofs.Calls.{as_long, ample, state_numbers, chunk_left, can_send_chunk, sent_numbers, can_submit_sent, relent_length, wire_fits, wire_cut, wire_short, sends_one}
use Rattle.sending.proofs.send_one.Goals as goal

pub next_seq_num_unchecked-seq-requires : goal.next_seq_num_unchecked-seq-requires
next_seq_num_unchecked-seq-requires c = state_numbers c.requires.can_pump

pub chunk_unchecked-payload-requires : goal.chunk_unchecked-payload-requires
chunk_unchecked-payload-requires c = record { chunk_size_nonzero = (c.requires.can_pump.some, c.requires.can_pump.short); seq_num_in_bounds = chunk_left c.requires.can_pump c.requires.sender_value.0 c.next_seq_num_unchecked-seq.ensures }

pub send_chunk_unchecked-sender-requires : goal.send_chunk_unchecked-sender-requires
send_chunk_unchecked-sender-requires c = can_send_chunk c.requires.can_pump c.requires.sender_value.0 c.next_seq_num_unchecked-seq.ensures c.chunk_unchecked-payload.ensures c.args.wire.now (as_long c.requires.sender_value.1)

pub oldest_outstanding_unchecked-oldest-requires : goal.oldest_outstanding_unchecked-oldest-requires
oldest_outstanding_unchecked-oldest-requires c = sent_numbers c.requires.can_pump c.requires.sender_value.0 c.next_seq_num_unchecked-seq.ensures c.chunk_unchecked-payload.ensures c.args.wire.now (as_long c.requires.sender_value.1) c.send_chunk_unchecked-sender.ensures

pub slice_bounds-submit_unchecked-end : goal.slice_bounds-submit_unchecked-end
slice_bounds-submit_unchecked-end c = wire_fits c.requires.can_pump c.requires.sender_value.0 c.next_seq_num_unchecked-seq.ensures c.chunk_unchecked-payload.ensures c.send_chunk_unchecked-sender.new.out (c.send_chunk_unchecked-sender.auto.out ∙ c.requires.sender_value.1)

pub slice_bounds-submit_unchecked-end-2 : goal.slice_bounds-submit_unchecked-end-2
slice_bounds-submit_unchecked-end-2 c = sym (wire_cut c.requires.can_pump c.requires.sender_value.0 c.next_seq_num_unchecked-seq.ensures c.chunk_unchecked-payload.ensures c.send_chunk_unchecked-sender.new.out (c.send_chunk_unchecked-sender.auto.out ∙ c.requires.sender_value.1))

pub submit_unchecked-submitted-requires : goal.submit_unchecked-submitted-requires
submit_unchecked-submitted-requires c = can_submit_sent c.requires.can_pump c.requires.sender_value.0 c.next_seq_num_unchecked-seq.ensures _ _ (wire_short c.requires.can_pump c.requires.sender_value.0 c.next_seq_num_unchecked-seq.ensures _ _ c.chunk_unchecked-payload.ensures)

pub shape_of-store : goal.shape_of-store
shape_of-store c = c.send_chunk_unchecked-sender.auto.store

pub shape_of-wire : goal.shape_of-wire
shape_of-wire c = relent_length c.chunk_unchecked-payload.ensures c.send_chunk_unchecked-sender.new.out c.submit_unchecked-submitted.new.wire c.args.wire.now c.submit_unchecked-submitted.auto.wire c.send_chunk_unchecked-sender.auto.out

pub returns : goal.returns
returns c = sends_one c.args.timing c.args.rolls.now (chunks_of c.args.chunk_size c.args.file.now) c.args.rto c.args.now (pump_state (sender_end c.args.sender c.args.store.now) (outgoing (direction c.args.records.now c.args.places.now c.args.outbound.forward) (seg_metas c.args.outbound.notes c.args.rows.now) c.args.outbound.events c.args.events.now (timers_exit c.args.outbound.clock c.args.keys.now c.args.deadlines.now))) c.next_seq_num_unchecked-seq.ensures c.chunk_unchecked-payload.ensures (can_send_chunk c.requires.can_pump c.requires.sender_value.0 c.next_seq_num_unchecked-seq.ensures c.chunk_unchecked-payload.ensures c.args.wire.now (as_long c.requires.sender_value.1)) (can_send_chunk c.requires.can_pump c.requires.sender_value.0 c.next_seq_num_unchecked-seq.ensures c.chunk_unchecked-payload.ensures (replicate max_datagram 0) ample) c.send_chunk_unchecked-sender.ensures c.oldest_outstanding_unchecked-oldest.ensures refl c.submit_unchecked-submitted.ensures.stop_after
