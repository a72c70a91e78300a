use Rattle.receiving.proofs.Calls.{submits}
use Rattle.notes.specs.Notes.{seg_metas}
use Rattle.path.specs.Direction.{direction}
use Rattle.receiving.proofs.submit_ack.Goals as goal

pub returns : goal.returns
returns c = record { by_index = submits c.args.rolls.now c.args.now c.args.seq c.args.wire.now c.args.side (seg_metas c.args.notes c.args.rows.now) (direction c.args.records.now c.args.places.now c.args.reverse) c.carry_unchecked-carried.ensures.result_after c.is_cumulative.ensures c.any_copies.ensures c.ack_scheduled-notes.ensures c.stop_of.ensures; wire_after = c.carry_unchecked-carried.ensures.wire_after }
