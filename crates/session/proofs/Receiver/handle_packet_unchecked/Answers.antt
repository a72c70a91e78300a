use Rattle.session.specs.Receiving.{receiver_end}
use Rattle.session.proofs.Receives.{packet_high, packet_low}
use Rattle.session.proofs.Receiver.handle_packet_unchecked.Goals as goal

pub returns-then-is_high : goal.returns-then-is_high
returns-then-is_high c = packet_high (receiver_end c.args.self c.args.store.now) c.args.packet c.args.valid c.args.payload.now c.args.output.now c.args.ack.now c.is_high.ensures c.if-is_high.true

pub returns : goal.returns
returns c = packet_low (receiver_end c.args.self c.args.store.now) c.args.packet c.args.valid c.args.payload.now c.args.output.now c.args.ack.now c.is_high.ensures c.if-is_high.false c.packet_reading-reading.ensures c.handle_reading.ensures
