use mathlib.Core.Path.{sym, ◌∙◌}
use Rattle.selective_repeat.specs.Receiver.{receiver}
use Rattle.selective_repeat.proofs.Receiving.{packet_refused, packet_read, packet_received}
use Rattle.selective_repeat.proofs.SelectiveRepeatReceiver.handle_packet.Goals as goal

pub handle_packet_unchecked-requires : goal.handle_packet_unchecked-requires
handle_packet_unchecked-requires c = let k = packet_read (receiver c.args.self c.args.store.now) c.args.raw.now c.args.output.now c.args.ack.now c.held_verdict-verdict.ensures c.receiving_broken.ensures c.counts_broken.ensures _ (sym c.read_after.ensures ∙ c.in-Ok.is) in record { output_value = (k.state_sound, k.counts_low); payload_len_bound = rw c.payload.ensures k.short }

pub returns-in-Ok : goal.returns-in-Ok
returns-in-Ok c = c.handle_packet_unchecked.ensures ∙ packet_received (receiver c.args.self c.args.store.now) c.args.raw.now c.args.output.now c.args.ack.now c.held_verdict-verdict.ensures c.receiving_broken.ensures c.counts_broken.ensures _ (sym c.read_after.ensures ∙ c.in-Ok.is) c.payload.ensures

pub returns-in-Err : goal.returns-in-Err
returns-in-Err c = packet_refused (receiver c.args.self c.args.store.now) c.args.raw.now c.args.output.now c.args.ack.now c.held_verdict-verdict.ensures c.receiving_broken.ensures c.counts_broken.ensures _ (sym c.read_after.ensures ∙ c.in-Err.is)
