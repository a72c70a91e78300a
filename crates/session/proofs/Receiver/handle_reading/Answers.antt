use mathlib.Core.Path.{ap}
use Rattle.session.specs.Receiving.{stop_and_wait_receiver_end, go_back_nReceiver_end, selective_repeat_receiver_end, received_as}
use Rattle.session.proofs.Receives.{can_receive_in, read_in}
use Rattle.session.proofs.Receiver.handle_reading.Goals as goal

pub handle_packet_unchecked-result-requires : goal.handle_packet_unchecked-result-requires
handle_packet_unchecked-result-requires c = let h = can_receive_in c.args.self.state _ c.args.store.now c.in-StopAndWait.is c.args.payload.now c.args.output.now c.requires in record { output_value = h.unbroken.state; corrupted_count_value = h.unbroken.counts }

pub handle_packet_unchecked-result-requires-in-GoBackN : goal.handle_packet_unchecked-result-requires-in-GoBackN
handle_packet_unchecked-result-requires-in-GoBackN c = let h = can_receive_in c.args.self.state _ c.args.store.now c.in-GoBackN.is c.args.payload.now c.args.output.now c.requires in record { output_value = h.unbroken.state; duplicate_acks_sent_value = h.unbroken.counts }

pub handle_packet_unchecked-result-requires-in-SelectiveRepeat : goal.handle_packet_unchecked-result-requires-in-SelectiveRepeat
handle_packet_unchecked-result-requires-in-SelectiveRepeat c = let h = can_receive_in c.args.self.state _ c.args.store.now c.in-SelectiveRepeat.is c.args.payload.now c.args.output.now c.requires in record { output_value = (h.unbroken.state, h.unbroken.counts); payload_len_bound = h.short }

pub returns-in-StopAndWait : goal.returns-in-StopAndWait
returns-in-StopAndWait c = read_in c.args.self.state _ c.args.store.now c.in-StopAndWait.is _ _ _ _ (ap (received_as (stop_and_wait_receiver_end c.args.store.now)) c.handle_packet_unchecked-result.ensures)

pub returns-in-GoBackN : goal.returns-in-GoBackN
returns-in-GoBackN c = read_in c.args.self.state _ c.args.store.now c.in-GoBackN.is _ _ _ _ (ap (received_as (go_back_nReceiver_end c.args.store.now)) c.handle_packet_unchecked-result-in-GoBackN.ensures)

pub returns-in-SelectiveRepeat : goal.returns-in-SelectiveRepeat
returns-in-SelectiveRepeat c = read_in c.args.self.state _ c.args.store.now c.in-SelectiveRepeat.is _ _ _ _ (ap (received_as selective_repeat_receiver_end) c.handle_packet_unchecked-result-in-SelectiveRepeat.ensures)
