use mathlib.Core.Path.{ap}
use Rattle.host_session.proofs.Cases.{received_in}
use Rattle.session.specs.Receiving.{stop_and_wait_receiver_end, go_back_nReceiver_end, selective_repeat_receiver_end, received_as}
use Rattle.host_session.proofs.handle_packet.Goals as goal

pub returns-in-StopAndWait : goal.returns-in-StopAndWait
returns-in-StopAndWait c = received_in c.args.receiver.state c.args.store.now c.args.raw.now c.args.output.now c.args.ack.now c.in-StopAndWait.is (ap (received_as (stop_and_wait_receiver_end c.args.store.now)) c.handle_packet-result.ensures)

pub returns-in-GoBackN : goal.returns-in-GoBackN
returns-in-GoBackN c = received_in c.args.receiver.state c.args.store.now c.args.raw.now c.args.output.now c.args.ack.now c.in-GoBackN.is (ap (received_as (go_back_nReceiver_end c.args.store.now)) c.handle_packet-result-in-GoBackN.ensures)

pub returns-in-SelectiveRepeat : goal.returns-in-SelectiveRepeat
returns-in-SelectiveRepeat c = received_in c.args.receiver.state c.args.store.now c.args.raw.now c.args.output.now c.args.ack.now c.in-SelectiveRepeat.is (ap (received_as selective_repeat_receiver_end) c.handle_packet-result-in-SelectiveRepeat.ensures)
