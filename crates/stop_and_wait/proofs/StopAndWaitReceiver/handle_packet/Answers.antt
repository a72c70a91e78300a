use mathlib.Core.Path.{sym, ◌∙◌}
use Rattle.receiver.proofs.Laws.{read_sound, receive_reading, receive_refused}
use Rattle.stop_and_wait.specs.Receiver.{reception}
use Rattle.stop_and_wait.proofs.StopAndWaitReceiver.handle_packet.Goals as goal

pub handle_packet_unchecked-requires : goal.handle_packet_unchecked-requires
handle_packet_unchecked-requires c = let both = read_sound _ c.read_in_order.ensures c.in-Ok.is in record { output_value = both.0; corrupted_count_value = both.1 }

pub returns-in-Ok : goal.returns-in-Ok
returns-in-Ok c = receive_reading reception _ _ _ _ c.handle_packet_unchecked.ensures c.read_in_order.ensures c.in-Ok.is c.payload.ensures

pub returns-in-Err : goal.returns-in-Err
returns-in-Err c = receive_refused _ _ _ _ _ (sym c.read_in_order.ensures ∙ c.in-Err.is)
