-- app/transfer.rs, `Session`: a receiver of any of the three protocols with a store, which only Selective Repeat uses.
-- Its call is the protocol's own.
use Rattle.std.specs.Prelude.{ℕ, ◌*◌, List, ◌++◌, Bool, true, false, cond, ◌&&◌, drop, replicate, ltb, Err}
use Rattle.bounds.specs.Bounds.{slot_size}
use Rattle.refusal.specs.declared.Refusal.TheVariants.{Numbers}
use Rattle.protocol.specs.declared.ProtocolType.{ProtocolType}
use Rattle.protocol.specs.declared.ProtocolType.TheVariants as protocol
use Rattle.packet.specs.declared.Packet.{Packet}
use Rattle.receiver.specs.Reading.{packet_reading, is_number_high}
use Rattle.receiver.specs.Receive.{ReceiveExit, receive_exit}
use Rattle.receiver.specs.declared.PacketReading.{PacketReading}
use Rattle.stop_and_wait.specs.Receiver as stop_and_wait
use Rattle.stop_and_wait.specs.declared.StopAndWaitReceiver.{StopAndWaitReceiver}
use Rattle.go_back_n.specs.Receiver as go_back_n
use Rattle.go_back_n.specs.declared.GoBackNReceiver.{GoBackNReceiver}
use Rattle.selective_repeat.specs.Receiver as selective_repeat
use Rattle.session.specs.declared.Receiver.{Receiver}
use Rattle.session.specs.declared.ReceiverState.{ReceiverState}
use Rattle.session.specs.declared.ReceiverState.TheVariants as receiverState

-- a receiver and its store
pub record ReceiverEnd : Type 0 where
  pub receiver : Receiver
  pub store : List ℕ

abbrev pub receiver_end : Receiver → List ℕ → ReceiverEnd
receiver_end r store = record { receiver = r; store = store }

abbrev pub receiver_in : ReceiverState → List ℕ → ReceiverEnd
receiver_in r store = receiver_end (record { state = r }) store

-- the protocols' own
abbrev pub stop_and_wait_receiver_end : List ℕ → StopAndWaitReceiver → ReceiverEnd
stop_and_wait_receiver_end store r = receiver_in (receiverState.StopAndWait r) store

abbrev pub go_back_nReceiver_end : List ℕ → GoBackNReceiver → ReceiverEnd
go_back_nReceiver_end store r = receiver_in (receiverState.GoBackN r) store

abbrev pub selective_repeat_receiver_end : selective_repeat.Receiver → ReceiverEnd
selective_repeat_receiver_end v = receiver_in (receiverState.SelectiveRepeat v.state) v.store

-- making: only Selective Repeat has slots
abbrev pub receiver_slot_count : ProtocolType → ℕ → ℕ
receiver_slot_count protocol.StopAndWait w = 0
receiver_slot_count protocol.GoBackN w = 0
receiver_slot_count protocol.SelectiveRepeat w = w

unfoldable pub new_receiver : ProtocolType → ℕ → List ℕ → ReceiverEnd
new_receiver protocol.StopAndWait w store = stop_and_wait_receiver_end store stop_and_wait.new_receiver
new_receiver protocol.GoBackN w store = go_back_nReceiver_end store go_back_n.new_receiver
new_receiver protocol.SelectiveRepeat w store =
    selective_repeat_receiver_end
    (selective_repeat.receiver (selective_repeat.new_receiver w)
    (replicate (w * slot_size) 0 ++ drop (w * slot_size) store))

-- the number of the next chunk to be delivered; how much of the output is filled
abbrev pub base_in : ReceiverState → ℕ
base_in (receiverState.StopAndWait r) = r.expected_seq
base_in (receiverState.GoBackN r) = r.expected_seq
base_in (receiverState.SelectiveRepeat r) = r.recv_base

abbrev pub base : Receiver → ℕ
base r = base_in r.state

abbrev pub filled_in : ReceiverState → ℕ
filled_in (receiverState.StopAndWait r) = r.filled
filled_in (receiverState.GoBackN r) = r.filled
filled_in (receiverState.SelectiveRepeat r) = r.filled

abbrev pub filled : Receiver → ℕ
filled r = filled_in r.state

-- whether its ACKs are cumulative
abbrev pub is_cumulative_in : ReceiverState → Bool
is_cumulative_in (receiverState.StopAndWait r) = false
is_cumulative_in (receiverState.GoBackN r) = true
is_cumulative_in (receiverState.SelectiveRepeat r) = false

abbrev pub is_cumulative : Receiver → Bool
is_cumulative r = is_cumulative_in r.state

-- `sw_sr_duplicate_count`
abbrev pub duplicate_count_in : ReceiverState → ℕ
duplicate_count_in (receiverState.StopAndWait r) = r.duplicates_count
duplicate_count_in (receiverState.GoBackN r) = 0
duplicate_count_in (receiverState.SelectiveRepeat r) = r.duplicates_count

abbrev pub duplicate_count : Receiver → ℕ
duplicate_count r = duplicate_count_in r.state

-- `gbn_already_delivered`
abbrev pub gbn_already_delivered : Receiver → ℕ → Bool
gbn_already_delivered r n = is_cumulative r && ltb n (base r)

-- `deliver_data`
abbrev pub received_as : {R : Type 0} → (R → ReceiverEnd) → ReceiveExit R → ReceiveExit ReceiverEnd
received_as end x = receive_exit x.answer (end x.receiver) x.output x.ack

abbrev pub handle_packet_in : ReceiverState → List ℕ → List ℕ → List ℕ → List ℕ → ReceiveExit ReceiverEnd
handle_packet_in (receiverState.StopAndWait r) store raw output ack =
    received_as (stop_and_wait_receiver_end store) (stop_and_wait.handle_packet r raw output ack)
handle_packet_in (receiverState.GoBackN r) store raw output ack =
    received_as (go_back_nReceiver_end store) (go_back_n.handle_packet r raw output ack)
handle_packet_in (receiverState.SelectiveRepeat r) store raw output ack =
    received_as selective_repeat_receiver_end
    (selective_repeat.handle_packet (selective_repeat.receiver r store) raw output ack)

unfoldable pub handle_packet : ReceiverEnd → List ℕ → List ℕ → List ℕ → ReceiveExit ReceiverEnd
handle_packet v raw output ack = handle_packet_in v.receiver.state v.store raw output ack

-- the same of a packet that was read, with its payload
abbrev pub handle_reading_in : ReceiverState → List ℕ → PacketReading → List ℕ → List ℕ → List ℕ
    → ReceiveExit ReceiverEnd
handle_reading_in (receiverState.StopAndWait r) store h payload output ack =
    received_as (stop_and_wait_receiver_end store) (stop_and_wait.handle_packet_unchecked r h payload output ack)
handle_reading_in (receiverState.GoBackN r) store h payload output ack =
    received_as (go_back_nReceiver_end store) (go_back_n.handle_packet_unchecked r h payload output ack)
handle_reading_in (receiverState.SelectiveRepeat r) store h payload output ack =
    received_as selective_repeat_receiver_end
    (selective_repeat.handle_packet_unchecked (selective_repeat.receiver r store) h payload output ack)

unfoldable pub handle_reading : ReceiverEnd → PacketReading → List ℕ → List ℕ → List ℕ → ReceiveExit ReceiverEnd
handle_reading v h payload output ack = handle_reading_in v.receiver.state v.store h payload output ack

-- 7 looks at a valid packet alone
abbrev pub is_high : Packet → Bool → Bool
is_high p valid = valid && is_number_high p

unfoldable pub handle_packet_unchecked : ReceiverEnd → Packet → Bool → List ℕ → List ℕ → List ℕ
    → ReceiveExit ReceiverEnd
handle_packet_unchecked v p valid payload output ack =
    cond (is_high p valid) (receive_exit (Err Numbers) v output ack)
    (handle_reading v (packet_reading p valid) payload output ack)
