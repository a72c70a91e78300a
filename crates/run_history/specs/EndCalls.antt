-- The calls of a run on each end alone, as tallies has them: from its answers follow the counters of an end.
use Rattle.std.specs.Prelude.{ℕ, Bool, cond, List, [], ◌∷◌}
use Rattle.protocol.specs.declared.ProtocolType.{ProtocolType}
use Rattle.protocol.specs.declared.ProtocolType.TheVariants.{StopAndWait, GoBackN, SelectiveRepeat}
use Rattle.receiver.specs.declared.PacketReading.{PacketReading}
use Rattle.delivery.specs.AnyBytes as any
use Rattle.tallies.specs.Senders.{SenderCalls}
use Rattle.tallies.specs.Readings.{is_older, is_duplicate}
use Rattle.tallies.specs.Receivers as receivers
use Rattle.path.specs.Path.{packet_buffer}
use Rattle.session.specs.Sending.{SenderEnd, window_of, send_chunk, handle_ack, handle_timeout, ample_buffer}
use Rattle.session.specs.declared.Timeout.{Timeout}
use Rattle.session.specs.declared.ReceiverState.{ReceiverState}
use Rattle.session.specs.declared.ReceiverState.TheVariants as receiverState
use Rattle.receiving.specs.Receiving.{ack_buffer}
use Rattle.run_history.specs.Calls.{Call, chunk, timeout, arrival, return, Ends, reads_as_data, reads_as_ack}

-- a session's sender
abbrev pub session_sender : SenderCalls
session_sender = record {
  Sender = SenderEnd;
  Timeout = Timeout;
  send_chunk = send_chunk;
  handle_timeout = handle_timeout;
  handle_ack = handle_ack;
  total_sent = λ v. (window_of v.sender).total_sent;
  retransmissions = λ v. (window_of v.sender).retransmissions;
}

abbrev pub sender_call_by : Ends → Call → List (any.SenderCall Timeout)
sender_call_by e (chunk payload carried) = any.send payload packet_buffer ∷ []
sender_call_by e (timeout t carried) = any.timeout t (ample_buffer e.sender.sender) ∷ []
sender_call_by e (arrival raw carried) = []
sender_call_by e (return raw age) = cond (reads_as_ack raw) (any.ack raw ∷ []) []

abbrev pub receiver_call_by : Ends → Call → List receivers.Call
receiver_call_by e (chunk payload carried) = []
receiver_call_by e (timeout t carried) = []
receiver_call_by e (arrival raw carried) =
    cond (reads_as_data raw) (record { raw = raw; output = e.output; ack = ack_buffer } ∷ []) []
receiver_call_by e (return raw age) = []

-- the receiver that readings, the latest first, tell of a protocol, but for the fill mark
abbrev pub receiver_from : ProtocolType → ℕ → List PacketReading → ℕ → ReceiverState
receiver_from StopAndWait w hs filled = receiverState.StopAndWait (receivers.stop_and_wait_after hs filled)
receiver_from GoBackN w hs filled = receiverState.GoBackN (receivers.go_back_nAfter hs filled)
receiver_from SelectiveRepeat w hs filled = receiverState.SelectiveRepeat (receivers.selective_repeat_after w hs filled)

-- whether a reading, after those before it, is Data that came before: older than base or, in Selective Repeat, noted
abbrev pub is_repeated : ProtocolType → ℕ → List PacketReading → PacketReading → Bool
is_repeated StopAndWait w hs h = is_older hs h
is_repeated GoBackN w hs h = is_older hs h
is_repeated SelectiveRepeat w hs h = is_duplicate w hs h
