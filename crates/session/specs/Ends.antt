-- Document 01, demand 3: the ends that its lists of calls speak of, as a session's.
use Rattle.std.specs.Prelude.{ℕ, List}
use Rattle.protocol.specs.declared.ProtocolType.{ProtocolType}
use Rattle.protocol.specs.declared.ProtocolType.TheVariants.{StopAndWait, GoBackN, SelectiveRepeat}
use Rattle.delivery.specs.Calls.{Done, done}
use Rattle.delivery.specs.Ends.{ends, one, GoBackNTimeout, all, earliest}
use Rattle.session.specs.declared.Timeout.{Timeout}
use Rattle.session.specs.declared.Timeout.TheVariants as timeout
use Rattle.session.specs.Sending.{SenderEnd, stop_and_wait_end, go_back_nEnd, selective_repeat_end, timeout_number}
use Rattle.session.specs.Receiving.{ReceiverEnd, stop_and_wait_receiver_end, go_back_nReceiver_end}
use Rattle.session.specs.Receiving.{selective_repeat_receiver_end}

abbrev pub sender_of : (p : ProtocolType) → (ends p).Sender → SenderEnd
sender_of StopAndWait s = stop_and_wait_end s
sender_of GoBackN s = go_back_nEnd s
sender_of SelectiveRepeat s = selective_repeat_end s

-- the receiver's with a store, which Stop-and-Wait and Go-Back-N leave alone; and its output
abbrev pub receiver_of : (p : ProtocolType) → List ℕ → (ends p).Receiver → ReceiverEnd
receiver_of StopAndWait store r = stop_and_wait_receiver_end store r.receiver
receiver_of GoBackN store r = go_back_nReceiver_end store r.receiver
receiver_of SelectiveRepeat store r = selective_repeat_receiver_end r.receiver

abbrev pub output_of : (p : ProtocolType) → (ends p).Receiver → List ℕ
output_of StopAndWait r = r.output
output_of GoBackN r = r.output
output_of SelectiveRepeat r = r.output

-- a session's timeout as the protocol's
abbrev pub go_back_nTimeout_of : Timeout → GoBackNTimeout
go_back_nTimeout_of timeout.All = all
go_back_nTimeout_of timeout.Earliest = earliest
go_back_nTimeout_of (timeout.Number n) = all

abbrev pub timeout_of : (p : ProtocolType) → (ends p).Sender → Timeout → (ends p).Timeout
timeout_of StopAndWait s t = one
timeout_of GoBackN s t = go_back_nTimeout_of t
timeout_of SelectiveRepeat s t = timeout_number s.window t

-- what a call left, with its state as a session's
abbrev pub done_as : {S T : Type 0} → (S → T) → Done S → Done T
done_as end d = done (end d.after) d.written d.is_done d.is_refused
