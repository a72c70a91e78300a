-- Lists of calls of one end with any bytes, and the states that no call turns away with 9.
use Rattle.std.specs.Prelude.{ℕ, ◌≡◌, List, [], ◌∷◌, false, true}
use Rattle.window.specs.State.{state_broken}
use Rattle.receiver.specs.State as receiverState
use Rattle.stop_and_wait.specs.Sender as stop_and_wait
use Rattle.selective_repeat.specs.Receiver.{receiving_broken}
use Rattle.protocol.specs.declared.ProtocolType.{ProtocolType}
use Rattle.protocol.specs.declared.ProtocolType.TheVariants.{StopAndWait, GoBackN, SelectiveRepeat}
use Rattle.delivery.specs.Calls.{Ends}
use Rattle.delivery.specs.Ends.{ends}

-- a sender's calls: a payload and a buffer, a timeout and a buffer, a datagram
pub data SenderCall (Timeout : Type 0) : Type 0 where
  send : List ℕ → List ℕ → SenderCall Timeout
  timeout : Timeout → List ℕ → SenderCall Timeout
  ack : List ℕ → SenderCall Timeout

abbrev pub sender_step : (E : Ends) → E.Sender → SenderCall E.Timeout → E.Sender
sender_step E s (send payload buffer) = (E.send_chunk s payload buffer).after
sender_step E s (timeout t buffer) = (E.handle_timeout s t buffer).after
sender_step E s (ack raw) = (E.handle_ack s raw).after

unfoldable pub sender_after : (E : Ends) → E.Sender → List (SenderCall E.Timeout) → E.Sender
sender_after E s [] = s
sender_after E s (c ∷ cs) = sender_after E (sender_step E s c) cs

-- a receiver's calls: a datagram and a buffer for the ACK; the output is as the last call left it
pub record ReceiverCall : Type 0 where
  pub raw : List ℕ
  pub buffer : List ℕ

unfoldable pub receiver_after : (E : Ends) → E.Receiver → List ReceiverCall → E.Receiver
receiver_after E r [] = r
receiver_after E r (c ∷ cs) = receiver_after E (E.handle_packet r c.raw c.buffer).after cs

-- line 9 is false
abbrev pub SenderSound : (p : ProtocolType) → (ends p).Sender → Type 0
SenderSound StopAndWait v = state_broken false (stop_and_wait.window_of v.sender) v.store ≡ false
SenderSound GoBackN v = state_broken false v.window v.store ≡ false
SenderSound SelectiveRepeat v = state_broken true v.window v.store ≡ false

abbrev pub ReceiverSound : (p : ProtocolType) → (ends p).Receiver → Type 0
ReceiverSound StopAndWait r = receiverState.state_broken r.receiver.expected_seq r.receiver.filled r.output
    ≡ false
ReceiverSound GoBackN r = receiverState.state_broken r.receiver.expected_seq r.receiver.filled r.output
    ≡ false
ReceiverSound SelectiveRepeat r = receiving_broken r.receiver.state r.receiver.store r.output ≡ false
