-- The ends of the three protocols: the definitions that the contracts of their entry points cite.
use Rattle.std.specs.Prelude.{ℕ, ◌*◌, List, [], ◌++◌, ◌≡◌, Bool, true, false, not, take, drop, replicate, Err, None, Ok}
use Rattle.std.specs.Prelude.{Option, Result, Some}
use Rattle.bounds.specs.Bounds.{header_size, slot_size}
use Rattle.octets.specs.Octets.{Octets}
use Rattle.window.specs.State.{window_broken, store_short}
use Rattle.window.specs.Slots as slots
use Rattle.window.specs.Sending.{make_exit, make_window, SendExit, send_chunk}
use Rattle.window.specs.Acknowledgement.{AckExit}
use Rattle.window.specs.Resending.{TimeoutExit}
use Rattle.receiver.specs.Receive.{ReceiveExit}
use Rattle.go_back_n.specs.Sender as go_back_n
use Rattle.go_back_n.specs.Receiver as goBackNReceiver
use Rattle.stop_and_wait.specs.Sender as stop_and_wait
use Rattle.stop_and_wait.specs.Receiver as stopAndWaitReceiver
use Rattle.selective_repeat.specs.Sender as selective_repeat
use Rattle.selective_repeat.specs.Receiver as selectiveRepeatReceiver
use Rattle.protocol.specs.PlainMachine.{WindowFits}
use Rattle.protocol.specs.declared.ProtocolType.{ProtocolType}
use Rattle.protocol.specs.declared.ProtocolType.TheVariants.{StopAndWait, GoBackN, SelectiveRepeat}
use Rattle.delivery.specs.Calls.{Done, done, Ends, World, fresh}
use Rattle.refusal.specs.declared.Refusal.{Refusal}

-- the bytes that an answer says were written, and whether the call was done
abbrev pub bytes_sent : Result (Option ℕ) Refusal → List ℕ → List ℕ
bytes_sent (Ok (Some n)) out = take n out
bytes_sent (Ok None) out = []
bytes_sent (Err r) out = []

abbrev pub is_sent : Result (Option ℕ) Refusal → Bool
is_sent (Ok (Some n)) = true
is_sent (Ok None) = false
is_sent (Err r) = false

abbrev pub is_send_refused : Result (Option ℕ) Refusal → Bool
is_send_refused (Ok (Some n)) = false
is_send_refused (Ok None) = false
is_send_refused (Err r) = true

abbrev pub by_sending : {S : Type 0} → SendExit S → Done S
by_sending x = done x.after (bytes_sent x.answer x.out) (is_sent x.answer) (is_send_refused x.answer)

abbrev pub bytes_resent : Result (Option ℕ) Refusal → List ℕ → List ℕ
bytes_resent (Ok (Some n)) out = take n out
bytes_resent (Ok None) out = []
bytes_resent (Err r) out = []

abbrev pub is_resent : Result (Option ℕ) Refusal → Bool
is_resent (Ok (Some n)) = true
is_resent (Ok None) = false
is_resent (Err r) = false

abbrev pub is_timeout_refused : Result (Option ℕ) Refusal → Bool
is_timeout_refused (Ok (Some n)) = false
is_timeout_refused (Ok None) = false
is_timeout_refused (Err r) = true

abbrev pub by_resending : {S : Type 0} → TimeoutExit S → Done S
by_resending x = done x.after (bytes_resent x.answer x.out) (is_resent x.answer) (is_timeout_refused x.answer)

abbrev pub is_handled : Result Bool Refusal → Bool
is_handled (Ok true) = true
is_handled (Ok false) = true
is_handled (Err r) = false

abbrev pub by_acknowledging : {S : Type 0} → AckExit S → Done S
by_acknowledging x = done x.after [] (is_handled x.answer) (not (is_handled x.answer))

abbrev pub bytes_replied : Result (Option ℕ) Refusal → List ℕ → List ℕ
bytes_replied (Ok (Some n)) ack = take header_size ack
bytes_replied (Ok None) ack = []
bytes_replied (Err r) ack = []

abbrev pub is_received : Result (Option ℕ) Refusal → Bool
is_received (Ok (Some n)) = true
is_received (Ok None) = true
is_received (Err r) = false

-- a receiver and its output
pub record WithOutput (R : Type 0) : Type 0 where
  pub receiver : R
  pub output : List ℕ

abbrev pub with_output : {R : Type 0} → R → List ℕ → WithOutput R
with_output r output = record { receiver = r; output = output }

abbrev pub by_receiving : {R : Type 0} → ReceiveExit R → Done (WithOutput R)
by_receiving x =
    done (with_output x.receiver x.output) (bytes_replied x.answer x.ack)
    (is_received x.answer) (not (is_received x.answer))

-- two ends by their calls: sending, timeout, ACK, packet; and by their bases and the receiver's fill mark
abbrev pub ends_of : {S R T : Type 0} → (S → List ℕ → List ℕ → SendExit S) → (S → T → List ℕ → TimeoutExit S)
    → (S → List ℕ → AckExit S)
    → (R → List ℕ → List ℕ → List ℕ → ReceiveExit R) → (S → ℕ) → (R → ℕ) → (R → ℕ) → Ends
ends_of {S} {R} {T} send timeout ack packet sender_base receiver_base filled = record {
  Sender = S;
  Receiver = WithOutput R;
  Timeout = T;
  send_chunk = λ v payload out. by_sending (send v payload out);
  handle_timeout = λ v t out. by_resending (timeout v t out);
  handle_ack = λ v raw. by_acknowledging (ack v raw);
  handle_packet = λ r raw buffer. by_receiving (packet r.receiver raw r.output buffer);
  sender_base = sender_base;
  receiver_base = λ r. receiver_base r.receiver;
  output = λ r. take (filled r.receiver) r.output;
  unwritten = λ r. drop (filled r.receiver) r.output;
}

-- Stop-and-Wait has one timeout
pub data SingleTimeout : Type 0 where
  one : SingleTimeout

abbrev pub stop_and_wait_ends : Ends
stop_and_wait_ends =
    ends_of {T = SingleTimeout} stop_and_wait.send_chunk
    (λ v t out. stop_and_wait.handle_timeout v out) stop_and_wait.handle_ack
    stopAndWaitReceiver.handle_packet
    (λ v. v.sender.current_seq) (λ r. r.expected_seq) (λ r. r.filled)

-- Go-Back-N: all outstanding numbers, or only the earliest
pub data GoBackNTimeout : Type 0 where
  all : GoBackNTimeout
  earliest : GoBackNTimeout

abbrev pub go_back_nTimeout : slots.Sender → GoBackNTimeout → List ℕ → TimeoutExit slots.Sender
go_back_nTimeout v all out = go_back_n.handle_timeout v out
go_back_nTimeout v earliest out = go_back_n.handle_timeout_earliest v out

abbrev pub go_back_nEnds : Ends
go_back_nEnds =
    ends_of (send_chunk false) go_back_nTimeout go_back_n.handle_ack goBackNReceiver.handle_packet
    (λ v. v.window.send_base) (λ r. r.expected_seq) (λ r. r.filled)

-- Selective Repeat: a timeout is of a number
abbrev pub selective_repeat_ends : Ends
selective_repeat_ends =
    ends_of (send_chunk true) selective_repeat.handle_timeout selective_repeat.handle_ack
    selectiveRepeatReceiver.handle_packet
    (λ v. v.window.send_base) (λ r. r.state.recv_base) (λ r. r.state.filled)

abbrev pub ends : ProtocolType → Ends
ends StopAndWait = stop_and_wait_ends
ends GoBackN = go_back_nEnds
ends SelectiveRepeat = selective_repeat_ends

-- Fresh ends: what making leaves, of any stores and output; limit is Stop-and-Wait's greatest number of retries.
abbrev pub fresh_ends : (p : ProtocolType) → ℕ → ℕ → List ℕ → List ℕ → List ℕ → World (ends p)
fresh_ends StopAndWait w limit sending receiving output =
    fresh stop_and_wait_ends (stop_and_wait.end_of (stop_and_wait.state 0 false limit 0 0 0)
    (slots.fresh 1 sending).store)
    (with_output stopAndWaitReceiver.new_receiver output)
fresh_ends GoBackN w limit sending receiving output =
    fresh go_back_nEnds (slots.fresh w sending) (with_output goBackNReceiver.new_receiver output)
fresh_ends SelectiveRepeat w limit sending receiving output =
    fresh selective_repeat_ends (slots.fresh w sending)
    (with_output
    (selectiveRepeatReceiver.receiver (selectiveRepeatReceiver.new_receiver w)
    (replicate (w * slot_size) 0 ++ drop (w * slot_size) receiving))
    output)

-- What making asks: the window within bounds, Stop-and-Wait's 1, and stores that aren't short; the bytes of the
-- sender's store are bytes.
abbrev pub ReceivingRoom : ProtocolType → ℕ → List ℕ → Type 0
ReceivingRoom StopAndWait w store = Unit {0}
ReceivingRoom GoBackN w store = Unit {0}
ReceivingRoom SelectiveRepeat w store = store_short store w ≡ false

pub record Made (p : ProtocolType) (w : ℕ) (sending receiving : List ℕ) : Type 0 where
  pub in_bounds : window_broken w ≡ false
  pub window : WindowFits p w
  pub sending_room : store_short sending w ≡ false
  pub receiving_room : ReceivingRoom p w receiving
  pub octets : Octets sending

-- The fresh ends are what the makers answer and leave in their stores; a Stop-and-Wait or Go-Back-N receiver is made of
-- nothing.
abbrev pub FromMaking : (p : ProtocolType) → ℕ → ℕ → List ℕ → List ℕ → List ℕ → Type 0
FromMaking StopAndWait w limit sending receiving output =
    let v = (fresh_ends StopAndWait w limit sending receiving output).sender in
    stop_and_wait.new_sender limit sending ≡ make_exit (Ok v.sender) v.store
FromMaking GoBackN w limit sending receiving output =
    let v = (fresh_ends GoBackN w limit sending receiving output).sender in
    make_window w sending ≡ make_exit (Ok v.window) v.store
FromMaking SelectiveRepeat w limit sending receiving output =
    let v = (fresh_ends SelectiveRepeat w limit sending receiving output).sender in
    let r = (fresh_ends SelectiveRepeat w limit sending receiving output).receiver.receiver in
    (make_window w sending ≡ make_exit (Ok v.window) v.store)
    × (selectiveRepeatReceiver.make_receiver w receiving ≡ make_exit (Ok r.state) r.store)
