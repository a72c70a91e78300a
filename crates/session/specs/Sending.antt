-- app/transfer.rs, `Session`: a sender of any of the three protocols with its store. Each call is the protocol's own.
use Rattle.std.specs.Prelude.{ℕ, ◌*◌, List, map, Bool, true, false, cond, replicate, ltb, None, Ok, Option, Result}
use Rattle.std.specs.Prelude.{Some}
use Rattle.bounds.specs.Bounds.{max_datagram}
use Rattle.protocol.specs.Runs.{up_from}
use Rattle.protocol.specs.declared.ProtocolType.{ProtocolType}
use Rattle.protocol.specs.declared.ProtocolType.TheVariants as protocol
use Rattle.window.specs.State.{outstanding}
use Rattle.window.specs.Slots as slots
use Rattle.window.specs.Slots.{datagram_for}
use Rattle.window.specs.Sending as window
use Rattle.window.specs.Sending.{SendExit, send_exit, window_free}
use Rattle.window.specs.Acknowledgement.{is_in_window, AckExit, ack_exit}
use Rattle.window.specs.Resending.{TimeoutExit, timeout_exit}
use Rattle.window.specs.declared.SendWindow.{SendWindow}
use Rattle.stop_and_wait.specs.Sender as stop_and_wait
use Rattle.go_back_n.specs.Sender as go_back_n
use Rattle.selective_repeat.specs.Sender as selective_repeat
use Rattle.delivery.specs.Calls.{datagrams}
use Rattle.delivery.specs.Ends.{bytes_resent}
use Rattle.session.specs.declared.Sender.{Sender}
use Rattle.session.specs.declared.SenderState.{SenderState}
use Rattle.session.specs.declared.SenderState.TheVariants as senderState
use Rattle.session.specs.declared.Timeout.{Timeout}
use Rattle.session.specs.declared.Timeout.TheVariants as timeout
use Rattle.refusal.specs.declared.Refusal.{Refusal}

-- a sender and its store
pub record SenderEnd : Type 0 where
  pub sender : Sender
  pub store : List ℕ

abbrev pub sender_end : Sender → List ℕ → SenderEnd
sender_end s store = record { sender = s; store = store }

abbrev pub sender_in : SenderState → List ℕ → SenderEnd
sender_in s store = sender_end (record { state = s }) store

-- the protocols' own
abbrev pub stop_and_wait_end : stop_and_wait.End → SenderEnd
stop_and_wait_end v = sender_in (senderState.StopAndWait v.sender) v.store

abbrev pub go_back_nEnd : slots.Sender → SenderEnd
go_back_nEnd v = sender_in (senderState.GoBackN (record { window = v.window })) v.store

abbrev pub selective_repeat_end : slots.Sender → SenderEnd
selective_repeat_end v = sender_in (senderState.SelectiveRepeat (record { window = v.window })) v.store

-- its window; Stop-and-Wait's is of size 1
abbrev pub window_in : SenderState → SendWindow
window_in (senderState.StopAndWait s) = stop_and_wait.window_of s
window_in (senderState.GoBackN s) = s.window
window_in (senderState.SelectiveRepeat s) = s.window

abbrev pub window_of : Sender → SendWindow
window_of s = window_in s.state

abbrev pub window_end : SenderEnd → slots.Sender
window_end v = slots.sender (window_of v.sender) v.store

abbrev pub can_send : Sender → Bool
can_send s = window_free (window_of s)

abbrev pub has_outstanding : Sender → Bool
has_outstanding s = ltb 0 (outstanding (window_of s))

abbrev pub oldest_outstanding : Sender → Option ℕ
oldest_outstanding s = cond (has_outstanding s) (Some (window_of s).send_base) None

-- Selective Repeat: a number that is outstanding and not acknowledged
abbrev pub is_due : SenderEnd → ℕ → Bool
is_due v n = selective_repeat.due (window_end v) n

-- making: Stop-and-Wait has one slot, whatever the window
abbrev pub slot_count : ProtocolType → ℕ → ℕ
slot_count protocol.StopAndWait w = 1
slot_count protocol.GoBackN w = w
slot_count protocol.SelectiveRepeat w = w

unfoldable pub new_sender : ProtocolType → ℕ → ℕ → List ℕ → SenderEnd
new_sender protocol.StopAndWait w limit store =
    stop_and_wait_end (stop_and_wait.end_of (stop_and_wait.state 0 false limit 0 0 0) (slots.fresh 1 store).store)
new_sender protocol.GoBackN w limit store = go_back_nEnd (slots.fresh w store)
new_sender protocol.SelectiveRepeat w limit store = selective_repeat_end (slots.fresh w store)

-- `send_chunk`
abbrev pub sent_as : {S : Type 0} → (S → SenderEnd) → SendExit S → SendExit SenderEnd
sent_as end x = send_exit x.answer (end x.after) x.out

abbrev pub send_chunk_in : SenderState → List ℕ → List ℕ → List ℕ → SendExit SenderEnd
send_chunk_in (senderState.StopAndWait s) store payload out =
    sent_as stop_and_wait_end (stop_and_wait.send_chunk (stop_and_wait.end_of s store) payload out)
send_chunk_in (senderState.GoBackN s) store payload out =
    sent_as go_back_nEnd (window.send_chunk false (slots.sender s.window store) payload out)
send_chunk_in (senderState.SelectiveRepeat s) store payload out =
    sent_as selective_repeat_end (window.send_chunk true (slots.sender s.window store) payload out)

unfoldable pub send_chunk : SenderEnd → List ℕ → List ℕ → SendExit SenderEnd
send_chunk v payload out = send_chunk_in v.sender.state v.store payload out

-- `accept_ack`
abbrev pub acknowledged_as : {S : Type 0} → (S → SenderEnd) → AckExit S → AckExit SenderEnd
acknowledged_as end x = ack_exit x.answer (end x.after)

abbrev pub handle_ack_in : SenderState → List ℕ → List ℕ → AckExit SenderEnd
handle_ack_in (senderState.StopAndWait s) store raw =
    acknowledged_as stop_and_wait_end (stop_and_wait.handle_ack (stop_and_wait.end_of s store) raw)
handle_ack_in (senderState.GoBackN s) store raw =
    acknowledged_as go_back_nEnd (go_back_n.handle_ack (slots.sender s.window store) raw)
handle_ack_in (senderState.SelectiveRepeat s) store raw =
    acknowledged_as selective_repeat_end (selective_repeat.handle_ack (slots.sender s.window store) raw)

unfoldable pub handle_ack : SenderEnd → List ℕ → AckExit SenderEnd
handle_ack v raw = handle_ack_in v.sender.state v.store raw

-- the same of a valid ACK that was read, of number n
abbrev pub acknowledged_in : SenderState → List ℕ → ℕ → SenderEnd
acknowledged_in (senderState.StopAndWait s) store n =
    stop_and_wait_end (stop_and_wait.acknowledged (stop_and_wait.end_of s store) n)
acknowledged_in (senderState.GoBackN s) store n = go_back_nEnd (go_back_n.acknowledged (slots.sender s.window store) n)
acknowledged_in (senderState.SelectiveRepeat s) store n =
    selective_repeat_end (selective_repeat.acknowledge_one (slots.sender s.window store) n)

unfoldable pub acknowledged : SenderEnd → ℕ → SenderEnd
acknowledged v n = acknowledged_in v.sender.state v.store n

abbrev pub ack_answer_of : Bool → Result Bool Refusal
ack_answer_of accepted = cond accepted (Ok true) (Ok false)

unfoldable pub handle_ack_unchecked : SenderEnd → ℕ → AckExit SenderEnd
handle_ack_unchecked v n =
    let accepted = is_in_window (window_of v.sender) n in
    ack_exit (ack_answer_of accepted) (cond accepted (acknowledged v n) v)

-- `handle_timeout`: Stop-and-Wait has one; Go-Back-N sends all outstanding numbers again, or the earliest; Selective
-- Repeat sends a number again. To Go-Back-N a number means all; to Selective Repeat all and the earliest mean the
-- number at base.
abbrev pub go_back_nTimeout : slots.Sender → Timeout → List ℕ → TimeoutExit slots.Sender
go_back_nTimeout v timeout.All out = go_back_n.handle_timeout v out
go_back_nTimeout v timeout.Earliest out = go_back_n.handle_timeout_earliest v out
go_back_nTimeout v (timeout.Number n) out = go_back_n.handle_timeout v out

abbrev pub timeout_number : SendWindow → Timeout → ℕ
timeout_number s timeout.All = s.send_base
timeout_number s timeout.Earliest = s.send_base
timeout_number s (timeout.Number n) = n

abbrev pub timed_out_as : {S : Type 0} → (S → SenderEnd) → TimeoutExit S → TimeoutExit SenderEnd
timed_out_as end x = timeout_exit x.answer (end x.after) x.out

abbrev pub handle_timeout_in : SenderState → List ℕ → Timeout → List ℕ → TimeoutExit SenderEnd
handle_timeout_in (senderState.StopAndWait s) store t out =
    timed_out_as stop_and_wait_end (stop_and_wait.handle_timeout (stop_and_wait.end_of s store) out)
handle_timeout_in (senderState.GoBackN s) store t out =
    timed_out_as go_back_nEnd (go_back_nTimeout (slots.sender s.window store) t out)
handle_timeout_in (senderState.SelectiveRepeat s) store t out =
    timed_out_as selective_repeat_end
    (selective_repeat.handle_timeout (slots.sender s.window store) (timeout_number s.window t) out)

unfoldable pub handle_timeout : SenderEnd → Timeout → List ℕ → TimeoutExit SenderEnd
handle_timeout v t out = handle_timeout_in v.sender.state v.store t out

-- the state after a timeout, and the datagrams that it sends again
pub record Resent : Type 0 where
  pub after : SenderEnd
  pub packets : List (List ℕ)

abbrev pub resent_by : TimeoutExit SenderEnd → Resent
resent_by x = record { after = x.after; packets = datagrams (bytes_resent x.answer x.out) }

-- a buffer with room for every outstanding number
abbrev pub ample_buffer : Sender → List ℕ
ample_buffer s = replicate ((window_of s).window_size * max_datagram) 0

unfoldable pub resent : SenderEnd → Timeout → Resent
resent v t = resent_by (handle_timeout v t (ample_buffer v.sender))

-- the same by the numbers: so many from first on, as their slots have them
abbrev pub resent_numbers : SenderEnd → ℕ → ℕ → Resent
resent_numbers v first count =
    record { after = v; packets = map (datagram_for (window_end v)) (up_from first count) }
