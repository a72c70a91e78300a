-- The calls of a sender over lent words: the protocol's own on the sender that the words hold.
use Rattle.std.specs.Prelude.{ℕ, List, [], ◌∷◌, cond, Bool, Err, None, Ok, Option, Result, Some}
use Rattle.refusal.specs.declared.Refusal.TheVariants.{State}
use Rattle.refusal.specs.Order.{verdict, decide, held_checks}
use Rattle.packet.specs.Format as packet
use Rattle.packet.specs.Reading.{from_bytes}
use Rattle.window.specs.State.{counts_broken}
use Rattle.window.specs.Slots as slots
use Rattle.window.specs.Slots.{packet_for}
use Rattle.window.specs.Outstanding as window
use Rattle.window.specs.Sending.{SendExit}
use Rattle.window.specs.Acknowledgement.{is_in_window, AckExit}
use Rattle.window.specs.Resending.{TimeoutExit}
use Rattle.stop_and_wait.specs.Sender as stop_and_wait
use Rattle.selective_repeat.specs.Sender as selective_repeat
use Rattle.session.specs.Sending.{SenderEnd, sender_end, sender_in, window_of, window_end}
use Rattle.session.specs.Sending.{send_chunk, handle_ack, handle_timeout}
use Rattle.session.specs.GoodSender.{sender_broken}
use Rattle.session.specs.declared.SenderState.{SenderState}
use Rattle.session.specs.declared.SenderState.TheVariants as senderState
use Rattle.session.specs.declared.Timeout.{Timeout}
use Rattle.host_answer.specs.Answer.{packed, nothing_status, refusal_answer, test_answer, count_answer}
use Rattle.host_words.specs.Words.{held_sender, with_sender}
use Rattle.host_ends.specs.Answers.{CallExit, call_exit, broken, send_code, ack_code, timeout_code}
use Rattle.packet.specs.declared.Packet.{Packet}
use Rattle.refusal.specs.declared.Refusal.{Refusal}
use Rattle.session.specs.declared.Sender.{Sender}

-- the words after a call
abbrev pub words_after : List ℕ → SenderEnd → List ℕ
words_after state v = with_sender state v.sender.state

abbrev pub sent : List ℕ → SendExit SenderEnd → CallExit
sent state x = call_exit (send_code x.answer) (words_after state x.after ∷ x.after.store ∷ x.out ∷ [])

unfoldable pub send_held : Option Sender → List ℕ → List ℕ → List ℕ → List ℕ → CallExit
send_held (Some s) state store payload out = sent state (send_chunk (sender_end s store) payload out)
send_held None state store payload out = broken (state ∷ store ∷ out ∷ [])

abbrev pub send : List ℕ → List ℕ → List ℕ → List ℕ → CallExit
send state store payload out = send_held (held_sender state) state store payload out

-- a datagram's number, 0 where it can't be read
unfoldable pub number_in : Result Packet Refusal → ℕ
number_in (Ok p) = p.seq_num
number_in (Err r) = 0

abbrev pub number_of : List ℕ → ℕ
number_of raw = number_in (from_bytes raw)

abbrev pub acknowledged : ℕ → List ℕ → AckExit SenderEnd → CallExit
acknowledged n state x = call_exit (ack_code n x.answer) (words_after state x.after ∷ x.after.store ∷ [])

unfoldable pub acknowledge_held : Option Sender → List ℕ → List ℕ → List ℕ → CallExit
acknowledge_held (Some s) state store raw =
    acknowledged (number_of raw) state (handle_ack (sender_end s store) raw)
acknowledge_held None state store raw = broken (state ∷ store ∷ [])

abbrev pub acknowledge : List ℕ → List ℕ → List ℕ → CallExit
acknowledge state store raw = acknowledge_held (held_sender state) state store raw

abbrev pub timed_out : List ℕ → TimeoutExit SenderEnd → CallExit
timed_out state x = call_exit (timeout_code x.answer) (words_after state x.after ∷ x.after.store ∷ x.out ∷ [])

unfoldable pub timeout_held : Option Sender → List ℕ → List ℕ → Timeout → List ℕ → CallExit
timeout_held (Some s) state store t out = timed_out state (handle_timeout (sender_end s store) t out)
timeout_held None state store t out = broken (state ∷ store ∷ out ∷ [])

abbrev pub timeout : List ℕ → List ℕ → Timeout → List ℕ → CallExit
timeout state store t out = timeout_held (held_sender state) state store t out

-- whether the window is free; the store isn't looked at
unfoldable pub can_send_in : SenderState → Result Bool Refusal
can_send_in (senderState.StopAndWait s) = stop_and_wait.can_send s
can_send_in (senderState.GoBackN s) = window.can_send s.window
can_send_in (senderState.SelectiveRepeat s) = window.can_send s.window

unfoldable pub can_send_held : Option Sender → ℕ
can_send_held (Some s) = test_answer (can_send_in s.state)
can_send_held None = refusal_answer State

abbrev pub can_send : List ℕ → ℕ
can_send state = can_send_held (held_sender state)

-- 9 and 8 of a sender and its store
abbrev pub sender_verdict : SenderEnd → Result Unit Refusal
sender_verdict v = verdict (held_checks (sender_broken v) (counts_broken (window_of v.sender)))

abbrev pub unless_broken : SenderEnd → ℕ → ℕ
unless_broken v answer = decide (sender_verdict v) refusal_answer answer

-- how many numbers are outstanding; of Selective Repeat those not acknowledged
unfoldable pub in_flight_in : SenderState → List ℕ → ℕ
in_flight_in (senderState.StopAndWait s) store =
    unless_broken (sender_in (senderState.StopAndWait s) store) (test_answer (stop_and_wait.is_waiting_for_ack s))
in_flight_in (senderState.GoBackN s) store =
    unless_broken (sender_in (senderState.GoBackN s) store) (count_answer (window.in_flight_count s.window))
in_flight_in (senderState.SelectiveRepeat s) store =
    count_answer (selective_repeat.in_flight_count (slots.sender s.window store))

unfoldable pub in_flight_held : Option Sender → List ℕ → ℕ
in_flight_held (Some s) store = in_flight_in s.state store
in_flight_held None store = refusal_answer State

abbrev pub in_flight : List ℕ → List ℕ → ℕ
in_flight state store = in_flight_held (held_sender state) store

-- whether number n was sent again, as its packet says; nothing where it isn't outstanding
unfoldable pub sent_again : slots.Sender → ℕ → ℕ
sent_again v n =
    cond (is_in_window v.window n) (test_answer (Ok (packet.is_retransmitted (packet_for v n))))
    (packed nothing_status 0)

unfoldable pub is_retransmitted_held : Option Sender → List ℕ → ℕ → ℕ
is_retransmitted_held (Some s) store n =
    let v = sender_end s store in unless_broken v (sent_again (window_end v) n)
is_retransmitted_held None store n = refusal_answer State

abbrev pub is_retransmitted : List ℕ → List ℕ → ℕ → ℕ
is_retransmitted state store n = is_retransmitted_held (held_sender state) store n
