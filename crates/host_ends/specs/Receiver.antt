-- The calls of a receiver over lent words: the protocol's own on the receiver that the words hold.
use Rattle.std.specs.Prelude.{ℕ, List, [], ◌∷◌, Bool, ltb, Err, None, Ok, Option, Result, Some}
use Rattle.bounds.specs.Bounds.{seq_num_limit}
use Rattle.refusal.specs.declared.Refusal.TheVariants.{State}
use Rattle.refusal.specs.Order.{verdict, decide, held_checks}
use Rattle.receiver.specs.Receive.{ReceiveExit}
use Rattle.selective_repeat.specs.Receiver as selective_repeat
use Rattle.session.specs.Receiving.{ReceiverEnd, receiver_end, handle_packet}
use Rattle.session.specs.GoodReceiver.{counts_broken_in}
use Rattle.session.specs.declared.ReceiverState.{ReceiverState}
use Rattle.session.specs.declared.ReceiverState.TheVariants as receiverState
use Rattle.host_answer.specs.Answer.{refusal_answer, count_answer}
use Rattle.host_words.specs.Words.{held_receiver, with_receiver}
use Rattle.host_ends.specs.Answers.{CallExit, call_exit, broken, receive_code}
use Rattle.session.specs.declared.Receiver.{Receiver}
use Rattle.refusal.specs.declared.Refusal.{Refusal}

abbrev pub received : List ℕ → ReceiveExit ReceiverEnd → CallExit
received state x =
    call_exit (receive_code x.answer)
    (with_receiver state x.receiver.receiver.state ∷ x.receiver.store ∷ x.output ∷ x.ack ∷ [])

unfoldable pub receive_held : Option Receiver → List ℕ → List ℕ → List ℕ → List ℕ → List ℕ → CallExit
receive_held (Some r) state store raw output ack =
    received state (handle_packet (receiver_end r store) raw output ack)
receive_held None state store raw output ack = broken (state ∷ store ∷ output ∷ ack ∷ [])

abbrev pub receive : List ℕ → List ℕ → List ℕ → List ℕ → List ℕ → CallExit
receive state store raw output ack = receive_held (held_receiver state) state store raw output ack

-- how many payloads are held: none by a receiver that takes them in order. No output is lent, so that 9 doesn't speak
-- of the fill mark
unfoldable pub none_held : ℕ → Bool → Result ℕ Refusal
none_held base counts_broken =
    decide (verdict (held_checks (ltb seq_num_limit base) counts_broken)) Err (Ok 0)

unfoldable pub buffered_count_in : ReceiverState → List ℕ → Result ℕ Refusal
buffered_count_in (receiverState.StopAndWait r) store =
    none_held r.expected_seq (counts_broken_in (receiverState.StopAndWait r))
buffered_count_in (receiverState.GoBackN r) store =
    none_held r.expected_seq (counts_broken_in (receiverState.GoBackN r))
buffered_count_in (receiverState.SelectiveRepeat r) store =
    selective_repeat.buffered_count (selective_repeat.receiver r store)

unfoldable pub buffered_count_held : Option Receiver → List ℕ → ℕ
buffered_count_held (Some r) store = count_answer (buffered_count_in r.state store)
buffered_count_held None store = refusal_answer State

abbrev pub buffered_count : List ℕ → List ℕ → ℕ
buffered_count state store = buffered_count_held (held_receiver state) store
