-- Making, by a protocol's number: 1 Stop-and-Wait, 2 Go-Back-N, 3 Selective Repeat, any other a 4. Document 01, "Turned
-- away": 9 a store shorter than its slots, 4 the window out of bounds or a limit of retries above 32 bits, 5 fewer
-- words than the state has.
use Rattle.std.specs.Prelude.{ℕ, List, [], ◌∷◌, Bool, cond, length, ltb, eqb}
use Rattle.refusal.specs.Clauses.{any_of}
use Rattle.refusal.specs.declared.Refusal.TheVariants.{State, Setup, Full}
use Rattle.refusal.specs.Order.{check, verdict, decide}
use Rattle.protocol.specs.declared.ProtocolType.{ProtocolType}
use Rattle.protocol.specs.declared.ProtocolType.TheVariants as protocol
use Rattle.window.specs.State.{window_broken, store_short}
use Rattle.session.specs.Sending.{SenderEnd, slot_count, new_sender}
use Rattle.session.specs.Receiving.{ReceiverEnd, receiver_slot_count, new_receiver}
use Rattle.host_answer.specs.Answer.{packed, done_status, refusal_answer}
use Rattle.host_answer.specs.Exit.{wide}
use Rattle.host_words.specs.Words.{state_words, sender_word, receiver_word, with_kind, with_sender, with_receiver}
use Rattle.host_ends.specs.Answers.{CallExit, call_exit}

-- the checks of making an end with so many slots
unfoldable pub make_unless : ℕ → Bool → List ℕ → List ℕ → CallExit → CallExit
make_unless slots setup_broken state store made =
    decide
    (verdict (check (store_short store slots) State ∷ check setup_broken Setup
    ∷ check (ltb (length state) state_words) Full ∷ []))
    (λ r. call_exit (refusal_answer r) (state ∷ store ∷ []))
    made

abbrev pub made_exit : List ℕ → List ℕ → CallExit
made_exit words store = call_exit (packed done_status 0) (words ∷ store ∷ [])

abbrev pub sender_made : ProtocolType → List ℕ → SenderEnd → CallExit
sender_made p state v = made_exit (with_sender (with_kind state (sender_word p)) v.sender.state) v.store

-- limit: Stop-and-Wait's greatest number of retries, in every protocol one of 32 bits
abbrev pub sender_broken : ℕ → ℕ → Bool
sender_broken window limit = any_of (window_broken window ∷ wide limit ∷ [])

unfoldable pub make_sender_of : ProtocolType → ℕ → ℕ → List ℕ → List ℕ → CallExit
make_sender_of p window limit state store =
    make_unless (slot_count p window) (sender_broken window limit) state store
    (sender_made p state (new_sender p window limit store))

abbrev pub receiver_made : ProtocolType → List ℕ → ReceiverEnd → CallExit
receiver_made p state v =
    made_exit (with_receiver (with_kind state (receiver_word p)) v.receiver.state) v.store

unfoldable pub make_receiver_of : ProtocolType → ℕ → List ℕ → List ℕ → CallExit
make_receiver_of p window state store =
    make_unless (receiver_slot_count p window) (window_broken window) state store
    (receiver_made p state (new_receiver p window store))

-- by the protocol's number
unfoldable pub by_protocol : ℕ → List ℕ → List ℕ → (ProtocolType → CallExit) → CallExit
by_protocol n state store make =
    cond (eqb n 1) (make protocol.StopAndWait)
    (cond (eqb n 2) (make protocol.GoBackN)
    (cond (eqb n 3) (make protocol.SelectiveRepeat) (call_exit (refusal_answer Setup) (state ∷ store ∷ []))))

abbrev pub make_sender : ℕ → ℕ → ℕ → List ℕ → List ℕ → CallExit
make_sender n window limit state store = by_protocol n state store (λ p. make_sender_of p window limit state store)

abbrev pub make_receiver : ℕ → ℕ → List ℕ → List ℕ → CallExit
make_receiver n window state store = by_protocol n state store (λ p. make_receiver_of p window state store)
