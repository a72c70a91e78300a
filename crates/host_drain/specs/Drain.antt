-- arq/*.rs, `drain_delivered`, on document 01's lent output: a drain answers the fill mark and sets it to 0, and
-- nothing else changes. The bytes are the output's first, until a packet is received.
use Rattle.std.specs.Prelude.{ℕ, List, Err, None, Ok, Option, Result, Some}
use Rattle.refusal.specs.Order.{verdict, decide, held_checks}
use Rattle.stop_and_wait.specs.Receiver as stop_and_wait
use Rattle.go_back_n.specs.Receiver as go_back_n
use Rattle.selective_repeat.specs.Receiver as selective_repeat
use Rattle.session.specs.Receiving.{ReceiverEnd, receiver_end, filled}
use Rattle.session.specs.GoodReceiver.{broken_in, counts_broken_in}
use Rattle.session.specs.declared.Receiver.{Receiver}
use Rattle.session.specs.declared.ReceiverState.{ReceiverState}
use Rattle.session.specs.declared.ReceiverState.TheVariants as receiverState
use Rattle.host_answer.specs.Answer.{count_answer}
use Rattle.host_answer.specs.Exit.{WordsExit, words_exit, broken_words}
use Rattle.host_words.specs.Words.{held_receiver, with_receiver}
use Rattle.host_drain.specs.declared.DrainResult.{DrainResult}
use Rattle.refusal.specs.declared.Refusal.{Refusal}

abbrev pub drain_result : Receiver → Result ℕ Refusal → DrainResult
drain_result r a = record { receiver = r; answer = a }

-- the fill mark at 0
abbrev pub emptied_in : ReceiverState → ReceiverState
emptied_in (receiverState.StopAndWait r) = receiverState.StopAndWait (stop_and_wait.with_mark r 0)
emptied_in (receiverState.GoBackN r) = receiverState.GoBackN (go_back_n.with_mark r 0)
emptied_in (receiverState.SelectiveRepeat r) = receiverState.SelectiveRepeat (selective_repeat.with_filled r 0)

abbrev pub emptied : Receiver → Receiver
emptied r = record { state = emptied_in r.state }

-- 9 and 8 as in receiving
unfoldable pub drain_receiver : ReceiverEnd → List ℕ → DrainResult
drain_receiver v output =
    decide
    (verdict (held_checks (broken_in v.receiver.state v.store output) (counts_broken_in v.receiver.state)))
    (λ r. drain_result v.receiver (Err r))
    (drain_result (emptied v.receiver) (Ok (filled v.receiver)))

-- over words
abbrev pub drained : List ℕ → DrainResult → WordsExit
drained state x = words_exit (count_answer x.answer) (with_receiver state x.receiver.state)

unfoldable pub drain_held : Option Receiver → List ℕ → List ℕ → List ℕ → WordsExit
drain_held (Some r) state store output = drained state (drain_receiver (receiver_end r store) output)
drain_held None state store output = broken_words state

abbrev pub drain : List ℕ → List ℕ → List ℕ → WordsExit
drain state store output = drain_held (held_receiver state) state store output
