-- A refused drain changes nothing; the answer of one that is done is the fill mark, which the words hold as 0 then.
use Rattle.std.specs.Prelude.{Err, None, Ok, Option, Some}
use Prim.Native.Nat.{ℕ, ◌≤◌, ◌<◌}
use mathlib.Core.Path.{◌≡◌, refl, sym, ap, subst, ◌∙◌}
use mathlib.Core.Bool.{false}
use mathlib.Core.List.{List}
use native.Mathlib.Omega.{arith}
use borrow.Author.Tests.{ltb-false}
use lib.ListN.{length}
use Rattle.refusal.specs.Order.{verdict, held_checks}
use Rattle.refusal.proofs.Laws.{either_answer, accepted_none_true, none_of}
use Rattle.receiver.specs.State.{state_broken}
use Rattle.selective_repeat.specs.Receiver.{receiving_broken}
use Rattle.session.specs.declared.Receiver.{Receiver}
use Rattle.session.specs.declared.ReceiverState.{ReceiverState}
use Rattle.session.specs.declared.ReceiverState.TheVariants as receiverState
use Rattle.session.specs.Receiving.{receiver_end, filled_in, filled}
use Rattle.session.specs.GoodReceiver.{broken_in, counts_broken_in}
use Rattle.host_answer.specs.Answer.{value_in, value_limit, count_answer, Refusing}
use Rattle.host_answer.specs.Exit.{WordsExit}
use Rattle.host_answer.proofs.Laws.{done_not_refusing, refusal_refusing, value_back}
use Rattle.host_words.specs.Words.{held_receiver, with_receiver}
use Rattle.host_words.proofs.Words.{receiver_back}
use Rattle.host_drain.specs.declared.DrainResult.{DrainResult}
use Rattle.host_drain.specs.Drain.{drain_result, emptied, drain_receiver, drained, drain_held, drain}

abbrev Kept : Receiver → DrainResult → Type 0
Kept r x = Refusing (count_answer x.answer) → x.receiver ≡ r

drain_kept : (r : Receiver) (store output : List ℕ) → Kept r (drain_receiver (receiver_end r store) output)
unfolding drain_receiver count_answer
drain_kept r store output =
    either_answer (Kept r) (verdict (held_checks (broken_in r.state store output) (counts_broken_in r.state)))
    (λ s. drain_result r (Err s)) (drain_result (emptied r) (Ok (filled r))) (λ s h. refl) (λ e h. absurd (done_not_refusing _ h))

-- 9: the fill mark is within the output
mark_within : (x : ReceiverState) (store output : List ℕ) → broken_in x store output ≡ false → filled_in x ≤ length output
unfolding state_broken receiving_broken
mark_within (receiverState.StopAndWait r) store output e = ltb-false (length output) r.filled (none_of _ e).1.0
mark_within (receiverState.GoBackN r) store output e = ltb-false (length output) r.filled (none_of _ e).1.0
mark_within (receiverState.SelectiveRepeat r) store output e = ltb-false (length output) r.filled (none_of _ e).1.0

-- what a drain that isn't refused answers and leaves
pub record Drained (state output : List ℕ) (r : Receiver) (x : WordsExit) : Type 0 where
  pub answer : value_in x.answer ≡ filled r
  pub within : filled r ≤ length output
  pub words : x.words ≡ with_receiver state (emptied r).state

module _ (state store output : List ℕ) where
  drain_same : (held : Option Receiver) → held_receiver state ≡ held → Refusing (drain_held held state store output).answer
      → (drain_held held state store output).words ≡ state
  unfolding drain_held
  drain_same (Some r) e h = ap (λ (y : Receiver). with_receiver state y.state) (drain_kept r store output h) ∙ receiver_back state e
  drain_same None e h = refl

  pub drain_refused : Refusing (drain state store output).answer → (drain state store output).words ≡ state
  drain_refused h = drain_same (held_receiver state) refl h

  abbrev DoneAs : Receiver → DrainResult → Type 0
  DoneAs r x = (Refusing (count_answer x.answer) → ⊥) → Drained state output r (drained state x)

  done_as : (r : Receiver) → length output < value_limit → DoneAs r (drain_receiver (receiver_end r store) output)
  unfolding drain_receiver count_answer
  done_as r small =
      either_answer (DoneAs r) (verdict (held_checks (broken_in r.state store output) (counts_broken_in r.state)))
      (λ s. drain_result r (Err s)) (drain_result (emptied r) (Ok (filled r))) (λ s h. absurd (h (refusal_refusing s)))
      (λ e h.
      let within = mark_within r.state store output (accepted_none_true (held_checks (broken_in r.state store output) (counts_broken_in r.state)) e).0 in
      record { answer = value_back 0 (filled r) (omega arith) (omega arith); within = within; words = refl })

  pub drain_done : {r : Receiver} → held_receiver state ≡ Some r → length output < value_limit → (Refusing (drain state store output).answer → ⊥)
      → Drained state output r (drain state store output)
  unfolding drain_held
  drain_done {r} e small =
      subst (λ (held : Option Receiver). (Refusing (drain_held held state store output).answer → ⊥) → Drained state output r (drain_held held state store output)) (sym e) (done_as r small)
