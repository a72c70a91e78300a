-- What a drain over words answers, from the equation of the receiver's.
use Rattle.std.specs.Prelude.{None, Some}
use Prim.Native.Nat.{ℕ}
use mathlib.Core.Path.{◌≡◌, ap}
use mathlib.Core.List.{List}
use Rattle.refusal.specs.declared.Refusal.TheVariants.{State}
use Rattle.session.specs.declared.Receiver.{Receiver}
use Rattle.session.specs.Receiving.{receiver_end}
use Rattle.host_answer.specs.Answer.{refusal_answer, count_answer}
use Rattle.host_answer.specs.Exit.{words_exit}
use Rattle.host_words.specs.Words.{held_receiver, with_receiver}
use Rattle.host_drain.specs.declared.DrainResult.{DrainResult}
use Rattle.host_drain.specs.Drain.{drain_receiver, drained, drain_held, drain}

module _ (state store output : List ℕ) where
  pub on_drained : {s : Receiver} {x : DrainResult} {a : ℕ} {state' : List ℕ} → held_receiver state ≡ Some s
      → x ≡ drain_receiver (receiver_end s store) output → state' ≡ with_receiver state x.receiver.state → a ≡ count_answer x.answer
      → words_exit a state' ≡ drain state store output
  unfolding drain_held
  on_drained h e p q = rw (h, p, q) (ap (drained state) e)

  pub on_drain_broken : {a : ℕ} → held_receiver state ≡ None → a ≡ refusal_answer State → words_exit a state ≡ drain state store output
  unfolding drain_held
  on_drain_broken h q = rw (h, q)
