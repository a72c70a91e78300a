-- What the calls over words answer, from the equations of the calls below them.
use Rattle.std.specs.Prelude.{None, Ok, Option, Result, Some}
use Prim.Native.Nat.{ℕ}
use mathlib.Core.Path.{◌≡◌, refl, sym, ap, ◌∙◌}
use mathlib.Core.List.{List, [], ◌∷◌}
use mathlib.Core.Bool.{Bool, true, false, cond}
use lib.Dec.{eqb}
use Rattle.refusal.specs.declared.Refusal.TheVariants.{State}
use Rattle.refusal.proofs.Laws.{accepted_none_true}
use Rattle.window.specs.State.{counts_broken}
use Rattle.window.proofs.Laws.{Sound, sound}
use Rattle.session.specs.GoodSender.{is_selective, sender_broken}
use Rattle.refusal.specs.Order.{order, or_else, numbered, first_of, verdict, decide, held_checks}
use Rattle.window.specs.Sending.{SendExit, send_exit}
use Rattle.window.specs.Acknowledgement.{AckExit, ack_exit}
use Rattle.window.specs.Resending.{TimeoutExit, timeout_exit, timeout_decision}
use Rattle.window.specs.declared.TimeoutDecision.TheVariants as decision
use Rattle.receiver.specs.Receive.{ReceiveExit, receive_exit}
use Rattle.session.specs.declared.Sender.{Sender}
use Rattle.session.specs.declared.Receiver.{Receiver}
use Rattle.session.specs.declared.Timeout.{Timeout}
use Rattle.session.specs.declared.SenderState.{SenderState}
use Rattle.session.specs.Sending.{SenderEnd, sender_end, sender_in, window_of, send_chunk_in, send_chunk, handle_ack_in, handle_ack, handle_timeout}
use Rattle.session.specs.Receiving.{ReceiverEnd, receiver_end, handle_packet}
use Rattle.host_answer.specs.Answer.{refusal_answer}
use Rattle.host_words.specs.Words.{held, held_sender, held_receiver, with_sender, with_receiver}
use Rattle.host_ends.specs.Answers.{call_exit, send_code, ack_code, timeout_code, receive_code}
use Rattle.host_ends.specs.Sender.{sender_verdict, sent, send_held, send, number_of, acknowledged, acknowledge_held, acknowledge, timed_out, timeout_held, timeout}
use Rattle.host_ends.specs.Internal.{verdict_of}
use Rattle.host_ends.specs.Receiver.{received, receive_held, receive}
use Rattle.refusal.specs.declared.Refusal.{Refusal}
use Rattle.refusal.specs.Order.{passed}

-- a decision on a timeout is refused as the state's checks are
pub decision_verdict : (b c : Bool) (n k : ℕ) → verdict_of (timeout_decision b c n k) ≡ verdict (held_checks b c)
unfolding timeout_decision verdict_of verdict first_of numbered or_else order decide
decision_verdict true c n k = refl
decision_verdict false true n k = refl
decision_verdict false false n k = by_count (eqb k 0) where
  by_count : (e : Bool) → verdict_of (cond e (Ok decision.Nothing) (Ok (decision.Resend n k))) ≡ passed
  by_count true = refl
  by_count false = refl

-- what an accepted sender and its store are like
pub sender_sound : (s : Sender) (store : List ℕ) {x : Result Unit Refusal} → x ≡ sender_verdict (sender_end s store) → x ≡ passed → Sound (is_selective s.state) (window_of s) store
sender_sound s store e a =
    let v = sender_end s store in sound _ _ store (accepted_none_true (held_checks (sender_broken v) (counts_broken (window_of s))) (sym e ∙ a)).0

module _ (state store payload out : List ℕ) where
  pub on_sent : {s v : Sender} {a : Result (Option ℕ) Refusal} {x : ℕ} {state' store' out' : List ℕ} → held_sender state ≡ Some s
      → send_exit a (sender_end v store') out' ≡ send_chunk (sender_end s store) payload out → state' ≡ with_sender state v.state → x ≡ send_code a
      → call_exit x (state' ∷ store' ∷ out' ∷ []) ≡ send state store payload out
  unfolding send_held
  on_sent h e p q = rw (h, p, q) (ap (λ (y : SendExit SenderEnd). sent state y) e)

  -- by the protocol's own call
  pub sent_of : {w y v : SenderState} {a : Result (Option ℕ) Refusal} {x : ℕ} {state' store' out' : List ℕ} → held_sender state ≡ held y → w ≡ y
      → send_exit a (sender_in v store') out' ≡ send_chunk_in w store payload out → state' ≡ with_sender state v → x ≡ send_code a
      → call_exit x (state' ∷ store' ∷ out' ∷ []) ≡ send state store payload out
  unfolding send_chunk
  sent_of h i e p q = on_sent (h ∙ ap held (sym i)) e p q

  pub on_send_broken : {x : ℕ} → held_sender state ≡ None → x ≡ refusal_answer State → call_exit x (state ∷ store ∷ out ∷ []) ≡ send state store payload out
  unfolding send_held
  on_send_broken h q = rw (h, q)

module _ (state store raw : List ℕ) where
  pub on_acknowledged : {s v : Sender} {a : Result Bool Refusal} {n x : ℕ} {state' store' : List ℕ} → held_sender state ≡ Some s
      → ack_exit a (sender_end v store') ≡ handle_ack (sender_end s store) raw → state' ≡ with_sender state v.state → n ≡ number_of raw → x ≡ ack_code n a
      → call_exit x (state' ∷ store' ∷ []) ≡ acknowledge state store raw
  unfolding acknowledge_held
  on_acknowledged h e p r q = rw (h, p, q, r) (ap (λ (y : AckExit SenderEnd). acknowledged (number_of raw) state y) e)

  pub acknowledged_of : {w y v : SenderState} {a : Result Bool Refusal} {n x : ℕ} {state' store' : List ℕ} → held_sender state ≡ held y → w ≡ y
      → ack_exit a (sender_in v store') ≡ handle_ack_in w store raw → state' ≡ with_sender state v → n ≡ number_of raw → x ≡ ack_code n a
      → call_exit x (state' ∷ store' ∷ []) ≡ acknowledge state store raw
  unfolding handle_ack
  acknowledged_of h i e p r q = on_acknowledged (h ∙ ap held (sym i)) e p r q

  pub on_acknowledge_broken : {x : ℕ} → held_sender state ≡ None → x ≡ refusal_answer State → call_exit x (state ∷ store ∷ []) ≡ acknowledge state store raw
  unfolding acknowledge_held
  on_acknowledge_broken h q = rw (h, q)

module _ (state store : List ℕ) (t : Timeout) (out : List ℕ) where
  pub on_timed_out : {s v : Sender} {a : Result (Option ℕ) Refusal} {x : ℕ} {state' store' out' : List ℕ} → held_sender state ≡ Some s
      → timeout_exit a (sender_end v store') out' ≡ handle_timeout (sender_end s store) t out → state' ≡ with_sender state v.state → x ≡ timeout_code a
      → call_exit x (state' ∷ store' ∷ out' ∷ []) ≡ timeout state store t out
  unfolding timeout_held
  on_timed_out h e p q = rw (h, p, q) (ap (λ (y : TimeoutExit SenderEnd). timed_out state y) e)

  pub on_timeout_broken : {x : ℕ} → held_sender state ≡ None → x ≡ refusal_answer State → call_exit x (state ∷ store ∷ out ∷ []) ≡ timeout state store t out
  unfolding timeout_held
  on_timeout_broken h q = rw (h, q)

module _ (state store raw output ack : List ℕ) where
  pub on_received : {s v : Receiver} {a : Result (Option ℕ) Refusal} {x : ℕ} {state' store' output' ack' : List ℕ} → held_receiver state ≡ Some s
      → receive_exit a (receiver_end v store') output' ack' ≡ handle_packet (receiver_end s store) raw output ack → state' ≡ with_receiver state v.state → x ≡ receive_code a
      → call_exit x (state' ∷ store' ∷ output' ∷ ack' ∷ []) ≡ receive state store raw output ack
  unfolding receive_held
  on_received h e p q = rw (h, p, q) (ap (λ (y : ReceiveExit ReceiverEnd). received state y) e)

  pub on_receive_broken : {x : ℕ} → held_receiver state ≡ None → x ≡ refusal_answer State → call_exit x (state ∷ store ∷ output ∷ ack ∷ []) ≡ receive state store raw output ack
  unfolding receive_held
  on_receive_broken h q = rw (h, q)
