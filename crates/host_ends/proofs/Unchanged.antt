-- A refused call changes nothing: where the status of an answer is 1 to 11, every list that was lent is as it was.
use Rattle.std.specs.Prelude.{Err, None, Ok, Option, Result, Some}
use Prim.Native.Nat.{ℕ}
use mathlib.Core.Path.{◌≡◌, refl, ap, ◌∙◌}
use mathlib.Core.Bool.{Bool, true, false, cond}
use mathlib.Core.List.{List, [], ◌∷◌, ◌++◌}
use native.Mathlib.Omega.{arith}
use lib.ListN.{length, drop}
use lib.Dec.{eqb, ltb}
use Rattle.refusal.specs.declared.Refusal.{Refusal}
use Rattle.refusal.specs.declared.Refusal.TheVariants.{State, Counts, Setup, Full}
use Rattle.refusal.specs.Order.{check, verdict}
use Rattle.refusal.proofs.Laws.{either_answer}
use Rattle.protocol.specs.declared.ProtocolType.{ProtocolType}
use Rattle.protocol.specs.declared.ProtocolType.TheVariants as protocol
use Rattle.window.specs.declared.SendWindow.{SendWindow}
use Rattle.window.specs.declared.AckDecision.{AckDecision}
use Rattle.window.specs.declared.AckDecision.TheVariants as decision
use Rattle.window.specs.State.{store_short}
use Rattle.window.specs.Slots as slots
use Rattle.window.specs.Sending as window
use Rattle.window.specs.Sending.{SendExit, send_exit, send_checks, window_free}
use Rattle.window.specs.Acknowledgement.{AckExit, ack_exit, by_decision}
use Rattle.window.specs.Resending.{TimeoutExit, timeout_exit, resend, sent_again, mark_from}
use Rattle.receiver.specs.Receive as receiver
use Rattle.receiver.specs.Receive.{ReceiveExit, receive_exit, Reception, receive_checks, refused_exit, received_exit}
use Rattle.receiver.specs.Reply.{answer_of}
use Rattle.stop_and_wait.specs.Sender as stop_and_wait
use Rattle.stop_and_wait.specs.declared.StopAndWaitSender.{StopAndWaitSender}
use Rattle.session.specs.declared.SenderState.{SenderState}
use Rattle.session.specs.declared.SenderState.TheVariants as senderState
use Rattle.session.specs.declared.ReceiverState.{ReceiverState}
use Rattle.session.specs.declared.ReceiverState.TheVariants as receiverState
use Rattle.session.specs.declared.Timeout.{Timeout}
use Rattle.session.specs.declared.Timeout.TheVariants as timeouts
use Rattle.session.specs.Sending.{SenderEnd, sender_end, sender_in, stop_and_wait_end, go_back_nEnd, selective_repeat_end, sent_as, send_chunk_in, send_chunk, acknowledged_as, handle_ack_in, handle_ack, go_back_nTimeout, timed_out_as, handle_timeout_in, handle_timeout}
use Rattle.session.specs.Receiving.{ReceiverEnd, receiver_end, receiver_in, stop_and_wait_receiver_end, go_back_nReceiver_end, selective_repeat_receiver_end, received_as, handle_packet_in, handle_packet}
use Rattle.host_answer.specs.Answer.{refusal_answer, Refusing}
use Rattle.host_answer.proofs.Laws.{done_not_refusing, ordinary_not_refusing}
use Rattle.host_words.specs.Words.{state_words, held_sender, held_receiver, with_receiver}
use Rattle.host_words.proofs.Words.{sender_back, receiver_back}
use Rattle.host_ends.specs.Answers.{CallExit, call_exit, send_code, ack_code, timeout_code, receive_code}
use Rattle.host_ends.specs.Sender.{words_after, send_held, send, number_of, acknowledge_held, acknowledge, timeout_held, timeout}
use Rattle.host_ends.specs.Receiver.{receive_held, receive}
use Rattle.host_ends.specs.Making.{make_unless, made_exit, make_sender_of, make_receiver_of, by_protocol, make_sender, make_receiver}
use Rattle.session.specs.declared.Receiver.{Receiver}
use Rattle.session.specs.declared.Sender.{Sender}

-- ---- sending
abbrev SendKept : {S : Type 0} → S → List ℕ → SendExit S → Type 0
SendKept v out x = Refusing (send_code x.answer) → x ≡ send_exit x.answer v out

sent_kept : {S : Type 0} (v w : S) (out o : List ℕ) (n : ℕ) → SendKept v out (send_exit (Ok (Some n)) w o)
unfolding send_code
sent_kept v w out o n h = absurd (done_not_refusing n h)

full_kept : {S : Type 0} (b : Bool) (v : S) (out : List ℕ) (x : SendExit S) → SendKept v out x → SendKept v out (cond b x (send_exit (Ok None) v out))
full_kept true v out x k = k
full_kept false v out x k = λ h. refl

window_kept : (selective : Bool) (v : slots.Sender) (payload out : List ℕ) → SendKept v out (window.send_chunk selective v payload out)
unfolding window.send_chunk
window_kept selective v payload out =
    either_answer (SendKept v out) (verdict (send_checks selective v payload out)) (λ r. send_exit (Err r) v out)
    (cond (window_free v.window) (window.send_chunk_unchecked v payload out) (send_exit (Ok None) v out)) (λ r h. refl)
    (λ e. full_kept (window_free v.window) v out (window.send_chunk_unchecked v payload out) (sent_kept v _ out _ _))

by_send_lem : (s : StopAndWaitSender) (a : Result (Option ℕ) Refusal) (w : SendWindow) → Refusing (send_code a) → stop_and_wait.by_send s a w ≡ s
unfolding send_code
by_send_lem s (Ok (Some n)) w h = absurd (done_not_refusing n h)
by_send_lem s (Ok None) w h = refl
by_send_lem s (Err r) w h = refl

single_kept : (s : StopAndWaitSender) (store out : List ℕ) (t : SendExit slots.Sender) → SendKept (stop_and_wait.window_end (stop_and_wait.end_of s store)) out t
    → SendKept (stop_and_wait_end (stop_and_wait.end_of s store)) out (sent_as stop_and_wait_end (stop_and_wait.sent s t))
single_kept s store out t k h =
    ap (λ (y : SendExit slots.Sender). sent_as stop_and_wait_end (stop_and_wait.sent s y)) (k h)
    ∙ ap (λ (z : StopAndWaitSender). send_exit t.answer (stop_and_wait_end (stop_and_wait.end_of z store)) out) (by_send_lem s t.answer (stop_and_wait.window_of s) h)

send_kept_in : (x : SenderState) (store payload out : List ℕ) → SendKept (sender_in x store) out (send_chunk_in x store payload out)
send_kept_in (senderState.StopAndWait s) store payload out =
    single_kept s store out _ (window_kept false (stop_and_wait.window_end (stop_and_wait.end_of s store)) payload out)
send_kept_in (senderState.GoBackN s) store payload out = λ h. ap (sent_as go_back_nEnd) (window_kept false (slots.sender s.window store) payload out h)
send_kept_in (senderState.SelectiveRepeat s) store payload out =
    λ h. ap (sent_as selective_repeat_end) (window_kept true (slots.sender s.window store) payload out h)

send_kept : (v : SenderEnd) (payload out : List ℕ) → SendKept v out (send_chunk v payload out)
unfolding send_chunk
send_kept v payload out = send_kept_in v.sender.state v.store payload out

module _ (state store payload out : List ℕ) where
  send_same : (held : Option Sender) → held_sender state ≡ held → Refusing (send_held held state store payload out).answer
      → (send_held held state store payload out).lent ≡ state ∷ store ∷ out ∷ []
  unfolding send_held
  send_same (Some s) e h =
      ap (λ (y : SendExit SenderEnd). words_after state y.after ∷ y.after.store ∷ y.out ∷ []) (send_kept (sender_end s store) payload out h)
      ∙ ap (λ (t : List ℕ). t ∷ store ∷ out ∷ []) (sender_back state e)
  send_same None e h = refl

  pub send_refused : Refusing (send state store payload out).answer → (send state store payload out).lent ≡ state ∷ store ∷ out ∷ []
  send_refused h = send_same (held_sender state) refl h

-- ---- ACKs
abbrev AckKept : {S : Type 0} → ℕ → S → AckExit S → Type 0
AckKept n v x = Refusing (ack_code n x.answer) → x ≡ ack_exit x.answer v

decision_kept : {S : Type 0} (n : ℕ) (v : S) (accept : ℕ → S) (d : Result AckDecision Refusal) → AckKept n v (by_decision d v accept)
unfolding by_decision ack_code
decision_kept n v accept (Ok (decision.Accept m base)) h = absurd (done_not_refusing n h)
decision_kept n v accept (Ok decision.NotAccepted) h = refl
decision_kept n v accept (Err r) h = refl

ack_kept_in : (n : ℕ) (x : SenderState) (store raw : List ℕ) → AckKept n (sender_in x store) (handle_ack_in x store raw)
ack_kept_in n (senderState.StopAndWait s) store raw = λ h. ap (acknowledged_as stop_and_wait_end) (decision_kept n (stop_and_wait.end_of s store) _ _ h)
ack_kept_in n (senderState.GoBackN s) store raw = λ h. ap (acknowledged_as go_back_nEnd) (decision_kept n (slots.sender s.window store) _ _ h)
ack_kept_in n (senderState.SelectiveRepeat s) store raw =
    λ h. ap (acknowledged_as selective_repeat_end) (decision_kept n (slots.sender s.window store) _ _ h)

ack_kept : (n : ℕ) (v : SenderEnd) (raw : List ℕ) → AckKept n v (handle_ack v raw)
unfolding handle_ack
ack_kept n v raw = ack_kept_in n v.sender.state v.store raw

module _ (state store raw : List ℕ) where
  acknowledge_same : (held : Option Sender) → held_sender state ≡ held → Refusing (acknowledge_held held state store raw).answer
      → (acknowledge_held held state store raw).lent ≡ state ∷ store ∷ []
  unfolding acknowledge_held
  acknowledge_same (Some s) e h =
      ap (λ (y : AckExit SenderEnd). words_after state y.after ∷ y.after.store ∷ []) (ack_kept (number_of raw) (sender_end s store) raw h)
      ∙ ap (λ (t : List ℕ). t ∷ store ∷ []) (sender_back state e)
  acknowledge_same None e h = refl

  pub acknowledge_refused : Refusing (acknowledge state store raw).answer → (acknowledge state store raw).lent ≡ state ∷ store ∷ []
  acknowledge_refused h = acknowledge_same (held_sender state) refl h

-- ---- timeouts
abbrev TimeoutKept : {S : Type 0} → S → List ℕ → TimeoutExit S → Type 0
TimeoutKept v out x = Refusing (timeout_code x.answer) → x ≡ timeout_exit x.answer v out

resent_kept : (b : Bool) (v w : slots.Sender) (out o : List ℕ) (n : ℕ)
    → TimeoutKept v out (cond b (timeout_exit (Ok None) v out) (timeout_exit (Ok (Some n)) w o))
unfolding timeout_code
resent_kept true v w out o n h = refl
resent_kept false v w out o n h = absurd (done_not_refusing n h)

resend_kept : (sb cb : Bool) (v : slots.Sender) (n k : ℕ) (out : List ℕ) → TimeoutKept v out (resend sb cb v n k out)
unfolding resend
resend_kept sb cb v n k out =
    let size = length (sent_again v n k) in
    either_answer (TimeoutKept v out) (verdict (check sb State ∷ check cb Counts ∷ check (ltb (length out) size) Full ∷ []))
    (λ r. timeout_exit (Err r) v out)
    (cond (eqb k 0) (timeout_exit (Ok None) v out) (timeout_exit (Ok (Some size)) (mark_from v n k) (sent_again v n k ++ drop size out)))
    (λ r h. refl)
    (λ e. resent_kept (eqb k 0) v (mark_from v n k) out (sent_again v n k ++ drop size out) size)

by_timeout_lem : (s : StopAndWaitSender) (a : Result (Option ℕ) Refusal) (w : SendWindow) → Refusing (timeout_code a) → stop_and_wait.by_timeout s a w ≡ s
unfolding timeout_code
by_timeout_lem s (Ok (Some n)) w h = absurd (done_not_refusing n h)
by_timeout_lem s (Ok None) w h = refl
by_timeout_lem s (Err r) w h = refl

single_timeout_kept : (s : StopAndWaitSender) (store out : List ℕ) (t : TimeoutExit slots.Sender) → TimeoutKept (stop_and_wait.window_end (stop_and_wait.end_of s store)) out t
    → TimeoutKept (stop_and_wait_end (stop_and_wait.end_of s store)) out (timed_out_as stop_and_wait_end (stop_and_wait.timed_out s t))
single_timeout_kept s store out t k h =
    ap (λ (y : TimeoutExit slots.Sender). timed_out_as stop_and_wait_end (stop_and_wait.timed_out s y)) (k h)
    ∙ ap (λ (z : StopAndWaitSender). timeout_exit t.answer (stop_and_wait_end (stop_and_wait.end_of z store)) out) (by_timeout_lem s t.answer (stop_and_wait.window_of s) h)

go_back_n_kept : (v : slots.Sender) (t : Timeout) (out : List ℕ) → TimeoutKept v out (go_back_nTimeout v t out)
go_back_n_kept v timeouts.All out = resend_kept _ _ v _ _ out
go_back_n_kept v timeouts.Earliest out = resend_kept _ _ v _ _ out
go_back_n_kept v (timeouts.Number n) out = resend_kept _ _ v _ _ out

timeout_kept_in : (x : SenderState) (store : List ℕ) (t : Timeout) (out : List ℕ) → TimeoutKept (sender_in x store) out (handle_timeout_in x store t out)
timeout_kept_in (senderState.StopAndWait s) store t out =
    single_timeout_kept s store out _ (resend_kept _ _ (stop_and_wait.window_end (stop_and_wait.end_of s store)) _ _ out)
timeout_kept_in (senderState.GoBackN s) store t out = λ h. ap (timed_out_as go_back_nEnd) (go_back_n_kept (slots.sender s.window store) t out h)
timeout_kept_in (senderState.SelectiveRepeat s) store t out =
    λ h. ap (timed_out_as selective_repeat_end) (resend_kept _ _ (slots.sender s.window store) _ _ out h)

timeout_kept : (v : SenderEnd) (t : Timeout) (out : List ℕ) → TimeoutKept v out (handle_timeout v t out)
unfolding handle_timeout
timeout_kept v t out = timeout_kept_in v.sender.state v.store t out

module _ (state store : List ℕ) (t : Timeout) (out : List ℕ) where
  timeout_same : (held : Option Sender) → held_sender state ≡ held → Refusing (timeout_held held state store t out).answer
      → (timeout_held held state store t out).lent ≡ state ∷ store ∷ out ∷ []
  unfolding timeout_held
  timeout_same (Some s) e h =
      ap (λ (y : TimeoutExit SenderEnd). words_after state y.after ∷ y.after.store ∷ y.out ∷ []) (timeout_kept (sender_end s store) t out h)
      ∙ ap (λ (u : List ℕ). u ∷ store ∷ out ∷ []) (sender_back state e)
  timeout_same None e h = refl

  pub timeout_refused : Refusing (timeout state store t out).answer → (timeout state store t out).lent ≡ state ∷ store ∷ out ∷ []
  timeout_refused h = timeout_same (held_sender state) refl h

-- ---- receiving
abbrev ReceiveKept : {R : Type 0} → R → List ℕ → List ℕ → ReceiveExit R → Type 0
ReceiveKept v output ack x = Refusing (receive_code x.answer) → x ≡ receive_exit x.answer v output ack

not_refused : (y : Option ℕ) → Refusing (receive_code (answer_of y)) → ⊥
unfolding receive_code
not_refused (Some n) h = done_not_refusing n h
not_refused None h = ordinary_not_refusing 19 0 (omega arith) (omega arith) h

receive_kept : {R : Type 0} (x : Reception R) (raw output ack : List ℕ) → ReceiveKept x.state output ack (receiver.receive x raw output ack)
unfolding receiver.receive
receive_kept x raw output ack =
    either_answer (ReceiveKept x.state output ack) (verdict (receive_checks x raw output ack)) (λ r. refused_exit x output ack (Err r))
    (received_exit x output ack) (λ r h. refl) (λ e h. absurd (not_refused x.decision.reply h))

packet_kept_in : (x : ReceiverState) (store raw output ack : List ℕ) → ReceiveKept (receiver_in x store) output ack (handle_packet_in x store raw output ack)
packet_kept_in (receiverState.StopAndWait r) store raw output ack =
    λ h. ap (received_as (stop_and_wait_receiver_end store)) (receive_kept _ raw output ack h)
packet_kept_in (receiverState.GoBackN r) store raw output ack =
    λ h. ap (received_as (go_back_nReceiver_end store)) (receive_kept _ raw output ack h)
packet_kept_in (receiverState.SelectiveRepeat r) store raw output ack =
    λ h. ap (received_as selective_repeat_receiver_end) (receive_kept _ raw output ack h)

packet_kept : (v : ReceiverEnd) (raw output ack : List ℕ) → ReceiveKept v output ack (handle_packet v raw output ack)
unfolding handle_packet
packet_kept v raw output ack = packet_kept_in v.receiver.state v.store raw output ack

module _ (state store raw output ack : List ℕ) where
  receive_same : (held : Option Receiver) → held_receiver state ≡ held → Refusing (receive_held held state store raw output ack).answer
      → (receive_held held state store raw output ack).lent ≡ state ∷ store ∷ output ∷ ack ∷ []
  unfolding receive_held
  receive_same (Some r) e h =
      ap (λ (y : ReceiveExit ReceiverEnd). with_receiver state y.receiver.receiver.state ∷ y.receiver.store ∷ y.output ∷ y.ack ∷ []) (packet_kept (receiver_end r store) raw output ack h)
      ∙ ap (λ (t : List ℕ). t ∷ store ∷ output ∷ ack ∷ []) (receiver_back state e)
  receive_same None e h = refl

  pub receive_refused : Refusing (receive state store raw output ack).answer → (receive state store raw output ack).lent ≡ state ∷ store ∷ output ∷ ack ∷ []
  receive_refused h = receive_same (held_receiver state) refl h

-- ---- making
module _ (state store : List ℕ) where
  abbrev MakeKept : CallExit → Type 0
  MakeKept x = Refusing x.answer → x.lent ≡ state ∷ store ∷ []

  make_kept : (slots : ℕ) (setup : Bool) (words made : List ℕ) → MakeKept (make_unless slots setup state store (made_exit words made))
  unfolding make_unless
  make_kept slots setup words made =
      either_answer MakeKept (verdict (check (store_short store slots) State ∷ check setup Setup ∷ check (ltb (length state) state_words) Full ∷ []))
      (λ r. call_exit (refusal_answer r) (state ∷ store ∷ [])) (made_exit words made) (λ r h. refl) (λ e h. absurd (done_not_refusing 0 h))

  protocol_kept : (a b c : Bool) (make : ProtocolType → CallExit) → ((p : ProtocolType) → MakeKept (make p))
      → MakeKept (cond a (make protocol.StopAndWait) (cond b (make protocol.GoBackN) (cond c (make protocol.SelectiveRepeat) (call_exit (refusal_answer Setup) (state ∷ store ∷ [])))))
  protocol_kept true b c make k = k protocol.StopAndWait
  protocol_kept false true c make k = k protocol.GoBackN
  protocol_kept false false true make k = k protocol.SelectiveRepeat
  protocol_kept false false false make k = λ h. refl

  sender_of_kept : (window limit : ℕ) (p : ProtocolType) → MakeKept (make_sender_of p window limit state store)
  unfolding make_sender_of
  sender_of_kept window limit p = make_kept _ _ _ _

  receiver_of_kept : (window : ℕ) (p : ProtocolType) → MakeKept (make_receiver_of p window state store)
  unfolding make_receiver_of
  receiver_of_kept window p = make_kept _ _ _ _

  pub make_sender_refused : (n window limit : ℕ) → Refusing (make_sender n window limit state store).answer → (make_sender n window limit state store).lent ≡ state ∷ store ∷ []
  unfolding by_protocol
  make_sender_refused n window limit = protocol_kept (eqb n 1) (eqb n 2) (eqb n 3) (λ p. make_sender_of p window limit state store) (sender_of_kept window limit)

  pub make_receiver_refused : (n window : ℕ) → Refusing (make_receiver n window state store).answer → (make_receiver n window state store).lent ≡ state ∷ store ∷ []
  unfolding by_protocol
  make_receiver_refused n window = protocol_kept (eqb n 1) (eqb n 2) (eqb n 3) (λ p. make_receiver_of p window state store) (receiver_of_kept window)
