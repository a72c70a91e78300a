-- The Stop-and-Wait sender: each call is counted, and the retries since the last chunk sent or acknowledged.
use Rattle.std.specs.Prelude.{Err, None, Ok, Option, Result, Some}
use Prim.Native.Nat.{ℕ, ◌+◌, ◌≤◌, min}
use mathlib.Core.Path.{◌≡◌, refl, ap, ◌∙◌}
use mathlib.Core.Bool.{Bool, true, false, cond}
use mathlib.Core.List.{List, [], ◌∷◌}
use native.Mathlib.Omega.{arith}
use lib.Dec.{ltb}
use Rattle.window.specs.Slots.{Sender}
use Rattle.window.specs.State.{outstanding}
use Rattle.window.specs.Acknowledgement.{ack_decision, AckExit}
use Rattle.window.specs.Resending.{TimeoutExit, resend_outstanding}
use Rattle.window.specs.Sending as window
use Rattle.stop_and_wait.specs.Sender.{End, end_of, window_of, window_end, by_send, acknowledged, retries_left, by_timeout}
use Rattle.delivery.specs.Ends.{is_resent, SingleTimeout}
use Rattle.delivery.specs.AnyBytes.{SenderCall, send, timeout, ack}
use Rattle.tallies.specs.Senders as senders
use Rattle.tallies.specs.Senders.{Answered, after_call, answer_to, after_calls, answers, resent_by, starts_anew, retries_from, stop_and_wait_sender}
use Rattle.tallies.proofs.Senders.{Counted, EachCallCounted, WindowCounted, none_written, send_counted, resend_counted, resend_one, by_ack}
use Rattle.refusal.specs.declared.Refusal.{Refusal}

-- the counters follow those of the window where a datagram was written, and stay as they were elsewhere
abbrev EndCounted : End → End → Answered → Type 0
EndCounted v w a = Counted (λ (u : End). u.sender.total_sent) (λ (u : End). u.sender.retransmissions) v w a

by_send_lem : (v : End) (w : Sender) (out : List ℕ) (a : Result (Option ℕ) Refusal) → WindowCounted (window_end v) w (senders.sent a out) → EndCounted v (end_of (by_send v.sender a w.window) w.store) (senders.sent a out)
by_send_lem v w out (Ok (Some n)) h = record { sent_count = h.sent_count; resent_count = h.resent_count }
by_send_lem v w out (Ok None) h = record { sent_count = rw none_written (omega arith); resent_count = omega arith }
by_send_lem v w out (Err r) h = record { sent_count = rw none_written (omega arith); resent_count = omega arith }

by_timeout_lem : (v : End) (w : Sender) (out : List ℕ) (a : Result (Option ℕ) Refusal) → WindowCounted (window_end v) w (senders.resent a out) → EndCounted v (end_of (by_timeout v.sender a w.window) w.store) (senders.resent a out)
by_timeout_lem v w out (Ok (Some n)) h = record { sent_count = h.sent_count; resent_count = h.resent_count }
by_timeout_lem v w out (Ok None) h = record { sent_count = rw none_written (omega arith); resent_count = rw none_written (omega arith) }
by_timeout_lem v w out (Err r) h = record { sent_count = rw none_written (omega arith); resent_count = rw none_written (omega arith) }

-- what the window does
abbrev sends : End → List ℕ → List ℕ → window.SendExit Sender
sends v payload out = window.send_chunk false (window_end v) payload out

abbrev resends : End → List ℕ → TimeoutExit Sender
resends v out = resend_outstanding (window_end v) (retries_left v.sender) out

pub stop_and_wait_counted_lem : EachCallCounted stop_and_wait_sender
stop_and_wait_counted_lem v (send payload out) = let r = sends v payload out in by_send_lem v r.after r.out r.answer (send_counted false (window_end v) payload out)
stop_and_wait_counted_lem v (timeout u out) = let r = resends v out in by_timeout_lem v r.after r.out r.answer (resend_counted _ _ (window_end v) _ _ out)
stop_and_wait_counted_lem v (ack raw) =
    by_ack (λ (r : AckExit End). EndCounted v r.after (senders.acknowledged r.answer)) (ack_decision false (window_of v.sender) v.store raw) v (acknowledged v)
    (λ a e. record { sent_count = omega arith; resent_count = omega arith })
    (λ n. record { sent_count = omega arith; resent_count = omega arith })

-- ---- the retries
abbrev RetriesCounted : End → End → Answered → Type 0
RetriesCounted v w a = w.sender.current_retries ≡ cond (starts_anew a) 0 (resent_by a + v.sender.current_retries)

send_retries : (v : End) (w : Sender) (out : List ℕ) (a : Result (Option ℕ) Refusal) → RetriesCounted v (end_of (by_send v.sender a w.window) w.store) (senders.sent a out)
send_retries v w out (Ok (Some n)) = refl
send_retries v w out (Ok None) = omega arith
send_retries v w out (Err r) = omega arith

timeout_retries : (v : End) (w : Sender) (out : List ℕ) (a : Result (Option ℕ) Refusal) → resent_by (senders.resent a out) ≡ cond (is_resent a) 1 0
    → RetriesCounted v (end_of (by_timeout v.sender a w.window) w.store) (senders.resent a out)
timeout_retries v w out (Ok (Some n)) e = rw e (omega arith)
timeout_retries v w out (Ok None) e = rw e (omega arith)
timeout_retries v w out (Err r) e = rw e (omega arith)

one_at_most : (b : Bool) (m : ℕ) → min (cond b 1 0) m ≤ 1
one_at_most true m = omega arith
one_at_most false m = omega arith

call_retries : (v : End) (c : SenderCall SingleTimeout) → RetriesCounted v (after_call stop_and_wait_sender v c) (answer_to stop_and_wait_sender v c)
call_retries v (send payload out) = let r = sends v payload out in send_retries v r.after r.out r.answer
call_retries v (timeout u out) =
    let r = resends v out in
    let s = v.sender in
    timeout_retries v r.after r.out r.answer (resend_one _ _ (window_end v) _ _ out (one_at_most (ltb s.current_retries s.max_retries) (outstanding (window_of s))))
call_retries v (ack raw) =
    by_ack (λ (r : AckExit End). RetriesCounted v r.after (senders.acknowledged r.answer)) (ack_decision false (window_of v.sender) v.store raw) v (acknowledged v) (λ a e. rw e (omega arith)) (λ n. refl)

pub current_retries : (v : End) (k : ℕ) → v.sender.current_retries ≡ k → (cs : List (SenderCall SingleTimeout)) → (after_calls stop_and_wait_sender v cs).sender.current_retries ≡ retries_from k (answers stop_and_wait_sender v cs)
unfolding after_calls answers retries_from
current_retries v k start [] = start
current_retries v k start (c ∷ cs) =
    let a = answer_to stop_and_wait_sender v c in
    current_retries (after_call stop_and_wait_sender v c) _ (call_retries v c ∙ ap (λ (n : ℕ). cond (starts_anew a) 0 (resent_by a + n)) start) cs
