-- What the calls of a run do to a sender's retries, and what a timeout of the earliest number sends.
use Prim.Native.Nat.{ℕ, ◌+◌, ◌≤◌, ◌<◌, min}
use native.Mathlib.Omega.{arith}
use mathlib.Core.Path.{◌≡◌, refl, sym, ap, ◌∙◌, subst}
use mathlib.Core.Bool.{true}
use mathlib.Core.List.{List, [], ◌∷◌}
use borrow.Author.Tests.{lt-ltb, ltb-true}
use Rattle.window.specs.State.{outstanding}
use Rattle.window.specs.Slots as slots
use Rattle.window.specs.Slots.{datagram_for}
use Rattle.window.specs.Sending.{SendExit}
use Rattle.window.specs.Resending.{mark_from}
use Rattle.stop_and_wait.specs.Sender as stop_and_wait
use Rattle.stop_and_wait.specs.declared.StopAndWaitSender.{StopAndWaitSender}
use Rattle.session.specs.Sending.{SenderEnd, sender_in, go_back_nEnd, stop_and_wait_end, window_of, window_end, has_outstanding, new_sender, send_chunk_in, send_chunk, acknowledged_in, acknowledged, Resent, resent, resent_numbers}
use Rattle.session.specs.GoodSender.{SenderUnbroken, CanSendChunk}
use Rattle.session.specs.declared.SenderState.{SenderState}
use Rattle.session.specs.declared.SenderState.TheVariants as senderState
use Rattle.session.specs.declared.Timeout.TheVariants.{Earliest}
use Rattle.session.proofs.Laws.{send_unchecked}
use Rattle.session.proofs.Resends.{go_back_n_resent, stop_and_wait_resent}
use Rattle.protocol.specs.declared.ProtocolType.{ProtocolType}
use Rattle.protocol.specs.declared.ProtocolType.TheVariants as protocol

-- ---- Stop-and-Wait counts its retries against a limit, Go-Back-N has none; Selective Repeat isn't on this clock
abbrev pub retries_of : SenderState → ℕ
retries_of (senderState.StopAndWait s) = s.current_retries
retries_of (senderState.GoBackN s) = 0
retries_of (senderState.SelectiveRepeat s) = 0

abbrev pub LimitIs : ℕ → SenderState → Type 0
LimitIs limit (senderState.StopAndWait s) = s.max_retries ≡ limit
LimitIs limit (senderState.GoBackN s) = Unit {0}
LimitIs limit (senderState.SelectiveRepeat s) = ⊥

abbrev pub NotSelective : ProtocolType → Type 0
NotSelective protocol.StopAndWait = Unit {0}
NotSelective protocol.GoBackN = Unit {0}
NotSelective protocol.SelectiveRepeat = ⊥

pub new_limit : (p : ProtocolType) (w limit : ℕ) (store : List ℕ) → NotSelective p → LimitIs limit (new_sender p w limit store).sender.state
unfolding new_sender
new_limit protocol.StopAndWait w limit store i = refl
new_limit protocol.GoBackN w limit store i = tt
new_limit protocol.SelectiveRepeat w limit store i = i

pub new_retries : (p : ProtocolType) (w limit : ℕ) (store : List ℕ) → retries_of (new_sender p w limit store).sender.state ≤ 0
unfolding new_sender
new_retries protocol.StopAndWait w limit store = omega arith
new_retries protocol.GoBackN w limit store = omega arith
new_retries protocol.SelectiveRepeat w limit store = omega arith

-- no retries so far
pub record Fresh (limit : ℕ) (s : SenderState) : Type 0 where
  pub retries : retries_of s ≡ 0
  pub limit_is : LimitIs limit s

-- a chunk that is sent has no retries yet
pub sent_fresh : (limit : ℕ) (v : SenderEnd) (payload out : List ℕ) → CanSendChunk v payload out → LimitIs limit v.sender.state → Fresh limit (send_chunk v payload out).after.sender.state
unfolding send_chunk
sent_fresh limit v payload out h i = by_state v.sender.state v.store h i
  where
    stop_and_wait_lem : (s : StopAndWaitSender) (store : List ℕ) → CanSendChunk (sender_in (senderState.StopAndWait s) store) payload out → s.max_retries ≡ limit → Fresh limit (send_chunk_in (senderState.StopAndWait s) store payload out).after.sender.state
    stop_and_wait_lem s store h i =
        subst (λ (x : SendExit slots.Sender). Fresh limit (senderState.StopAndWait (stop_and_wait.sent s x).after.sender)) (sym (send_unchecked (sender_in (senderState.StopAndWait s) store) payload out h)) (record { retries = refl; limit_is = i })

    by_state : (s : SenderState) (store : List ℕ) → CanSendChunk (sender_in s store) payload out → LimitIs limit s → Fresh limit (send_chunk_in s store payload out).after.sender.state
    by_state (senderState.StopAndWait s) store h i = stop_and_wait_lem s store h i
    by_state (senderState.GoBackN s) store h i = record { retries = refl; limit_is = tt }
    by_state (senderState.SelectiveRepeat s) store h i = absurd i

-- nor has what an ACK of new data leaves
pub acknowledged_fresh : (limit : ℕ) (v : SenderEnd) (n : ℕ) → LimitIs limit v.sender.state → Fresh limit (acknowledged v n).sender.state
unfolding acknowledged
acknowledged_fresh limit v n i = by_state v.sender.state v.store i
  where
    by_state : (s : SenderState) (store : List ℕ) → LimitIs limit s → Fresh limit (acknowledged_in s store n).sender.state
    by_state (senderState.StopAndWait s) store i = record { retries = refl; limit_is = i }
    by_state (senderState.GoBackN s) store i = record { retries = refl; limit_is = tt }
    by_state (senderState.SelectiveRepeat s) store i = absurd i

-- ---- a timeout of the earliest number: the datagram of the base, once
pub record Again (limit : ℕ) (v : SenderEnd) : Type 0 where
  pub packets : (resent v Earliest).packets ≡ datagram_for (window_end (resent v Earliest).after) (window_of v.sender).send_base ∷ []
  pub retries : retries_of (resent v Earliest).after.sender.state ≤ retries_of v.sender.state + 1
  pub limit_is : LimitIs limit (resent v Earliest).after.sender.state

by_equation : (limit : ℕ) (v u : SenderEnd) → resent_numbers u (window_of v.sender).send_base 1 ≡ resent v Earliest → retries_of u.sender.state ≤ retries_of v.sender.state + 1 → LimitIs limit u.sender.state → Again limit v
by_equation limit v u e h i =
    let b = (window_of v.sender).send_base in
    record {
      packets = sym (ap (λ (r : Resent). r.packets) e) ∙ ap (λ (r : Resent). datagram_for (window_end r.after) b ∷ []) e;
      retries = subst (λ (r : Resent). retries_of r.after.sender.state ≤ retries_of v.sender.state + 1) e h;
      limit_is = subst (λ (r : Resent). LimitIs limit r.after.sender.state) e i;
    }

some_one : (n : ℕ) → 0 < n → 1 ≡ min 1 n
some_one n h = omega arith

pub earliest_again : (limit : ℕ) (v : SenderEnd) → SenderUnbroken v → has_outstanding v.sender ≡ true → LimitIs limit v.sender.state → retries_of v.sender.state < limit → Again limit v
earliest_again limit v h o i few = by_state v.sender.state v.store h (ltb-true 0 _ o) i few
  where
    left : (s : StopAndWaitSender) → s.max_retries ≡ limit → s.current_retries < limit → 0 < outstanding (stop_and_wait.window_of s) → 1 ≡ min (stop_and_wait.retries_left s) (outstanding (stop_and_wait.window_of s))
    left s i few o = rw (lt-ltb s.current_retries s.max_retries (rw i few)) (some_one (outstanding (stop_and_wait.window_of s)) o)

    by_state : (s : SenderState) (store : List ℕ) → SenderUnbroken (sender_in s store) → 0 < outstanding (window_of (sender_in s store).sender) → LimitIs limit s → retries_of s < limit → Again limit (sender_in s store)
    by_state (senderState.StopAndWait s) store h o i few =
        by_equation limit (sender_in (senderState.StopAndWait s) store) (stop_and_wait_end (stop_and_wait.marked_again (stop_and_wait.end_of s store))) (stop_and_wait_resent s store h Earliest (left s i few o) (λ z. omega arith) refl) (omega arith) i
    by_state (senderState.GoBackN s) store h o i few =
        by_equation limit (sender_in (senderState.GoBackN s) store) (go_back_nEnd (mark_from (slots.sender s.window store) s.window.send_base 1)) (go_back_n_resent (slots.sender s.window store) h Earliest (some_one (outstanding s.window) o) refl) (omega arith) tt
    by_state (senderState.SelectiveRepeat s) store h o i few = absurd i
