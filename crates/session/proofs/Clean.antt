-- The slots of a session's sender stay clean.
use Rattle.std.specs.Prelude.{Err, Ok, Result}
use Prim.Native.Nat.{ℕ, ◌+◌, ◌*◌, ◌%◌, ◌≤◌, ◌<◌}
use mathlib.Core.Path.{◌≡◌, sym, subst}
use mathlib.Core.Bool.{true, false}
use mathlib.Core.List.{List}
use native.Mathlib.Omega.{arith}
use lib.ListN.{length, length-set}
use Rattle.bounds.specs.Bounds.{slot_size}
use Rattle.protocol.specs.declared.ProtocolType.{ProtocolType}
use Rattle.protocol.specs.declared.ProtocolType.TheVariants.{StopAndWait, GoBackN, SelectiveRepeat}
use Rattle.store.specs.Clean.{CleanSlots}
use Rattle.store.proofs.Clean.{byte_clean}
use Rattle.window.specs.Slots as slots
use Rattle.window.specs.Slots.{Clean, release}
use Rattle.window.specs.Acknowledgement.{AckExit, ack_decision, by_decision}
use Rattle.window.specs.Resending.{resend_outstanding}
use Rattle.window.specs.declared.AckDecision.{AckDecision}
use Rattle.window.specs.declared.AckDecision.TheVariants as decision
use Rattle.window.proofs.Laws.{Sound, sound, fresh_clean, hold_clean, release_clean, SlotsKept, resend_clean}
use Rattle.stop_and_wait.specs.Sender as stop_and_wait
use Rattle.go_back_n.specs.Sender as go_back_n
use Rattle.selective_repeat.specs.Sender as selective_repeat
use Rattle.selective_repeat.specs.Sender.{mark_acknowledged, acknowledged_run, acknowledge_one}
use Rattle.session.specs.declared.SenderState.{SenderState}
use Rattle.session.specs.declared.SenderState.TheVariants as senderState
use Rattle.session.specs.declared.Timeout.{Timeout}
use Rattle.session.specs.declared.Timeout.TheVariants as timeout
use Rattle.session.specs.Sending.{SenderEnd, sender_in, window_in, window_of, window_end, new_sender, send_chunk, handle_ack, acknowledged_in, go_back_nTimeout, timeout_number, handle_timeout_in, handle_timeout, ample_buffer, resent}
use Rattle.session.specs.GoodSender.{is_selective, sender_broken, CleanSender, CanSendChunk}
use Rattle.session.proofs.Acks.{ack_decided}
use Rattle.session.proofs.Due.{sent_window}
use Rattle.refusal.specs.declared.Refusal.{Refusal}

pub new_clean : (p : ProtocolType) (w limit : ℕ) (store : List ℕ) → Clean (window_end (new_sender p w limit store))
unfolding new_sender slots.fresh
new_clean StopAndWait w limit store = fresh_clean 1 store
new_clean GoBackN w limit store = fresh_clean w store
new_clean SelectiveRepeat w limit store = fresh_clean w store

pub sent_clean : (v : SenderEnd) (payload out : List ℕ) → CanSendChunk v payload out → Clean (window_end (send_chunk v payload out).after)
sent_clean v payload out h =
    let s = sound (is_selective v.sender.state) (window_of v.sender) v.store h.unbroken.state in
    subst Clean (sym (sent_window v payload out h)) (hold_clean (window_end v) s.positive s.room h.unbroken.clean payload h.short)

-- ---- ACKs
module _ (n : ℕ) where
  acknowledged_clean : (s : SenderState) (store : List ℕ) → 0 < (window_in s).window_size → (window_in s).window_size * slot_size ≤ length store → Clean (window_end (sender_in s store)) → Clean (window_end (acknowledged_in s store n))
  unfolding release acknowledge_one
  acknowledged_clean (senderState.StopAndWait s) store some room c = release_clean (stop_and_wait.window_end (stop_and_wait.end_of s store)) some room c (n + 1)
  acknowledged_clean (senderState.GoBackN s) store some room c = release_clean (slots.sender s.window store) some room c (n + 1)
  acknowledged_clean (senderState.SelectiveRepeat s) store some room c =
      let w = s.window.window_size in
      let u = mark_acknowledged (slots.sender s.window store) n in
      release_clean u some (rw length-set room) (byte_clean store w room c (n % w) 2 2 (omega arith) (omega arith)) (s.window.send_base + acknowledged_run u)

decided_clean : (d : Result AckDecision Refusal) (v : SenderEnd) (accept : ℕ → SenderEnd) → Clean (window_end v) → ((n : ℕ) → Clean (window_end (accept n))) → Clean (window_end (by_decision d v accept).after)
unfolding by_decision
decided_clean (Ok (decision.Accept n base)) v accept c f = f n
decided_clean (Ok decision.NotAccepted) v accept c f = c
decided_clean (Err r) v accept c f = c

pub ack_clean : (v : SenderEnd) (raw : List ℕ) → CleanSender v → Clean (window_end (handle_ack v raw).after)
unfolding handle_ack
ack_clean v raw g =
    let s = v.sender.state in
    let k = sound (is_selective s) (window_in s) v.store g.state in
    subst (λ (x : AckExit SenderEnd). Clean (window_end x.after)) (sym (ack_decided s v.store raw))
    (decided_clean (ack_decision (is_selective s) (window_in s) v.store raw) v (acknowledged_in s v.store) g.clean (λ n. acknowledged_clean n s v.store k.positive k.room g.clean))

-- ---- timeouts
timed_out_clean : (s : SenderState) (store : List ℕ) (t : Timeout) (out : List ℕ) → sender_broken (sender_in s store) ≡ false → Clean (window_end (sender_in s store)) → Clean (window_end (handle_timeout_in s store t out).after)
timed_out_clean (senderState.StopAndWait s) store t out e c =
    let u = stop_and_wait.window_end (stop_and_wait.end_of s store) in
    let k = sound false u.window store e in
    let kept : SlotsKept u (resend_outstanding u (stop_and_wait.retries_left s) out).after = resend_clean _ _ u _ _ out k.positive k.room c in
    subst (CleanSlots (resend_outstanding u (stop_and_wait.retries_left s) out).after.store) kept.size kept.clean
timed_out_clean (senderState.GoBackN s) store t out e c = by_timeout_lem t
  where
    u : slots.Sender
    u = slots.sender s.window store

    k : Sound false s.window store
    k = sound false s.window store e

    every : SlotsKept u (go_back_n.handle_timeout u out).after
    every = resend_clean _ _ u _ _ out k.positive k.room c

    first : SlotsKept u (go_back_n.handle_timeout_earliest u out).after
    first = resend_clean _ _ u _ _ out k.positive k.room c

    by_timeout_lem : (t : Timeout) → Clean (go_back_nTimeout u t out).after
    by_timeout_lem timeout.All = every.clean
    by_timeout_lem timeout.Earliest = first.clean
    by_timeout_lem (timeout.Number n) = every.clean
timed_out_clean (senderState.SelectiveRepeat s) store t out e c =
    let u = slots.sender s.window store in
    let k = sound true s.window store e in
    let kept : SlotsKept u (selective_repeat.handle_timeout u (timeout_number s.window t) out).after = resend_clean _ _ u _ _ out k.positive k.room c in
    kept.clean

pub resent_clean : (v : SenderEnd) (t : Timeout) → CleanSender v → Clean (window_end (resent v t).after)
unfolding resent handle_timeout
resent_clean v t g = timed_out_clean v.sender.state v.store t (ample_buffer v.sender) g.state g.clean
