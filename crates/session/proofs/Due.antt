-- Numbers that are outstanding and not acknowledged: what each call of a Selective Repeat sender leaves of them. And
-- what a chunk sent leaves of the protocol, the window's size and the store's length.
use Prim.Native.Nat.{ℕ, zero, suc, ◌+◌, ◌-◌, ◌*◌, ◌%◌, ◌≤◌, ◌<◌}
use mathlib.Core.Path.{◌≡◌, refl, sym, ap, ◌∙◌}
use mathlib.Core.Bool.{Bool, true, false, cond, and-eq-true_iff, true≢false}
use mathlib.Core.List.{List, []}
use native.Mathlib.Omega.{arith}
use borrow.Author.Tests.{le-leb, lt-ltb, leb-true, ltb-true, not-true}
use lib.Dec.{eqb}
use lib.ListN.{length, length-set}
use Rattle.bounds.specs.Bounds.{max_payload, slot_size}
use Rattle.store.specs.Slot.{slot_at, slot_mark, slot_bytes, fill_slot}
use Rattle.store.specs.Numbers.{marked, marked_run}
use Rattle.store.proofs.Laws.{slot_in, put_same, put_length, slot_bytes_length, filled_mark}
use Rattle.store.proofs.Ring.{set_number_other}
use Rattle.window.specs.State.{outstanding}
use Rattle.window.specs.Slots as slots
use Rattle.window.specs.Slots.{slot_for, hold, mark_retransmitted, empty_from, release}
use Rattle.window.specs.Sending.{SendExit}
use Rattle.window.specs.Acknowledgement.{is_in_window, AckExit}
use Rattle.window.specs.Resending.{mark_from}
use Rattle.window.proofs.Laws.{Sound, sound}
use Rattle.stop_and_wait.specs.Sender as stop_and_wait
use Rattle.selective_repeat.specs.Sender.{due, mark_acknowledged, acknowledged_run, acknowledge_one}
use Rattle.selective_repeat.proofs.Laws as selective_repeat_lem
use Rattle.refinement.proofs.Writes.{filled_other, byte_kept, mark_kept, emptied_kept}
use Rattle.refinement.proofs.Laws.{stop_and_wait_send}
use Rattle.session.specs.declared.SenderState.{SenderState}
use Rattle.session.specs.declared.SenderState.TheVariants as senderState
use Rattle.session.specs.declared.Timeout.{Timeout}
use Rattle.session.specs.declared.Timeout.TheVariants as timeout
use Rattle.session.specs.Sending.{SenderEnd, sender_in, selective_repeat_end, window_in, window_of, window_end, is_due, send_chunk_in, send_chunk, handle_ack, acknowledged_in, acknowledged, handle_ack_unchecked, timeout_number, Resent, resent, resent_numbers}
use Rattle.session.specs.GoodSender.{is_selective, sender_broken, SenderUnbroken, CanSendChunk, Within}
use Rattle.session.proofs.Sends.{send_unchecked}
use Rattle.session.proofs.Resends.{selective_repeat_resent, selective_repeat_nothing}

-- ---- a window over a store
record DueIn (v : slots.Sender) (k : ℕ) : Type 0 where
  from : v.window.send_base ≤ k
  below : k < v.window.next_seq_num
  plain : marked 2 v.store v.window.window_size k ≡ false

due_in : (v : slots.Sender) (k : ℕ) → due v k ≡ true → DueIn v k
due_in v k e =
    let within = selective_repeat_lem.due_within v k e in
    record { from = within.0; below = within.1; plain = not-true _ ((and-eq-true_iff (is_in_window v.window k) _).0 e).1 }

is_due_lem : (v : slots.Sender) (k : ℕ) → DueIn v k → due v k ≡ true
is_due_lem v k d = rw (le-leb _ _ d.from, lt-ltb _ _ d.below, d.plain)

same_mark : {a b : List ℕ} → a ≡ b → eqb (slot_mark b) 2 ≡ false → eqb (slot_mark a) 2 ≡ false
same_mark e f = ap (λ (slot : List ℕ). eqb (slot_mark slot) 2) e ∙ f

-- a slot filled: another number's, and the number's own
slot_filled_other : (store : List ℕ) (w base next k : ℕ) (payload : List ℕ) → 0 < w → w * slot_size ≤ length store → length payload ≤ max_payload → base ≤ k → k < next → next - base < w
    → slot_at (fill_slot store (next % w) payload 1 0) (k % w) ≡ slot_at store (k % w)
slot_filled_other store w base next k payload positive room short from below free =
    let number : base + (k - base) ≡ k = omega arith in
    let end : base + (next - base) ≡ next = omega arith in
    rw (number, end) at (filled_other store w base (next - base) payload 1 positive room short (k - base) (omega arith) free (λ e. omega arith))

module _ {selective : Bool} (v : slots.Sender) (s : Sound selective v.window v.store) (payload : List ℕ) (free : outstanding v.window < v.window.window_size) (short : length payload ≤ max_payload) where
  hold_due : (k : ℕ) → due v k ≡ true → due (hold v payload) k ≡ true
  unfolding hold
  hold_due k e =
      let d = due_in v k e in
      let below = d.below in
      is_due_lem (hold v payload) k (record {
        from = d.from;
        below = omega arith;
        plain = same_mark (slot_filled_other v.store v.window.window_size v.window.send_base v.window.next_seq_num k payload s.positive s.room short d.from d.below free) d.plain;
      })

  hold_due_new : due (hold v payload) v.window.next_seq_num ≡ true
  unfolding hold
  hold_due_new =
      is_due_lem (hold v payload) v.window.next_seq_num (record {
        from = s.ordered;
        below = omega arith;
        plain = same_mark (put_same v.store _ (slot_bytes payload 1 0) (slot_in v.store v.window.next_seq_num v.window.window_size s.positive s.room) (slot_bytes_length payload 1 0 short)) (ap (λ (m : ℕ). eqb m 2) (filled_mark payload 1 0));
      })

  hold_length : length (hold v payload).store ≡ length v.store
  unfolding hold
  hold_length =
      put_length v.store (slot_for v.window v.window.next_seq_num) (slot_bytes payload 1 0) (slot_in v.store v.window.next_seq_num v.window.window_size s.positive s.room) (slot_bytes_length payload 1 0 short)

-- numbers marked as sent again
marks_due : (v : slots.Sender) (n j k : ℕ) → 0 < v.window.window_size → v.window.window_size * slot_size ≤ length v.store → due v k ≡ true → due (mark_from v n j) k ≡ true
unfolding mark_from mark_retransmitted
marks_due v n zero k positive room e = e
marks_due v n (suc j) k positive room e =
    let d = due_in v k e in
    marks_due (mark_retransmitted v n) (n + 1) j k positive (rw length-set room)
    (is_due_lem (mark_retransmitted v n) k (record {
      from = d.from;
      below = d.below;
      plain = byte_kept (λ (slot : List ℕ). eqb (slot_mark slot) 2) 3 (omega arith) (λ slot flags. ap (λ (m : ℕ). eqb m 2) (mark_kept slot flags)) v.store _ _ _ (slot_in v.store k v.window.window_size positive room) ∙ d.plain;
    }))

-- a run of marks ends before a number without one
run_ends : (store : List ℕ) (w n c k : ℕ) → n ≤ k → marked 2 store w k ≡ false → n + marked_run 2 store w n c ≤ k
unfolding marked_run
run_ends store w n zero k h e = omega arith
run_ends store w n (suc c) k h e = by_mark (marked 2 store w n) refl (λ l. run_ends store w (n + 1) c k l e)
  where
    other : marked 2 store w n ≡ true → n ≡ k → ⊥
    other f g = true≢false (sym f ∙ ap (marked 2 store w) g ∙ e)

    by_mark : (b : Bool) → marked 2 store w n ≡ b → (n + 1 ≤ k → n + 1 + marked_run 2 store w (n + 1) c ≤ k) → n + cond b (suc (marked_run 2 store w (n + 1) c)) 0 ≤ k
    by_mark true f more = let ne = other f in let l : n + 1 ≤ k = omega arith in let r = more l in omega arith
    by_mark false f more = omega arith

-- another number acknowledged
module _ {selective : Bool} (v : slots.Sender) (s : Sound selective v.window v.store) (n : ℕ) (from : v.window.send_base ≤ n) (below : n < v.window.next_seq_num) (k : ℕ) (other : k ≡ n → ⊥) (e : due v k ≡ true) where
  marked_due : DueIn (mark_acknowledged v n) k
  marked_due =
      let d = due_in v k e in
      let few = s.few in
      let a = d.from in
      let b = d.below in
      let number : v.window.send_base + (k - v.window.send_base) ≡ k = omega arith in
      record {
        from = a;
        below = b;
        plain = same_mark (rw number at (set_number_other v.store v.window.window_size v.window.send_base n s.positive s.room from (omega arith) 2 2 (omega arith) (k - v.window.send_base) (omega arith) (λ f. other (omega arith)))) d.plain;
      }

  acknowledge_due : due (acknowledge_one v n) k ≡ true
  unfolding acknowledge_one release
  acknowledge_due =
      let u = mark_acknowledged v n in
      let w = v.window.window_size in
      let base = v.window.send_base in
      let run = acknowledged_run u in
      let d = marked_due in
      let few = s.few in
      let a = d.from in
      let b = d.below in
      let past : base + run ≤ k = run_ends u.store w base (outstanding v.window) k a d.plain in
      let moved : base + run - base ≡ run = omega arith in
      let number : base + (k - base) ≡ k = omega arith in
      let room : w * slot_size ≤ length u.store = rw length-set s.room in
      let kept : slot_at (empty_from u.store w base run) (k % w) ≡ slot_at u.store (k % w) = rw number at (emptied_kept w s.positive u.store base run (k - base) room (omega arith) (omega arith)) in
      is_due_lem (acknowledge_one v n) k (record {
        from = past;
        below = b;
        plain = rw moved (same_mark kept d.plain);
      })

-- ---- a session's sender
pub due_within : (v : SenderEnd) (n : ℕ) → is_due v n ≡ true → Within (window_of v.sender) n 1
due_within v n e = let d = due_in (window_end v) n e in let below = d.below in record { from = d.from; below = omega arith }

-- sending
pub sent_window : (v : SenderEnd) (payload out : List ℕ) → CanSendChunk v payload out → window_end (send_chunk v payload out).after ≡ hold (window_end v) payload
unfolding send_chunk
sent_window v payload out h = by_state v.sender.state v.store h
  where
    by_state : (s : SenderState) (store : List ℕ) → CanSendChunk (sender_in s store) payload out → window_end (send_chunk_in s store payload out).after ≡ hold (window_end (sender_in s store)) payload
    by_state (senderState.StopAndWait s) store h =
        stop_and_wait_send (stop_and_wait.end_of s store) payload out ∙ ap (λ (x : SendExit slots.Sender). x.after) (send_unchecked (sender_in (senderState.StopAndWait s) store) payload out h)
    by_state (senderState.GoBackN s) store h = ap (λ (x : SendExit slots.Sender). x.after) (send_unchecked (sender_in (senderState.GoBackN s) store) payload out h)
    by_state (senderState.SelectiveRepeat s) store h = ap (λ (x : SendExit slots.Sender). x.after) (send_unchecked (sender_in (senderState.SelectiveRepeat s) store) payload out h)

module _ (v : SenderEnd) (payload out : List ℕ) (h : CanSendChunk v payload out) where
  pub send_due : (k : ℕ) → is_due v k ≡ true → is_due (send_chunk v payload out).after k ≡ true
  send_due k e =
      ap (λ (u : slots.Sender). due u k) (sent_window v payload out h)
      ∙ hold_due (window_end v) (sound _ (window_of v.sender) v.store h.unbroken.state) payload (ltb-true _ _ h.free) h.short k e

  -- the new number
  pub send_due_new : is_due (send_chunk v payload out).after (window_of v.sender).next_seq_num ≡ true
  send_due_new =
      ap (λ (u : slots.Sender). due u (window_of v.sender).next_seq_num) (sent_window v payload out h)
      ∙ hold_due_new (window_end v) (sound _ (window_of v.sender) v.store h.unbroken.state) payload (ltb-true _ _ h.free) h.short

  pub send_size : (window_of (send_chunk v payload out).after.sender).window_size ≡ (window_of v.sender).window_size
  unfolding hold
  send_size = ap (λ (u : slots.Sender). u.window.window_size) (sent_window v payload out h)

  pub send_length : length (send_chunk v payload out).after.store ≡ length v.store
  send_length =
      ap (λ (u : slots.Sender). length u.store) (sent_window v payload out h)
      ∙ hold_length (window_end v) (sound _ (window_of v.sender) v.store h.unbroken.state) payload (ltb-true _ _ h.free) h.short

pub send_selective : (v : SenderEnd) (payload out : List ℕ) → is_selective (send_chunk v payload out).after.sender.state ≡ is_selective v.sender.state
unfolding send_chunk
send_selective v payload out = by_state v.sender.state v.store
  where
    by_state : (s : SenderState) (store : List ℕ) → is_selective (send_chunk_in s store payload out).after.sender.state ≡ is_selective s
    by_state (senderState.StopAndWait s) store = refl
    by_state (senderState.GoBackN s) store = refl
    by_state (senderState.SelectiveRepeat s) store = refl

-- ---- ACKs
pub acknowledged_due : (v : SenderEnd) (n k : ℕ) → sender_broken v ≡ false → is_selective v.sender.state ≡ true → is_in_window (window_of v.sender) n ≡ true → (k ≡ n → ⊥) → is_due v k ≡ true → is_due (acknowledged v n) k ≡ true
unfolding acknowledged
acknowledged_due v n k h selective i other e = by_state v.sender.state v.store h selective i e
  where
    by_state : (s : SenderState) (store : List ℕ) → sender_broken (sender_in s store) ≡ false → is_selective s ≡ true → is_in_window (window_in s) n ≡ true → is_due (sender_in s store) k ≡ true → is_due (acknowledged_in s store n) k ≡ true
    by_state (senderState.StopAndWait s) store h f i e = absurd (true≢false (sym f))
    by_state (senderState.GoBackN s) store h f i e = absurd (true≢false (sym f))
    by_state (senderState.SelectiveRepeat s) store h f i e =
        let within = (and-eq-true_iff _ _).0 i in
        acknowledge_due (slots.sender s.window store) (sound true s.window store h) n (leb-true _ _ within.0) (ltb-true _ _ within.1) k other e

-- of a number, accepted or not
module _ (v : SenderEnd) (n k : ℕ) (h : sender_broken v ≡ false) (selective : is_selective v.sender.state ≡ true) (other : k ≡ n → ⊥) (e : is_due v k ≡ true) where
  pub ack_unchecked_due : is_due (handle_ack_unchecked v n).after k ≡ true
  unfolding handle_ack_unchecked
  ack_unchecked_due = by_test_lem (is_in_window (window_of v.sender) n) refl
    where
      by_test_lem : (b : Bool) → is_in_window (window_of v.sender) n ≡ b → is_due (cond b (acknowledged v n) v) k ≡ true
      by_test_lem true i = acknowledged_due v n k h selective i other e
      by_test_lem false i = e

  -- of a datagram that is a valid ACK of it (`ack_of_number`)
  pub ack_due : (raw : List ℕ) → handle_ack v raw ≡ handle_ack_unchecked v n → is_due (handle_ack v raw).after k ≡ true
  ack_due raw f = ap (λ (x : AckExit SenderEnd). is_due x.after k) f ∙ ack_unchecked_due

-- ---- timeouts
-- of a Selective Repeat sender: at most the number is marked as sent again
resent_marks : (v : slots.Sender) (t : Timeout) (k : ℕ) → SenderUnbroken (selective_repeat_end v) → due v k ≡ true → is_due (resent (selective_repeat_end v) t).after k ≡ true
resent_marks v t k h e = by_due_lem (due v (timeout_number v.window t)) refl
  where
    by_due_lem : (b : Bool) → due v (timeout_number v.window t) ≡ b → is_due (resent (selective_repeat_end v) t).after k ≡ true
    by_due_lem true f =
        let s = sound true v.window v.store h.state in
        ap (λ (r : Resent). is_due r.after k) (sym (selective_repeat_resent v h t refl f refl)) ∙ marks_due v (timeout_number v.window t) 1 k s.positive s.room e
    by_due_lem false f = ap (λ (r : Resent). is_due r.after k) (sym (selective_repeat_nothing v h t refl 0 f)) ∙ e

module _ (v : SenderEnd) (h : SenderUnbroken v) where
  pub timeout_due : (t : Timeout) (k : ℕ) → is_selective v.sender.state ≡ true → is_due v k ≡ true → is_due (resent v t).after k ≡ true
  timeout_due t k selective e = by_state v.sender.state v.store h selective e
    where
      by_state : (s : SenderState) (store : List ℕ) → SenderUnbroken (sender_in s store) → is_selective s ≡ true → is_due (sender_in s store) k ≡ true → is_due (resent (sender_in s store) t).after k ≡ true
      by_state (senderState.StopAndWait s) store h f e = absurd (true≢false (sym f))
      by_state (senderState.GoBackN s) store h f e = absurd (true≢false (sym f))
      by_state (senderState.SelectiveRepeat s) store h f e = resent_marks (slots.sender s.window store) t k h e

  -- of a number that isn't due: nothing
  pub timeout_not_due : (n : ℕ) → is_selective v.sender.state ≡ true → is_due v n ≡ false → resent v (timeout.Number n) ≡ resent_numbers v n 0
  timeout_not_due n selective e = by_state v.sender.state v.store h selective e
    where
      by_state : (s : SenderState) (store : List ℕ) → SenderUnbroken (sender_in s store) → is_selective s ≡ true → is_due (sender_in s store) n ≡ false → resent (sender_in s store) (timeout.Number n) ≡ resent_numbers (sender_in s store) n 0
      by_state (senderState.StopAndWait s) store h f e = absurd (true≢false (sym f))
      by_state (senderState.GoBackN s) store h f e = absurd (true≢false (sym f))
      by_state (senderState.SelectiveRepeat s) store h f e = sym (selective_repeat_nothing (slots.sender s.window store) h (timeout.Number n) refl n e)

  pub timeout_nothing : (n : ℕ) → is_selective v.sender.state ≡ true → is_due v n ≡ false → (resent v (timeout.Number n)).packets ≡ []
  timeout_nothing n selective e = ap (λ (r : Resent). r.packets) (timeout_not_due n selective e)

  -- and of one that is: that number alone
  pub timeout_due_one : (n : ℕ) → is_selective v.sender.state ≡ true → is_due v n ≡ true → resent v (timeout.Number n) ≡ resent_numbers (selective_repeat_end (mark_from (window_end v) n 1)) n 1
  timeout_due_one n selective e = by_state v.sender.state v.store h selective e
    where
      by_state : (s : SenderState) (store : List ℕ) → SenderUnbroken (sender_in s store) → is_selective s ≡ true → is_due (sender_in s store) n ≡ true
          → resent (sender_in s store) (timeout.Number n) ≡ resent_numbers (selective_repeat_end (mark_from (window_end (sender_in s store)) n 1)) n 1
      by_state (senderState.StopAndWait s) store h f e = absurd (true≢false (sym f))
      by_state (senderState.GoBackN s) store h f e = absurd (true≢false (sym f))
      by_state (senderState.SelectiveRepeat s) store h f e = sym (selective_repeat_resent (slots.sender s.window store) h (timeout.Number n) refl e refl)
