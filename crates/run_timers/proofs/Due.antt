-- Numbers that are outstanding and not acknowledged after a call of a Selective Repeat sender: each was so before it, or is the number that it sent.
use Prim.Native.Nat.{ℕ, ◌+◌, ◌-◌, ◌*◌, ◌%◌, ◌≤◌, ◌<◌}
use native.Mathlib.Omega.{arith}
use mathlib.Core.Path.{◌≡◌, refl, sym, ap, ◌∙◌}
use mathlib.Core.Bool.{Bool, true, false, cond, not, and-eq-true_iff, true≢false, ◌||◌, ◌&&◌}
use mathlib.Core.List.{List}
use borrow.Author.Tests.{le-leb, lt-ltb, leb-true, ltb-true, not-true}
use lib.Dec.{ltb, eqb}
use lib.ListN.{length, length-set}
use lib.Seq.{get_or-set_same}
use Rattle.bounds.specs.Bounds.{max_payload, slot_size}
use Rattle.store.specs.Slot.{slot_at, slot_length, slot_mark, fill_slot}
use Rattle.store.specs.Numbers.{marked}
use Rattle.store.specs.Sound.{is_filled, out_of_bounds, slot_of, sender_slot_broken, sender_slots_broken, sender_test}
use Rattle.store.proofs.Laws.{slot_in, slot_length_lem, set_same, none_found}
use Rattle.store.proofs.Ring.{set_number_other}
use Rattle.window.specs.State.{outstanding}
use Rattle.window.specs.Slots as slots
use Rattle.window.specs.Slots.{hold, mark_retransmitted, empty_from, release}
use Rattle.window.specs.Acknowledgement.{is_in_window}
use Rattle.window.specs.Resending.{mark_from}
use Rattle.window.specs.declared.SendWindow.{SendWindow}
use Rattle.window.proofs.Laws.{Sound, sound}
use Rattle.selective_repeat.specs.Sender.{due, mark_acknowledged, acknowledged_run, acknowledge_one}
use Rattle.selective_repeat.proofs.Laws as selective_repeat_lem
use Rattle.refinement.proofs.Writes.{filled_other, byte_kept, mark_kept, emptied_kept}
use Rattle.session.specs.declared.SenderState.{SenderState}
use Rattle.session.specs.declared.SenderState.TheVariants as senderState
use Rattle.session.specs.Sending.{SenderEnd, sender_in, window_in, window_of, window_end, is_due, send_chunk, acknowledged_in, acknowledged}
use Rattle.session.specs.GoodSender.{is_selective, sender_broken, CanSendChunk}
use Rattle.session.proofs.Laws.{sent_window}
use Rattle.timeouts.proofs.Laws.{marked_again}

-- ---- a window over a store
pub record DueIn (v : slots.Sender) (k : ℕ) : Type 0 where
  pub from : v.window.send_base ≤ k
  pub below : k < v.window.next_seq_num
  pub plain : marked 2 v.store v.window.window_size k ≡ false

pub due_in : (v : slots.Sender) (k : ℕ) → due v k ≡ true → DueIn v k
due_in v k e =
    let within = selective_repeat_lem.due_within v k e in
    record { from = within.0; below = within.1; plain = not-true _ ((and-eq-true_iff (is_in_window v.window k) _).0 e).1 }

pub is_due_lem : (v : slots.Sender) (k : ℕ) → DueIn v k → due v k ≡ true
is_due_lem v k d = rw (le-leb _ _ d.from, lt-ltb _ _ d.below, d.plain)

-- number k's slot is as it was
same_mark : (store before : List ℕ) (w k : ℕ) → slot_at store (k % w) ≡ slot_at before (k % w) → marked 2 store w k ≡ marked 2 before w k
same_mark store before w k e = ap (λ (slot : List ℕ). eqb (slot_mark slot) 2) e

-- the k-th number from base on, of base + (k - base)
by_place : (store before : List ℕ) (w base k : ℕ) → base ≤ k → slot_at store ((base + (k - base)) % w) ≡ slot_at before ((base + (k - base)) % w) → marked 2 store w k ≡ marked 2 before w k
by_place store before w base k h e = let number : base + (k - base) ≡ k = omega arith in same_mark store before w k (rw number at e)

module _ {selective : Bool} (v : slots.Sender) (s : Sound selective v.window v.store) where
  abbrev w : ℕ
  w = v.window.window_size

  abbrev base : ℕ
  base = v.window.send_base

  abbrev next : ℕ
  next = v.window.next_seq_num

  -- a chunk sent
  hold_mark : (payload : List ℕ) (k : ℕ) → outstanding v.window < w → length payload ≤ max_payload → base ≤ k → k < next → marked 2 (fill_slot v.store (next % w) payload 1 0) w k ≡ marked 2 v.store w k
  hold_mark payload k free short from below =
      let end : base + (next - base) ≡ next = omega arith in
      by_place (fill_slot v.store (next % w) payload 1 0) v.store w base k from
      (rw end at (filled_other v.store w base (next - base) payload 1 s.positive s.room short (k - base) (omega arith) free (λ e. omega arith)))

  held_before : (payload : List ℕ) (k : ℕ) → outstanding v.window < w → length payload ≤ max_payload → (k ≡ next → ⊥) → due (hold v payload) k ≡ true → due v k ≡ true
  unfolding hold
  held_before payload k free short other e =
      let d = due_in (hold v payload) k e in
      let from = d.from in
      let low = d.below in
      let below : k < v.window.next_seq_num = omega arith in
      is_due_lem v k (record { from = from; below = below; plain = sym (hold_mark payload k free short from below) ∙ d.plain })

  -- a number marked as sent again
  marks_before : (n k : ℕ) → due (mark_from v n 1) k ≡ true → due v k ≡ true
  unfolding mark_from mark_retransmitted
  marks_before n k e =
      let d = due_in (mark_from v n 1) k e in
      is_due_lem v k (record {
        from = d.from;
        below = d.below;
        plain = sym (byte_kept (λ (slot : List ℕ). eqb (slot_mark slot) 2) 3 (omega arith) (λ slot flags. ap (λ (m : ℕ). eqb m 2) (mark_kept slot flags)) v.store _ _ _ (slot_in v.store k w s.positive s.room)) ∙ d.plain;
      })

  -- a number acknowledged: it has the mark, the others are as they were
  module _ (n : ℕ) (from : base ≤ n) (below : n < next) where
    own_mark : marked 2 (mark_acknowledged v n).store w n ≡ true
    own_mark =
        let at = slot_in v.store n w s.positive s.room in
        let size = slot_length_lem v.store (n % w) at in
        ap (λ (slot : List ℕ). eqb (slot_mark slot) 2) (set_same v.store (n % w) 2 2 (omega arith)) ∙ ap (λ (m : ℕ). eqb m 2) (get_or-set_same (slot_at v.store (n % w)) 2 2 0 (rw size (omega arith)))

    other_mark : (k : ℕ) → (k ≡ n → ⊥) → base ≤ k → k < next → marked 2 (mark_acknowledged v n).store w k ≡ marked 2 v.store w k
    other_mark k other a b =
        let few = s.few in
        by_place (mark_acknowledged v n).store v.store w base k a (set_number_other v.store w base n s.positive s.room from (omega arith) 2 2 (omega arith) (k - base) (omega arith) (λ f. other (omega arith)))

    acknowledge_before : (k : ℕ) → due (acknowledge_one v n) k ≡ true → (k ≡ n → ⊥) × (due v k ≡ true)
    unfolding acknowledge_one release
    acknowledge_before k e =
        let u = mark_acknowledged v n in
        let run = acknowledged_run (mark_acknowledged v n) in
        let d = due_in (acknowledge_one v n) k e in
        let few = s.few in
        let a : base + run ≤ k = d.from in
        let b : k < next = d.below in
        let low : base ≤ k = omega arith in
        let moved : base + run - base ≡ run = omega arith in
        let room : w * slot_size ≤ length u.store = rw length-set s.room in
        let kept : marked 2 (empty_from u.store w base run) w k ≡ marked 2 u.store w k = by_place (empty_from u.store w base run) u.store w base k low (emptied_kept w s.positive u.store base run (k - base) room (omega arith) (omega arith)) in
        let plain : marked 2 u.store w k ≡ false = sym kept ∙ (rw moved at d.plain) in
        let other : k ≡ n → ⊥ = λ f. true≢false (sym own_mark ∙ ap (marked 2 u.store w) (sym f) ∙ plain) in
        (other, is_due_lem v k (record { from = low; below = b; plain = sym (other_mark k other low b) ∙ plain }))

-- ---- a session's sender
pub sent_before : (v : SenderEnd) (payload out : List ℕ) → CanSendChunk v payload out → (k : ℕ) → (k ≡ (window_of v.sender).next_seq_num → ⊥) → is_due (send_chunk v payload out).after k ≡ true → is_due v k ≡ true
sent_before v payload out h k other e =
    held_before (window_end v) (sound _ (window_of v.sender) v.store h.unbroken.state) payload k (ltb-true _ _ h.free) h.short other (ap (λ (u : slots.Sender). due u k) (sym (sent_window v payload out h)) ∙ e)

pub again_before : (v : SenderEnd) → sender_broken v ≡ false → (n k : ℕ) → is_due (marked_again v n) k ≡ true → is_due v k ≡ true
again_before v h n k e = marks_before (window_end v) (sound _ (window_of v.sender) v.store h) n k e

pub acknowledged_before : (v : SenderEnd) (n k : ℕ) → sender_broken v ≡ false → is_selective v.sender.state ≡ true → is_in_window (window_of v.sender) n ≡ true → is_due (acknowledged v n) k ≡ true → (k ≡ n → ⊥) × (is_due v k ≡ true)
unfolding acknowledged
acknowledged_before v n k h selective i e = by_state v.sender.state v.store h selective i e
  where
    by_state : (s : SenderState) (store : List ℕ) → sender_broken (sender_in s store) ≡ false → is_selective s ≡ true → is_in_window (window_in s) n ≡ true → is_due (acknowledged_in s store n) k ≡ true → (k ≡ n → ⊥) × (is_due (sender_in s store) k ≡ true)
    by_state (senderState.StopAndWait s) store h f i e = absurd (true≢false (sym f))
    by_state (senderState.GoBackN s) store h f i e = absurd (true≢false (sym f))
    by_state (senderState.SelectiveRepeat s) store h f i e =
        let within = (and-eq-true_iff _ _).0 i in
        acknowledge_before (slots.sender s.window store) (sound true s.window store h) n (leb-true _ _ within.0) (ltb-true _ _ within.1) k e

-- the number at base isn't acknowledged
right_false : (a b : Bool) → (a || b) ≡ false → b ≡ false
right_false true b e = absurd (true≢false e)
right_false false b e = e

left_false : (a : Bool) → (a && true) ≡ false → a ≡ false
left_false true e = e
left_false false e = refl

plain_first : (selective outstanding : Bool) (length mark : ℕ) → sender_slot_broken outstanding (selective && ltb 0 0) length mark ≡ false → eqb mark 2 ≡ false
unfolding sender_slot_broken
plain_first true outstanding length mark e = left_false (eqb mark 2) (right_false (out_of_bounds length mark || cond outstanding (not (is_filled mark)) (is_filled mark)) (eqb mark 2 && true) e)
plain_first false outstanding length mark e = left_false (eqb mark 2) (right_false (out_of_bounds length mark || cond outstanding (not (is_filled mark)) (is_filled mark)) (eqb mark 2 && true) e)

base_plain : (selective : Bool) (w : SendWindow) (store : List ℕ) → Sound selective w store → marked 2 store w.window_size w.send_base ≡ false
unfolding sender_slots_broken
base_plain selective w store s =
    let zero : w.send_base + 0 ≡ w.send_base = omega arith in
    let slot = slot_of store w.window_size w.send_base 0 in
    let test = none_found w.window_size 0 (sender_test selective store w.window_size w.send_base (outstanding w)) s.positive s.slots in
    let first : marked 2 store w.window_size (w.send_base + 0) ≡ false = plain_first selective (ltb 0 (outstanding w)) (slot_length slot) (slot_mark slot) test in
    rw zero at first

pub base_unmarked : (v : SenderEnd) → sender_broken v ≡ false → marked 2 v.store (window_of v.sender).window_size (window_of v.sender).send_base ≡ false
base_unmarked v h = base_plain (is_selective v.sender.state) (window_of v.sender) v.store (sound (is_selective v.sender.state) (window_of v.sender) v.store h)
