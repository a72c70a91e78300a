-- What a state that isn't broken is like.
use Prim.Native.Nat.{ℕ, ◌+◌, ◌*◌, ◌/◌, ◌%◌, ◌≤◌, ◌<◌}
use mathlib.Core.Path.{◌≡◌, refl}
use mathlib.Core.Bool.{Bool, true, false, ◌||◌}
use mathlib.Core.List.{List}
use native.Mathlib.Omega.{arith}
use borrow.Author.Tests.{ltb-true, ltb-false, leb-false, lt-ltb, le-ltb}
use lib.ListN.{length}
use lib.Dec.{ltb}
use Rattle.bounds.specs.Bounds.{max_payload, slot_size, max_window, seq_num_limit, count_limit}
use Rattle.refusal.specs.Clauses.{any_of}
use Rattle.refusal.proofs.Laws.{none_of, any_of_none, or_false}
use Rattle.store.specs.Slot.{slot_at, slot_length}
use Rattle.store.proofs.Laws.{none_found}
use Rattle.store.specs.Sound.{sender_test, sender_slot_broken, sender_slots_broken}
use Rattle.window.specs.State.{window_broken, store_short, outstanding, numbers_broken, state_broken, counts_broken}
use Rattle.window.specs.declared.SendWindow.{SendWindow}

by_slots : (n w : ℕ) (t : Bool) → ltb n (w * slot_size) ≡ t → ltb (n / slot_size) w ≡ t
by_slots n w true e = let h = ltb-true n (w * slot_size) e in lt-ltb (n / slot_size) w (omega arith)
by_slots n w false e = let h = ltb-false n (w * slot_size) e in le-ltb (n / slot_size) w (omega arith)

-- the test by division is the test by multiplication
pub fewer_slots : (n w : ℕ) → ltb (n / slot_size) w ≡ ltb n (w * slot_size)
fewer_slots n w = by_slots n w (ltb n (w * slot_size)) refl

pub record Sound (selective : Bool) (s : SendWindow) (store : List ℕ) : Type 0 where
  pub positive : 0 < s.window_size
  pub small : s.window_size ≤ max_window
  pub room : s.window_size * slot_size ≤ length store
  pub ordered : s.send_base ≤ s.next_seq_num
  pub few : outstanding s ≤ s.window_size
  pub low : s.next_seq_num ≤ seq_num_limit
  pub slots : sender_slots_broken selective store s.window_size s.send_base (outstanding s) ≡ false

-- the numbers of such a state
pub record Numbers (s : SendWindow) : Type 0 where
  pub positive : 0 < s.window_size
  pub small : s.window_size ≤ max_window
  pub ordered : s.send_base ≤ s.next_seq_num
  pub few : outstanding s ≤ s.window_size
  pub low : s.next_seq_num ≤ seq_num_limit

pub numbers : (s : SendWindow) → numbers_broken s ≡ false → Numbers s
unfolding numbers_broken window_broken
numbers s e =
    let none = none_of _ e in
    let window = none_of _ none.0 in
    let p : 1 ≤ s.window_size = ltb-false s.window_size 1 window.0 in
    record {
      positive = omega arith;
      small = ltb-false max_window s.window_size window.1.0;
      ordered = ltb-false _ _ none.1.0;
      few = ltb-false _ _ none.1.1.0;
      low = ltb-false _ _ none.1.1.1.0;
    }

pub numbers_not_broken : (s : SendWindow) → Numbers s → numbers_broken s ≡ false
unfolding numbers_broken window_broken
numbers_not_broken s h =
    let p = h.positive in
    any_of_none _ (
      any_of_none _ (le-ltb s.window_size 1 (omega arith), (le-ltb max_window s.window_size h.small, tt)),
      (le-ltb _ _ h.ordered, (le-ltb _ _ h.few, (le-ltb _ _ h.low, tt))),
    )

pub sound : (selective : Bool) (s : SendWindow) (store : List ℕ) → state_broken selective s store ≡ false → Sound selective s store
unfolding state_broken store_short
sound selective s store e =
    let none = none_of _ e in
    let n = numbers s none.0 in
    record {
      positive = n.positive;
      small = n.small;
      room = ltb-false _ _ none.1.0;
      ordered = n.ordered;
      few = n.few;
      low = n.low;
      slots = none.1.1.0;
    }

pub sound_numbers : {selective : Bool} {s : SendWindow} {store : List ℕ} → Sound selective s store → Numbers s
sound_numbers h = record { positive = h.positive; small = h.small; ordered = h.ordered; few = h.few; low = h.low }

pub numbers_state : (selective : Bool) (s : SendWindow) (store : List ℕ) → numbers_broken s ≡ true → state_broken selective s store ≡ true
unfolding state_broken any_of
numbers_state selective s store e = rw e

pub not_broken : (selective : Bool) (s : SendWindow) (store : List ℕ) → Sound selective s store → state_broken selective s store ≡ false
unfolding state_broken store_short
not_broken selective s store h = any_of_none _ (numbers_not_broken s (sound_numbers h), (le-ltb _ _ h.room, (h.slots, tt)))

-- the lengths of a window's slots
pub slot_low : (selective : Bool) (s : SendWindow) (store : List ℕ) → Sound selective s store → (i : ℕ) → i < s.window_size
    → slot_length (slot_at store ((s.send_base + i) % s.window_size)) ≤ max_payload
unfolding sender_slots_broken sender_slot_broken
slot_low selective s store h i l =
    let broken = none_found s.window_size i (sender_test selective store s.window_size s.send_base (outstanding s)) l h.slots in
    ltb-false max_payload _ (or_false _ _ (or_false _ _ (or_false _ _ broken).0).0).0

pub counts_low : (s : SendWindow) → counts_broken s ≡ false → (s.total_sent < count_limit) × (s.retransmissions < count_limit)
unfolding counts_broken
counts_low s e = let none = none_of _ e in (leb-false _ _ none.0, leb-false _ _ none.1.0)

-- for the functions that test a state
pub or_false_right : (a : Bool) → (a || false) ≡ a
or_false_right true = refl
or_false_right false = refl

pub store_fits : (store : List ℕ) (window : ℕ) → store_short store window ≡ false → window * slot_size ≤ length store
unfolding store_short
store_fits store window e = ltb-false _ _ e

pub windows_fit : (store : List ℕ) (window : ℕ) → window_broken window ≡ false → store_short store window ≡ false → (0 < window) × (window * slot_size ≤ length store)
unfolding window_broken store_short
windows_fit store window e f =
    let p : 1 ≤ window = ltb-false window 1 (none_of _ e).0 in
    (omega arith, ltb-false _ _ f)
