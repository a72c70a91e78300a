-- Laws of the tests on slots.
use Prim.Native.Nat.{ℕ, zero, suc, ◌+◌, ◌*◌, ◌%◌, ◌≤◌, ◌<◌}
use mathlib.Core.Path.{◌≡◌, refl, sym, ap, ◌∙◌}
use mathlib.Core.Bool.{Bool, true, false, ◌||◌, or-true}
use mathlib.Core.List.{List}
use native.Mathlib.Omega.{arith}
use native.Mathlib.Nat.{mod-lt, mod-add-mod}
use lib.ListN.{length}
use borrow.Author.Tests.{eqb-true, eqb-false, ltb-false}
use lib.Dec.{eqb}
use Rattle.store.specs.Slot.{SlotIn, slot_length}
use Rattle.store.specs.Sound.{any_below, slot_of, receiver_slot_broken, receiver_test, receiver_slots_broken}

-- a test that is true of some number below n, or of none
last_or_before : (n k : ℕ) (test : ℕ → Bool) (t : Bool) → eqb k n ≡ t → test k ≡ true → ((k ≡ n → ⊥) → any_below n test ≡ true) → (test n || any_below n test) ≡ true
last_or_before n k test true q e before = rw (sym (ap test (eqb-true k n q)) ∙ e)
last_or_before n k test false q e before = rw (before (eqb-false k n q)) (or-true (test n))

pub some_found : (n k : ℕ) (test : ℕ → Bool) → k < n → test k ≡ true → any_below n test ≡ true
unfolding any_below
some_found zero k test h e = absurd (omega arith)
some_found (suc n) k test h e = last_or_before n k test (eqb k n) refl e (λ ne. some_found n k test (omega arith) e)

pub none_found : (n k : ℕ) (test : ℕ → Bool) → k < n → any_below n test ≡ false → test k ≡ false
none_found n k test h e = by_test_lem (test k) refl where
  by_test_lem : (t : Bool) → test k ≡ t → test k ≡ false
  by_test_lem false q = q
  by_test_lem true q = q ∙ sym (some_found n k test h q) ∙ e

-- a receiver's slot that isn't broken
pub receiver_slot_short : (store : List ℕ) (window base k : ℕ) → k < window → receiver_slots_broken store window base ≡ false → slot_length (slot_of store window base k) ≤ 1400
unfolding receiver_slots_broken receiver_slot_broken
receiver_slot_short store window base k h e =
    ltb-false 1400 (slot_length (slot_of store window base k))
    (first_false _ _ (first_false _ _ (first_false _ _ (none_found window k (receiver_test store window base) h e)))) where
      first_false : (a b : Bool) → (a || b) ≡ false → a ≡ false
      first_false false b q = refl
      first_false true b q = q

-- a slot of the window lies in the store
pub slot_in : (store : List ℕ) (n window : ℕ) → 0 < window → window * 1404 ≤ length store → SlotIn store (n % window)
slot_in store n window p h = omega (arith, mod-lt n p)

-- the slot of base + k carried through a loop: it lies in the store, and the next slot is that of base + (k + 1)
pub carried_in : (store : List ℕ) (slot n window : ℕ) → slot ≡ n % window → 0 < window → window * 1404 ≤ length store → SlotIn store slot
carried_in store slot n window e p h = omega (arith, mod-lt n p)

pub carried_below : (slot n window : ℕ) → slot ≡ n % window → 0 < window → slot < window
carried_below slot n window e p = omega (arith, mod-lt n p)

pub carried_on : (slot next base k window : ℕ) → slot ≡ (base + k) % window → next ≡ (slot + 1) % window → next ≡ (base + (k + 1)) % window
carried_on slot next base k window e n =
    let f : base + k + 1 ≡ base + (k + 1) = omega arith in
    n ∙ ap (λ (s : ℕ). (s + 1) % window) e ∙ mod-add-mod (base + k) window 1 ∙ ap (λ (m : ℕ). m % window) f
