-- Runs of slots with a mark: all before the end have it, the next one hasn't.
use Prim.Native.Nat.{ℕ, zero, suc, ◌+◌, ◌%◌, ◌<◌}
use mathlib.Core.Path.{◌≡◌, refl, sym, ap, ◌∙◌}
use mathlib.Core.Bool.{Bool, true, false, cond}
use mathlib.Core.List.{List}
use native.Mathlib.Omega.{arith}
use borrow.Author.Tests.{eqb-true}
use lib.Dec.{eqb}
use Rattle.store.specs.Slot.{slot_at, slot_mark}
use Rattle.store.specs.Sound.{slot_of}
use Rattle.store.specs.Numbers.{marked, marked_run}

next_slot : (store : List ℕ) (w n i : ℕ) → slot_of store w (n + 1) i ≡ slot_of store w n (suc i)
next_slot store w n i = let e : n + 1 + i ≡ n + suc i = omega arith in ap (λ (m : ℕ). slot_at store (m % w)) e

first_slot : (store : List ℕ) (w n : ℕ) → slot_of store w n 0 ≡ slot_at store (n % w)
first_slot store w n = let e : n + 0 ≡ n = omega arith in ap (λ (m : ℕ). slot_at store (m % w)) e

pub run_at : (mark : ℕ) (store : List ℕ) (w n k i : ℕ) → i < marked_run mark store w n k → slot_mark (slot_of store w n i) ≡ mark
unfolding marked_run
run_at mark store w n zero i h = absurd (omega arith)
run_at mark store w n (suc k) i h = by_mark (marked mark store w n) refl i h (λ j l. run_at mark store w (n + 1) k j l)
  where
    by_mark : (b : Bool) → marked mark store w n ≡ b → (i : ℕ) → i < cond b (suc (marked_run mark store w (n + 1) k)) 0
        → ((j : ℕ) → j < marked_run mark store w (n + 1) k → slot_mark (slot_of store w (n + 1) j) ≡ mark) → slot_mark (slot_of store w n i) ≡ mark
    by_mark false e i h more = absurd (omega arith)
    by_mark true e zero h more = ap slot_mark (first_slot store w n) ∙ eqb-true _ mark e
    by_mark true e (suc i) h more = ap slot_mark (sym (next_slot store w n i)) ∙ more i (omega arith)

pub run_stops : (mark : ℕ) (store : List ℕ) (w n k : ℕ) → marked_run mark store w n k < k → eqb (slot_mark (slot_of store w n (marked_run mark store w n k))) mark ≡ false
unfolding marked_run
run_stops mark store w n zero h = absurd (omega arith)
run_stops mark store w n (suc k) h = by_mark (marked mark store w n) refl h (λ l. run_stops mark store w (n + 1) k l)
  where
    by_mark : (b : Bool) → marked mark store w n ≡ b → cond b (suc (marked_run mark store w (n + 1) k)) 0 < suc k
        → (marked_run mark store w (n + 1) k < k → eqb (slot_mark (slot_of store w (n + 1) (marked_run mark store w (n + 1) k))) mark ≡ false)
        → eqb (slot_mark (slot_of store w n (cond b (suc (marked_run mark store w (n + 1) k)) 0))) mark ≡ false
    by_mark false e h more = ap (λ (s : List ℕ). eqb (slot_mark s) mark) (first_slot store w n) ∙ e
    by_mark true e h more = ap (λ (s : List ℕ). eqb (slot_mark s) mark) (sym (next_slot store w n (marked_run mark store w (n + 1) k))) ∙ more (omega arith)
