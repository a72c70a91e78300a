-- How far base moves, decided before anything is written: the same as marking first.
use Prim.Native.Nat.{ℕ, zero, suc, ◌+◌, ◌-◌, ◌*◌, ◌≤◌, ◌<◌}
use mathlib.Core.Path.{◌≡◌, refl, sym, ap, ◌∙◌}
use mathlib.Core.Bool.{Bool, true, false, cond, not, ◌||◌, ◌&&◌}
use mathlib.Core.List.{List}
use native.Mathlib.Omega.{arith}
use borrow.Author.Tests.{eq-eqb, eqb-true, eqb-false}
use lib.Dec.{ltb, eqb}
use lib.ListN.{length, set}
use lib.Seq.{get_or-set_same, take-set-le, drop-set-lt}
use Rattle.refusal.proofs.Laws.{or_false}
use Rattle.store.specs.Slot.{slot_mark, put_slot, empty_slot, set_mark}
use Rattle.store.specs.Sound.{is_filled, out_of_bounds, sender_test, sender_slot_broken, sender_slots_broken, slot_of}
use Rattle.store.specs.Numbers.{marked, marked_run}
use Rattle.store.proofs.Laws.{slot_in, slot_length_lem, none_found, run_within}
use Rattle.store.proofs.Numbers.{run_stop}
use Rattle.store.proofs.Ring.{set_number, set_number_other}
use Rattle.window.specs.State.{outstanding}
use Rattle.window.specs.Slots.{Sender, slot_for, empty_from, release}
use Rattle.window.proofs.Laws.{Sound}
use Rattle.selective_repeat.specs.Sender.{mark_acknowledged, acknowledged_run, advance, base_after, acknowledge_one}

-- runs over slots with the same marks
run_same : (mark : ℕ) (a b : List ℕ) (w n k : ℕ) → ((i : ℕ) → i < k → marked mark a w (n + i) ≡ marked mark b w (n + i)) → marked_run mark a w n k ≡ marked_run mark b w n k
unfolding marked_run
run_same mark a b w n zero h = refl
run_same mark a b w n (suc k) h =
    let here : n + 0 ≡ n = omega arith in
    let first : marked mark a w n ≡ marked mark b w n = rw here at (h 0 (omega arith)) in
    let rest = run_same mark a b w (n + 1) k (λ i l. let e : n + 1 + i ≡ n + (i + 1) = omega arith in rw e (h (i + 1) (omega arith))) in
    rw (first, rest)

-- a slot is emptied whatever its mark
empty_marked : (store : List ℕ) (j mark : ℕ) → empty_slot (set_mark store j mark) j ≡ empty_slot store j
unfolding put_slot
empty_marked store j mark = rw (take-set-le (j * 1404) store (j * 1404 + 2) mark (omega arith), drop-set-lt (j * 1404 + 1404) store (j * 1404 + 2) mark (omega arith))

and_true : (b : Bool) → (b && true) ≡ false → b ≡ false
and_true false e = refl
and_true true e = e

two_broken : (outstanding : Bool) (length mark : ℕ) → sender_slot_broken outstanding false length mark ≡ false → eqb mark 2 ≡ false
unfolding sender_slot_broken
two_broken outstanding length mark e =
    and_true (eqb mark 2) (or_false (out_of_bounds length mark || cond outstanding (not (is_filled mark)) (is_filled mark)) (eqb mark 2 && true) e).1

-- nothing released
release_none : (v : Sender) (k : ℕ) → k ≡ 0 → release v (v.window.send_base + k) ≡ v
unfolding release empty_from
release_none v k e =
    let here : v.window.send_base + k ≡ v.window.send_base = omega arith in
    let none : v.window.send_base - v.window.send_base ≡ 0 = omega arith in
    rw (here, none)

-- base marked and then released
release_marked : (v : Sender) (k : ℕ) → 0 < k → release (mark_acknowledged v v.window.send_base) (v.window.send_base + k) ≡ release v (v.window.send_base + k)
unfolding release empty_from
release_marked v zero h = absurd (omega arith)
release_marked v (suc k) h =
    let more : v.window.send_base + suc k - v.window.send_base ≡ suc k = omega arith in
    rw (more, empty_marked v.store (slot_for v.window v.window.send_base) 2)

-- base moves over outstanding numbers only
pub advance_within : (v : Sender) (n : ℕ) → v.window.send_base < v.window.next_seq_num → advance v n ≤ outstanding v.window
advance_within v n some =
    let run = run_within 2 v.store v.window.window_size (v.window.send_base + 1) (outstanding v.window - 1) in
    by_number_lem (eqb n v.window.send_base) (marked_run 2 v.store v.window.window_size (v.window.send_base + 1) (outstanding v.window - 1)) run where
      by_number_lem : (b : Bool) (run : ℕ) → run ≤ outstanding v.window - 1 → cond b (1 + run) 0 ≤ outstanding v.window
      by_number_lem true run h = omega arith
      by_number_lem false run h = omega arith

module _ (v : Sender) (n : ℕ) (s : Sound true v.window v.store) (from : v.window.send_base ≤ n) (below : n < v.window.next_seq_num) where
  in_window : n < v.window.send_base + v.window.window_size
  in_window = let few = s.few in omega arith

  other_mark : (i : ℕ) → i < v.window.window_size → (i ≡ n - v.window.send_base → ⊥)
      → marked 2 (mark_acknowledged v n).store v.window.window_size (v.window.send_base + i) ≡ marked 2 v.store v.window.window_size (v.window.send_base + i)
  other_mark i h ne =
      ap (λ (slot : List ℕ). eqb (slot_mark slot) 2)
      (set_number_other v.store v.window.window_size v.window.send_base n s.positive s.room from in_window 2 2 (omega arith) i h ne)

  base_plain : marked 2 v.store v.window.window_size (v.window.send_base + 0) ≡ false
  unfolding sender_slots_broken
  base_plain =
      two_broken (ltb 0 (outstanding v.window)) _ _
      (none_found v.window.window_size 0 (sender_test true v.store v.window.window_size v.window.send_base (outstanding v.window)) s.positive s.slots)

  -- another number than base: base stays
  stays : (n ≡ v.window.send_base → ⊥) → acknowledged_run (mark_acknowledged v n) ≡ 0
  stays ne =
      let here : v.window.send_base + 0 ≡ v.window.send_base = omega arith in
      let plain = other_mark 0 s.positive (λ e. ne (omega arith)) ∙ base_plain in
      run_stop 2 (mark_acknowledged v n).store v.window.window_size v.window.send_base (outstanding v.window) (rw here at plain)

  -- base itself: past it and those marked after it
  base_marked : n ≡ v.window.send_base → marked 2 (mark_acknowledged v n).store v.window.window_size v.window.send_base ≡ true
  base_marked e =
      let zeroth : n - v.window.send_base ≡ 0 = omega arith in
      let here : v.window.send_base + 0 ≡ v.window.send_base = omega arith in
      let slot = slot_of v.store v.window.window_size v.window.send_base 0 in
      let size : length slot ≡ 1404 = slot_length_lem v.store _ (slot_in v.store (v.window.send_base + 0) v.window.window_size s.positive s.room) in
      let read : slot_of (mark_acknowledged v n).store v.window.window_size v.window.send_base 0 ≡ set slot 2 2 =
      rw zeroth at (set_number v.store v.window.window_size v.window.send_base n s.positive s.room from in_window 2 2 (omega arith)) in
      let mark : slot_mark (slot_of (mark_acknowledged v n).store v.window.window_size v.window.send_base 0) ≡ 2 = ap slot_mark read ∙ get_or-set_same slot 2 2 0 (rw size (omega arith)) in
      rw here at (eq-eqb _ 2 mark)

  run_more : (k : ℕ) → 0 < k → k ≤ v.window.window_size → n ≡ v.window.send_base
      → marked_run 2 (mark_acknowledged v n).store v.window.window_size v.window.send_base k ≡ 1 + marked_run 2 v.store v.window.window_size (v.window.send_base + 1) (k - 1)
  unfolding marked_run
  run_more zero p l e = absurd (omega arith)
  run_more (suc k) p l e =
      let less : suc k - 1 ≡ k = omega arith in
      let rest = run_same 2 (mark_acknowledged v n).store v.store v.window.window_size (v.window.send_base + 1) k
      (λ i h. let shift : v.window.send_base + 1 + i ≡ v.window.send_base + (i + 1) = omega arith in
      rw shift (other_mark (i + 1) (omega arith) (λ f. omega arith))) in
      rw (base_marked e, rest, less) (omega arith)

  advance_is : acknowledged_run (mark_acknowledged v n) ≡ advance v n
  advance_is = by_number_lem (eqb n v.window.send_base) refl where
    by_number_lem : (b : Bool) → eqb n v.window.send_base ≡ b → acknowledged_run (mark_acknowledged v n) ≡ advance v n
    by_number_lem true e =
        let f = eqb-true n v.window.send_base e in
        rw e (run_more (outstanding v.window) (omega arith) s.few f)
    by_number_lem false e = rw e (stays (eqb-false n v.window.send_base e))

  pub acknowledge_base : (acknowledge_one v n).window.send_base ≡ base_after v n
  unfolding acknowledge_one release
  acknowledge_base = ap (λ (k : ℕ). v.window.send_base + k) advance_is

  -- base stays: the number is marked
  pub marked_only : advance v n ≡ 0 → mark_acknowledged v n ≡ acknowledge_one v n
  unfolding acknowledge_one
  marked_only e = sym (release_none (mark_acknowledged v n) (acknowledged_run (mark_acknowledged v n)) (advance_is ∙ e))

  -- base moves: what it passes is released
  at_base : (advance v n ≡ 0 → ⊥) → n ≡ v.window.send_base
  at_base ne = by_number_lem (eqb n v.window.send_base) refl where
    by_number_lem : (b : Bool) → eqb n v.window.send_base ≡ b → n ≡ v.window.send_base
    by_number_lem true e = eqb-true n v.window.send_base e
    by_number_lem false e = absurd (ne (rw e))

  pub released_only : (advance v n ≡ 0 → ⊥) → release v (v.window.send_base + advance v n) ≡ acknowledge_one v n
  unfolding acknowledge_one
  released_only ne =
      sym (ap (λ (k : ℕ). release (mark_acknowledged v n) (v.window.send_base + k)) advance_is
      ∙ ap (λ (m : ℕ). release (mark_acknowledged v m) (v.window.send_base + advance v n)) (at_base ne)
      ∙ release_marked v (advance v n) (omega arith))
