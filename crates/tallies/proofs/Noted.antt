-- The slots of a Selective Repeat receiver and the numbers noted: after base is delivered, and after one more number is held.
use Prim.Native.Nat.{ℕ, ◌+◌, ◌-◌, ◌*◌, ◌%◌, ◌≤◌, ◌<◌}
use mathlib.Core.Path.{◌≡◌, refl, sym, ap, ◌∙◌}
use mathlib.Core.Bool.{Bool, false}
use mathlib.Core.List.{List, [], ◌++◌}
use native.Mathlib.Nat.{mod-lt}
use native.Mathlib.Omega.{arith}
use native.Mathlib.Decide.{ℕ_discrete, dec_lt}
use borrow.Author.Tests.{eq-eqb}
use lib.ListN.{length, get_or, drop, replicate, length-replicate, get_or-replicate, get_or-append}
use lib.Dec.{eqb}
use Rattle.protocol.specs.Runs.{lead}
use Rattle.protocol.specs.PlainMachine.{note}
use Rattle.protocol.proofs.Marks.{On, lead_below, lead_stop, lead_least, lead_reaches, lead_mono, note_same, note_other, on_note}
use Rattle.store.specs.Slot.{slot_at, slot_mark, slot_bytes, fill_slot}
use Rattle.store.specs.Sound.{slot_of}
use Rattle.store.specs.Numbers.{marked, marked_run}
use Rattle.store.proofs.Laws.{slot_byte, filled_mark, run_within}
use Rattle.window.specs.Slots.{empty_from}
use Rattle.refinement.proofs.Writes.{filled_same, filled_other, released_kept, released_empty}
use Rattle.refinement.proofs.Good.{zeros_mark}
use Rattle.refinement.proofs.MarkedRuns.{run_at, run_stops}
use Rattle.refinement.proofs.Held.{slot_broken, base_mark, wrapped}

-- above the lowest number not noted, a slot's number is held exactly when it is noted; none is noted from there on
pub record Slots (w : ℕ) (marks : List Bool) (store : List ℕ) : Type 0 where
  pub held : (n : ℕ) → lead marks < n → n < lead marks + w → marked 1 store w n ≡ get_or marks n false
  pub none_above : (n : ℕ) → lead marks + w ≤ n → get_or marks n false ≡ false

-- a number as base and a distance
at_distance : (store : List ℕ) (w base n : ℕ) → base ≤ n → eqb (slot_mark (slot_of store w base (n - base))) 1 ≡ marked 1 store w n
at_distance store w base n h = let e : base + (n - base) ≡ n = omega arith in ap (λ (m : ℕ). marked 1 store w m) e

is_mark : (slot : List ℕ) (m : ℕ) → slot_mark slot ≡ m → eqb (slot_mark slot) 1 ≡ eqb m 1
is_mark slot m e = ap (λ (x : ℕ). eqb x 1) e

-- all slots empty
pub fresh_slots : (w : ℕ) (store : List ℕ) → Slots w [] (replicate (w * 1404) 0 ++ drop (w * 1404) store)
fresh_slots w store = record { held = λ n l h. is_mark (slot_at (replicate (w * 1404) 0 ++ drop (w * 1404) store) (n % w)) 0 (zero_mark n (omega arith)); none_above = λ n h. refl }
  where
    zero_mark : (n : ℕ) → 0 < w → slot_mark (slot_at (replicate (w * 1404) 0 ++ drop (w * 1404) store) (n % w)) ≡ 0
    zero_mark n p =
        let few = mod-lt n p in
        let size = length-replicate {A = ℕ} (w * 1404) 0 in
        let low : n % w * 1404 + 2 < w * 1404 = omega arith in
        slot_byte (replicate (w * 1404) 0 ++ drop (w * 1404) store) (n % w) 2 (omega arith)
        ∙ get_or-append (replicate (w * 1404) 0) (drop (w * 1404) store) 0 (n % w * 1404 + 2) (rw size low)
        ∙ get_or-replicate {A = ℕ} (w * 1404) (n % w * 1404 + 2) 0 0 low

module _ (w : ℕ) (marks : List Bool) (store : List ℕ) (positive : 0 < w) (room : w * 1404 ≤ length store)
    (sound : (k : ℕ) → k < w → slot_broken (eqb k 0) (slot_of store w (lead marks) k) ≡ false) (slots : Slots w marks store) where
  -- ---- base delivered, and what is held after it
  abbrev b : ℕ
  b = lead marks

  -- how many are held after base
  abbrev k : ℕ
  k = marked_run 1 store w (b + 1) (w - 1)

  few : k ≤ w - 1
  few = run_within 1 store w (b + 1) (w - 1)

  run_noted : (i : ℕ) → i < k → On marks (b + 1 + i)
  run_noted i h =
      let f = few in
      sym (slots.held (b + 1 + i) (omega arith) (omega arith))
      ∙ eq-eqb (slot_mark (slot_of store w (b + 1) i)) 1 (run_at 1 store w (b + 1) (w - 1) i h)

  next_not_noted : get_or marks (b + 1 + k) false ≡ false
  next_not_noted = elim (dec_lt k (w - 1)) [
    | yes l ↦ sym (slots.held (b + 1 + k) (omega arith) (omega arith)) ∙ run_stops 1 store w (b + 1) (w - 1) l
    | no l ↦ let f = few in slots.none_above (b + 1 + k) (omega arith)
  ]

  pub base_delivered : lead (note marks b) ≡ b + 1 + k
  base_delivered =
      let most : lead (note marks b) ≤ b + 1 + k = lead_least (note marks b) (b + 1 + k) (note_other marks b (b + 1 + k) (λ e. omega arith) ∙ next_not_noted) in
      let least : b + 1 + k ≤ lead (note marks b) = lead_reaches (note marks b) (b + 1 + k) each in
      omega arith
    where
      each : (i : ℕ) → i < b + 1 + k → On (note marks b) i
      each i h = elim (dec_lt i b) [
        | yes l ↦ on_note marks b i (lead_below marks i l)
        | no l ↦ elim (ℕ_discrete i b) [
          | yes e ↦ rw e (note_same marks b)
          | no e ↦ let f : b + 1 + (i - (b + 1)) ≡ i = omega arith in
              on_note marks b i (rw f at (run_noted (i - (b + 1)) (omega arith)))
        ]
      ]

  -- a slot of the window after it: one after base, base's, or one that was emptied
  later_slot : (i : ℕ) → i < w → eqb (slot_mark (slot_of (empty_from store w (b + 1) k) w (b + 1 + k) i)) 1
      ≡ get_or marks (b + 1 + k + i) false
  later_slot i h =
      let f = few in
      elim (dec_lt (k + i) w) [
        | yes l ↦ ap (λ (s : List ℕ). eqb (slot_mark s) 1) (released_kept w positive store (b + 1) k i room l) ∙ kept i l
        | no l ↦ is_mark (slot_of (empty_from store w (b + 1) k) w (b + 1 + k) i) 0 (ap slot_mark (released_empty w positive store (b + 1) k i room (omega arith) h (omega arith)) ∙ zeros_mark) ∙ sym (slots.none_above (b + 1 + k + i) (omega arith))
      ]
    where
      kept : (i : ℕ) → k + i < w → eqb (slot_mark (slot_of store w (b + 1) (k + i))) 1 ≡ get_or marks (b + 1 + k + i) false
      kept i l = elim (dec_lt (1 + (k + i)) w) [
        | yes m ↦ let e : b + 1 + (k + i) ≡ b + 1 + k + i = omega arith in
            ap (λ (n : ℕ). marked 1 store w n) e ∙ slots.held (b + 1 + k + i) (omega arith) (omega arith)
        | no m ↦ let e : k + i ≡ w - 1 = omega arith in
            is_mark (slot_of store w (b + 1) (k + i)) 0 (ap slot_mark (ap (slot_of store w (b + 1)) e ∙ wrapped store w b positive room sound) ∙ base_mark store w b positive room sound)
            ∙ sym (slots.none_above (b + 1 + k + i) (omega arith))
      ]

  pub delivered_slots : Slots w (note marks b) (empty_from store w (b + 1) k)
  delivered_slots =
      let to = base_delivered in
      record {
        held = λ n l h.
            let e : b + 1 + k + (n - (b + 1 + k)) ≡ n = omega arith in
            sym (at_distance (empty_from store w (b + 1) k) w (b + 1 + k) n (omega arith)) ∙ later_slot (n - (b + 1 + k)) (omega arith) ∙ ap (λ (m : ℕ). get_or marks m false) e
            ∙ sym (note_other marks b n (λ f. omega arith));
        none_above = λ n h. note_other marks b n (λ f. omega arith) ∙ slots.none_above n (omega arith);
      }

  -- ---- one more number held
  module _ (n : ℕ) (payload : List ℕ) (above : b < n) (within : n < b + w) (short : length payload ≤ 1400) where
    pub base_kept : lead (note marks n) ≡ b
    base_kept =
        let most : lead (note marks n) ≤ b = lead_least (note marks n) b (note_other marks n b (λ e. omega arith) ∙ lead_stop marks) in
        let least : b ≤ lead (note marks n) = lead_mono marks (note marks n) (λ i e. on_note marks n i e) in
        omega arith

    held_at : (m : ℕ) → b < m → m < b + w → Dec (m ≡ n) → marked 1 (fill_slot store (n % w) payload 1 0) w m ≡ get_or (note marks n) m false
    held_at m l h (yes f) =
        let e : b + (n - b) ≡ n = omega arith in
        let same : slot_at (fill_slot store (n % w) payload 1 0) (n % w) ≡ slot_bytes payload 1 0 = rw e at (filled_same store w b (n - b) payload 1 positive room short) in
        rw f (is_mark (slot_at (fill_slot store (n % w) payload 1 0) (n % w)) 1 (ap slot_mark same ∙ filled_mark payload 1 0) ∙ sym (note_same marks n))
    held_at m l h (no f) =
        let e : b + (n - b) ≡ n = omega arith in
        let g : b + (m - b) ≡ m = omega arith in
        let other : slot_at (fill_slot store (n % w) payload 1 0) (m % w) ≡ slot_at store (m % w) = rw (e, g) at (filled_other store w b (n - b) payload 1 positive room short (m - b) (omega arith) (omega arith) (λ q. omega arith)) in
        ap (λ (s : List ℕ). eqb (slot_mark s) 1) other ∙ slots.held m l h ∙ sym (note_other marks n m f)

    pub held_slots : Slots w (note marks n) (fill_slot store (n % w) payload 1 0)
    held_slots =
        let to = base_kept in
        record {
          held = λ m l h. held_at m (omega arith) (omega arith) (ℕ_discrete m n);
          none_above = λ m h. note_other marks n m (λ e. omega arith) ∙ slots.none_above m (omega arith);
        }
