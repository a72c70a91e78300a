-- Number n has slot n mod window: within a window the slots are distinct, and one turn on they are the same.
use Prim.Native.Nat.{ℕ, suc, ◌+◌, ◌-◌, ◌*◌, ◌/◌, ◌%◌, ◌≤◌, ◌<◌}
use mathlib.Core.Path.{◌≡◌, sym, ap, ◌∙◌}
use mathlib.Core.List.{List}
use mathlib.Core.Logic.{◌⊎◌, inl, inr}
use native.Mathlib.Nat.{mod-add-div', mul-le-mul_right, add-mod_right}
use native.Mathlib.Omega.{arith}
use native.Mathlib.Decide.{dec_lt}
use lib.ListN.{length, set}
use Rattle.store.specs.Slot.{slot_at, put_slot}
use Rattle.store.specs.Sound.{slot_of}
use Rattle.store.proofs.Laws.{slot_in, put_same, put_other, set_same, set_other}

-- two numbers less than a window apart
quotient_order : (w a b : ℕ) → a < b → b < a + w → a % w ≡ b % w → Dec (a / w < b / w) → ⊥
quotient_order w a b l k e (yes h) =
    let x = mod-add-div' a w in
    let y = mod-add-div' b w in
    let z : suc (a / w) * w ≤ b / w * w = mul-le-mul_right w h in
    omega arith
quotient_order w a b l k e (no h) =
    let x = mod-add-div' a w in
    let y = mod-add-div' b w in
    let h' : b / w ≤ a / w = omega arith in
    let z : b / w * w ≤ a / w * w = mul-le-mul_right w h' in
    omega arith

distinct : (w a b : ℕ) → a < b → b < a + w → a % w ≡ b % w → ⊥
distinct w a b l k e = quotient_order w a b l k e (dec_lt (a / w) (b / w))

pub slots_distinct : (w base i j : ℕ) → i < w → j < w → (i ≡ j → ⊥) → (base + i) % w ≡ (base + j) % w → ⊥
slots_distinct w base i j h k n e = elim (dec_lt i j) [
  | yes l ↦ distinct w (base + i) (base + j) (omega arith) (omega arith) e
  | no l ↦ distinct w (base + j) (base + i) (omega arith) (omega arith) (sym e)
]

pub one_side : (w base i j : ℕ) → i < w → j < w → (i ≡ j → ⊥) → ((base + i) % w < (base + j) % w) ⊎ ((base + j) % w < (base + i) % w)
one_side w base i j h k n = elim (dec_lt ((base + i) % w) ((base + j) % w)) [
  | yes l ↦ inl l
  | no l ↦ let d = slots_distinct w base i j h k n in inr (omega arith)
]

-- one turn of the window on
pub turn : (store : List ℕ) (w base k : ℕ) → slot_of store w base (k + w) ≡ slot_of store w base k
turn store w base k = let e : base + (k + w) ≡ base + k + w = omega arith in ap (slot_at store) (ap (λ (n : ℕ). n % w) e ∙ add-mod_right (base + k) w)

-- counted from a base that is j higher
pub higher_base : (store : List ℕ) (w base j k : ℕ) → slot_of store w (base + j) k ≡ slot_of store w base (j + k)
higher_base store w base j k = let e : base + j + k ≡ base + (j + k) = omega arith in ap (λ (n : ℕ). slot_at store (n % w)) e

-- the slot of base + j written over, or a byte of it set: read again, and another slot of the window read
module _ (store : List ℕ) (w base j : ℕ) (positive : 0 < w) (room : w * 1404 ≤ length store) where
  pub put_read : (slot : List ℕ) → length slot ≡ 1404 → slot_of (put_slot store ((base + j) % w) slot) w base j ≡ slot
  put_read slot size = put_same store ((base + j) % w) slot (slot_in store (base + j) w positive room) size

  pub put_read_other : (slot : List ℕ) → length slot ≡ 1404 → (i : ℕ) → i < w → j < w → (i ≡ j → ⊥) → slot_of (put_slot store ((base + j) % w) slot) w base i ≡ slot_of store w base i
  put_read_other slot size i h k n =
      put_other store ((base + j) % w) slot (slot_in store (base + j) w positive room) size ((base + i) % w) (slot_in store (base + i) w positive room) (one_side w base i j h k n)

  pub set_read : (i v : ℕ) → i < 1404 → slot_of (set store ((base + j) % w * 1404 + i) v) w base j ≡ set (slot_of store w base j) i v
  set_read i v h = set_same store ((base + j) % w) i v h

  pub set_read_other : (b v : ℕ) → b < 1404 → (i : ℕ) → i < w → j < w → (i ≡ j → ⊥) → slot_of (set store ((base + j) % w * 1404 + b) v) w base i ≡ slot_of store w base i
  set_read_other b v l i h k n = set_other store ((base + j) % w) b v ((base + i) % w) (slot_in store (base + i) w positive room) l (one_side w base i j h k n)

-- a byte set in the slot of number n, of the window from base on
module _ (store : List ℕ) (w base n : ℕ) (positive : 0 < w) (room : w * 1404 ≤ length store) (from : base ≤ n) (below : n < base + w) where
  number : base + (n - base) ≡ n
  number = omega arith

  pub set_number : (b v : ℕ) → b < 1404 → slot_of (set store (n % w * 1404 + b) v) w base (n - base) ≡ set (slot_of store w base (n - base)) b v
  set_number b v l = ap (λ (m : ℕ). slot_of (set store (m % w * 1404 + b) v) w base (n - base)) (sym number) ∙ set_read store w base (n - base) positive room b v l

  pub set_number_other : (b v : ℕ) → b < 1404 → (i : ℕ) → i < w → (i ≡ n - base → ⊥) → slot_of (set store (n % w * 1404 + b) v) w base i ≡ slot_of store w base i
  set_number_other b v l i h ne =
      ap (λ (m : ℕ). slot_of (set store (m % w * 1404 + b) v) w base i) (sym number) ∙ set_read_other store w base (n - base) positive room b v l i h (omega arith) ne
