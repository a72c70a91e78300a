-- Laws of the scans for line 9: a window's slots are those from base's to the end of the store and those from its start on.
use Prim.Native.Nat.{ℕ, zero, suc, ◌+◌, ◌-◌, ◌%◌, ◌≤◌, ◌<◌, min}
use mathlib.Core.Path.{◌≡◌, refl, sym, ap, ◌∙◌}
use mathlib.Core.Bool.{Bool, true, false, cond, not, ◌||◌, ◌&&◌, or-true}
use mathlib.Core.List.{List}
use native.Mathlib.Omega.{arith}
use native.Mathlib.Nat.{mod-lt, mod-eq_of_lt, mod-add-mod, add-mod_right}
use borrow.Author.Tests.{ltb-true, ltb-false, lt-ltb, le-ltb, ne_eqb}
use lib.Dec.{ltb, eqb}
use Rattle.store.specs.Slot.{slot_at, slot_length, slot_mark}
use Rattle.store.specs.Sound.{any_below, is_filled, out_of_bounds, sender_slot_broken, receiver_slot_broken, slot_of, sender_test, receiver_test, sender_slots_broken, receiver_slots_broken}
use Rattle.store.specs.Scans.{slot_outside, slots_outside, part_broken}

or_false_right : (a : Bool) → (a || false) ≡ a
or_false_right true = refl
or_false_right false = refl

or_swap : (a b c : Bool) → (a || (b || c)) ≡ (b || (a || c))
or_swap true b c = sym (or-true b)
or_swap false b c = refl

or_assoc : (a b c : Bool) → (a || (b || c)) ≡ ((a || b) || c)
or_assoc true b c = refl
or_assoc false b c = refl

any_same : (n : ℕ) (a b : ℕ → Bool) → ((i : ℕ) → i < n → a i ≡ b i) → any_below n a ≡ any_below n b
unfolding any_below
any_same zero a b h = refl
any_same (suc n) a b h = rw (h n (omega arith), any_same n a b (λ i l. h i (omega arith)))

any_split : (m n : ℕ) (test : ℕ → Bool) → any_below (m + n) test ≡ (any_below m test || any_below n (λ i. test (m + i)))
unfolding any_below
any_split m zero test = let e : m + 0 ≡ m = omega arith in ap (λ (k : ℕ). any_below k test) e ∙ sym (or_false_right (any_below m test))
any_split m (suc n) test =
    let e : m + suc n ≡ suc (m + n) = omega arith in
    ap (λ (k : ℕ). any_below k test) e ∙ ap (λ (b : Bool). test (m + n) || b) (any_split m n test) ∙ or_swap (test (m + n)) (any_below m test) (any_below n (λ i. test (m + i)))

-- one test more at base
any_base : (n : ℕ) (a b : ℕ → Bool) (t : Bool) → 0 < n → a 0 ≡ (t || b 0) → ((i : ℕ) → 0 < i → a i ≡ b i) → any_below n a ≡ (t || any_below n b)
unfolding any_below
any_base zero a b t p e h = absurd (omega arith)
any_base (suc zero) a b t p e h = ap (λ (c : Bool). c || false) e ∙ sym (or_assoc t (b 0) false)
any_base (suc (suc n)) a b t p e h =
    ap (λ (c : Bool). c || any_below (suc n) a) (h (suc n) (omega arith)) ∙ ap (λ (c : Bool). b (suc n) || c) (any_base (suc n) a b t (omega arith) e h)
    ∙ or_swap (b (suc n)) t (any_below (suc n) b)

-- the window's slots in two parts
module _ (store : List ℕ) (w base : ℕ) (positive : 0 < w) where
  ahead_slot : (i : ℕ) → i < w - base % w → slot_of store w base i ≡ slot_at store (base % w + i)
  ahead_slot i h = ap (slot_at store) (sym (mod-add-mod base w i) ∙ mod-eq_of_lt (omega arith))

  behind_slot : (i : ℕ) → i < base % w → slot_of store w base (w - base % w + i) ≡ slot_at store i
  behind_slot i h =
      let l = mod-lt base positive in
      let e : base % w + (w - base % w + i) ≡ i + w = omega arith in
      let f : i < w = omega arith in
      ap (slot_at store) (sym (mod-add-mod base w (w - base % w + i)) ∙ ap (λ (n : ℕ). n % w) e ∙ add-mod_right i w ∙ mod-eq_of_lt f)

  ring_split : (test : ℕ → List ℕ → Bool)
      → any_below w (λ k. test k (slot_of store w base k)) ≡ (any_below (w - base % w) (λ i. test i (slot_at store (base % w + i))) || any_below (base % w) (λ i. test (w - base % w + i) (slot_at store i)))
  ring_split test =
      let l = mod-lt base positive in
      let e : w ≡ w - base % w + base % w = omega arith in
      ap (λ (n : ℕ). any_below n (λ k. test k (slot_of store w base k))) e ∙ any_split (w - base % w) (base % w) (λ k. test k (slot_of store w base k))
      ∙ rw (
        any_same (w - base % w) (λ k. test k (slot_of store w base k)) (λ i. test i (slot_at store (base % w + i))) (λ i h. ap (test i) (ahead_slot i h)),
        any_same (base % w) (λ i. test (w - base % w + i) (slot_of store w base (w - base % w + i))) (λ i. test (w - base % w + i) (slot_at store i)) (λ i h. ap (test (w - base % w + i)) (behind_slot i h)),
      )

-- a slot that is outstanding, empty, or a receiver's
held_outside : (x may : Bool) (m : ℕ) → (x || ltb 2 m || not (is_filled m) || (eqb m 2 && not may)) ≡ (x || ltb m 1 || ltb (cond may 2 1) m)
held_outside true may m = refl
held_outside false may zero = refl
held_outside false true (suc zero) = refl
held_outside false false (suc zero) = refl
held_outside false true (suc (suc zero)) = refl
held_outside false false (suc (suc zero)) = refl
held_outside false true (suc (suc (suc m))) = rw (lt-ltb 2 (suc (suc (suc m))) (omega arith), or-true)
held_outside false false (suc (suc (suc m))) = rw (lt-ltb 2 (suc (suc (suc m))) (omega arith), lt-ltb 1 (suc (suc (suc m))) (omega arith), or-true)

empty_outside : (x may : Bool) (m : ℕ) → (x || ltb 2 m || is_filled m || (eqb m 2 && not may)) ≡ (x || ltb m 0 || ltb 0 m)
empty_outside true may m = refl
empty_outside false may zero = refl
empty_outside false may (suc zero) = refl
empty_outside false may (suc (suc zero)) = refl
empty_outside false may (suc (suc (suc m))) = rw (lt-ltb 2 (suc (suc (suc m))) (omega arith), lt-ltb 0 (suc (suc (suc m))) (omega arith), or-true)

receiver_outside : (x : Bool) (m : ℕ) → (x || ltb 2 m || (false && is_filled m) || eqb m 2) ≡ (x || ltb m 0 || ltb 1 m)
receiver_outside true m = refl
receiver_outside false zero = refl
receiver_outside false (suc zero) = refl
receiver_outside false (suc (suc zero)) = refl
receiver_outside false (suc (suc (suc m))) = rw (lt-ltb 2 (suc (suc (suc m))) (omega arith), lt-ltb 1 (suc (suc (suc m))) (omega arith), or-true)

base_outside : (x : Bool) (m : ℕ) → (x || ltb 2 m || (true && is_filled m) || eqb m 2) ≡ (is_filled m || (x || ltb m 0 || ltb 1 m))
base_outside true m = sym (or-true (is_filled m))
base_outside false zero = refl
base_outside false (suc zero) = refl
base_outside false (suc (suc zero)) = refl
base_outside false (suc (suc (suc m))) = rw (lt-ltb 2 (suc (suc (suc m))) (omega arith), lt-ltb 1 (suc (suc (suc m))) (omega arith), or-true, or-true)

-- a part of a sender's slots: the outstanding ones, then the others
pub part_broken_lem : (may : Bool) (store : List ℕ) (from n count : ℕ)
    → (slots_outside 1 (cond may 2 1) store from (min count n) || slots_outside 0 0 store (from + min count n) (n - min count n)) ≡ part_broken may store from n count
unfolding slots_outside slot_outside part_broken sender_slot_broken
part_broken_lem may store from n count =
    let e : min count n + (n - min count n) ≡ n = omega arith in
    sym (ap (λ (k : ℕ). part_broken may store from k count) (sym e)
    ∙ any_split (min count n) (n - min count n) (λ i. sender_slot_broken (ltb i count) may (slot_length (slot_at store (from + i))) (slot_mark (slot_at store (from + i))))
    ∙ rw (
      any_same (min count n) (λ i. sender_slot_broken (ltb i count) may (slot_length (slot_at store (from + i))) (slot_mark (slot_at store (from + i)))) (λ i. slot_outside 1 (cond may 2 1) (slot_at store (from + i)))
          (λ i h. rw (lt-ltb i count (omega arith)) (held_outside (ltb 1400 (slot_length (slot_at store (from + i)))) may (slot_mark (slot_at store (from + i))))),
      any_same (n - min count n) (λ i. sender_slot_broken (ltb (min count n + i) count) may (slot_length (slot_at store (from + (min count n + i)))) (slot_mark (slot_at store (from + (min count n + i))))) (λ i. slot_outside 0 0 (slot_at store (from + min count n + i)))
          (λ i h. let f : from + (min count n + i) ≡ from + min count n + i = omega arith in
          rw (le-ltb (min count n + i) count (omega arith), f) (empty_outside (ltb 1400 (slot_length (slot_at store (from + min count n + i)))) may (slot_mark (slot_at store (from + min count n + i))))),
    ))

-- all of a sender's slots
shifted : (a i c : ℕ) → ltb (a + i) c ≡ ltb i (c - min c a)
shifted a i c = by_test_lem (ltb (a + i) c) refl where
  by_test_lem : (t : Bool) → ltb (a + i) c ≡ t → ltb (a + i) c ≡ ltb i (c - min c a)
  by_test_lem true e = let h = ltb-true (a + i) c e in e ∙ sym (lt-ltb i (c - min c a) (omega arith))
  by_test_lem false e = let h = ltb-false (a + i) c e in e ∙ sym (le-ltb i (c - min c a) (omega arith))

two_first : (x b c : Bool) → (x || (b && true)) ≡ (b || (x || (b && c)))
two_first true true c = refl
two_first true false c = refl
two_first false true c = refl
two_first false false c = refl

-- base's own mark must not be 2
base_two : (outstanding selective : Bool) (length mark : ℕ) → sender_slot_broken outstanding (selective && false) length mark ≡ (eqb mark 2 || sender_slot_broken outstanding selective length mark)
unfolding sender_slot_broken
base_two outstanding true length mark = two_first (out_of_bounds length mark || cond outstanding (not (is_filled mark)) (is_filled mark)) (eqb mark 2) false
base_two outstanding false length mark = two_first (out_of_bounds length mark || cond outstanding (not (is_filled mark)) (is_filled mark)) (eqb mark 2) true

and_true : (a : Bool) → (a && true) ≡ a
and_true true = refl
and_true false = refl

pub sender_scan : (selective : Bool) (store : List ℕ) (w base count : ℕ) → 0 < w
    → (eqb (slot_mark (slot_at store (base % w))) 2 || part_broken selective store (base % w) (w - base % w) count || part_broken selective store 0 (base % w) (count - min count (w - base % w)))
    ≡ sender_slots_broken selective store w base count
unfolding sender_slots_broken part_broken
sender_scan selective store w base count positive =
    let test : ℕ → List ℕ → Bool = λ k slot. sender_slot_broken (ltb k count) selective (slot_length slot) (slot_mark slot) in
    let behind = count - min count (w - base % w) in
    let here : base + 0 ≡ base = omega arith in
    sym (any_base w (sender_test selective store w base count) (λ k. test k (slot_of store w base k)) (eqb (slot_mark (slot_of store w base 0)) 2) positive
    (base_two (ltb 0 count) selective (slot_length (slot_of store w base 0)) (slot_mark (slot_of store w base 0)))
    (λ i h. rw (lt-ltb 0 i h, and_true selective))
    ∙ ap (λ (b : Bool). eqb (slot_mark (slot_of store w base 0)) 2 || b) (ring_split store w base positive test
    ∙ ap (λ (b : Bool). any_below (w - base % w) (λ i. test i (slot_at store (base % w + i))) || b)
    (any_same (base % w) (λ i. test (w - base % w + i) (slot_at store i)) (λ i. sender_slot_broken (ltb i behind) selective (slot_length (slot_at store (0 + i))) (slot_mark (slot_at store (0 + i))))
    (λ i h. let e : 0 + i ≡ i = omega arith in rw (shifted (w - base % w) i count, e))))
    ∙ or_assoc (eqb (slot_mark (slot_of store w base 0)) 2) (part_broken selective store (base % w) (w - base % w) count) (part_broken selective store 0 (base % w) behind)
    ∙ ap (λ (n : ℕ). eqb (slot_mark (slot_at store (n % w))) 2 || part_broken selective store (base % w) (w - base % w) count || part_broken selective store 0 (base % w) behind) here)

pub receiver_scan : (store : List ℕ) (w base : ℕ) → 0 < w
    → (is_filled (slot_mark (slot_at store (base % w))) || slots_outside 0 1 store (base % w) (w - base % w) || slots_outside 0 1 store 0 (base % w)) ≡ receiver_slots_broken store w base
unfolding receiver_slots_broken receiver_slot_broken slots_outside slot_outside
receiver_scan store w base positive =
    let test : ℕ → List ℕ → Bool = λ k slot. slot_outside 0 1 slot in
    let here : base + 0 ≡ base = omega arith in
    sym (any_base w (receiver_test store w base) (λ k. test k (slot_of store w base k)) (is_filled (slot_mark (slot_of store w base 0))) positive
    (base_outside (ltb 1400 (slot_length (slot_of store w base 0))) (slot_mark (slot_of store w base 0)))
    (λ i h. rw (ne_eqb i 0 (λ e. omega arith)) (receiver_outside (ltb 1400 (slot_length (slot_of store w base i))) (slot_mark (slot_of store w base i))))
    ∙ ap (λ (b : Bool). is_filled (slot_mark (slot_of store w base 0)) || b) (ring_split store w base positive test
    ∙ ap (λ (b : Bool). any_below (w - base % w) (λ i. test i (slot_at store (base % w + i))) || b)
    (any_same (base % w) (λ i. slot_outside 0 1 (slot_at store i)) (λ i. slot_outside 0 1 (slot_at store (0 + i))) (λ i h. let e : 0 + i ≡ i = omega arith in rw e)))
    ∙ or_assoc (is_filled (slot_mark (slot_of store w base 0))) (slots_outside 0 1 store (base % w) (w - base % w)) (slots_outside 0 1 store 0 (base % w))
    ∙ ap (λ (n : ℕ). is_filled (slot_mark (slot_at store (n % w))) || slots_outside 0 1 store (base % w) (w - base % w) || slots_outside 0 1 store 0 (base % w)) here)

-- the slots one by one
pub outside_none : (low high : ℕ) (store : List ℕ) (from : ℕ) → false ≡ slots_outside low high store from (from - from)
unfolding slots_outside any_below
outside_none low high store from = let e : from - from ≡ 0 = omega arith in rw e

pub outside_more : (low high : ℕ) (store : List ℕ) (from slot : ℕ) → from ≤ slot
    → (slot_outside low high (slot_at store slot) || slots_outside low high store from (slot - from)) ≡ slots_outside low high store from (slot + 1 - from)
unfolding slots_outside any_below
outside_more low high store from slot h =
    let e : slot + 1 - from ≡ suc (slot - from) = omega arith in
    let f : from + (slot - from) ≡ slot = omega arith in
    ap (λ (n : ℕ). slot_outside low high (slot_at store n) || slots_outside low high store from (slot - from)) (sym f) ∙ ap (slots_outside low high store from) (sym e)
