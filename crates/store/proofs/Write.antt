-- A slot filled and emptied as far as bytes other than 0 were in it.
use Prim.Native.Nat.{ℕ, ◌+◌, ◌-◌, ◌*◌, ◌≤◌, ◌<◌}
use mathlib.Core.Path.{◌≡◌, sym, ap, ◌∙◌}
use mathlib.Core.List.{List, ◌++◌, append_assoc}
use native.Mathlib.Omega.{arith}
use native.Mathlib.Nat.{add-sub_cancel_left}
use lib.ListN.{length, take, drop, replicate, length-append, length-drop, length-replicate, replicate-append-replicate, take-append-drop}
use lib.Seq.{take_at, drop_at, drop-drop, drop-append-le, length-take-le}
use Rattle.octets.proofs.Laws.{part_written}
use Rattle.store.specs.Slot.{SlotIn, slot_at, put_slot}
use Rattle.store.specs.Clean.{ZerosFrom}
use Rattle.store.proofs.Laws.{slot_length_lem}

-- ---- zeros
zeros_parted : (k n : ℕ) → k ≤ n → replicate {A = ℕ} n 0 ≡ replicate k 0 ++ replicate (n - k) 0
zeros_parted k n h = let e : n ≡ k + (n - k) = omega arith in ap (λ (i : ℕ). replicate i 0) e ∙ sym (replicate-append-replicate k (n - k) 0)

pub drop_zeros : (k n : ℕ) → k ≤ n → drop {A = ℕ} k (replicate n 0) ≡ replicate (n - k) 0
drop_zeros k n h = ap (drop k) (zeros_parted k n h) ∙ drop_at (replicate k 0) (replicate (n - k) 0) k (length-replicate {A = ℕ} k 0)

pub take_zeros : (k n : ℕ) → k ≤ n → take {A = ℕ} k (replicate n 0) ≡ replicate k 0
take_zeros k n h = ap (take k) (zeros_parted k n h) ∙ take_at (replicate k 0) (replicate (n - k) 0) k (length-replicate {A = ℕ} k 0)

pub zeros_later : (slot : List ℕ) (a b : ℕ) → a ≤ b → b ≤ 1404 → ZerosFrom a slot → ZerosFrom b slot
zeros_later slot a b h k z =
    let e : b ≡ a + (b - a) = omega arith in
    let f : 1404 - a - (b - a) ≡ 1404 - b = omega arith in
    ap (λ (i : ℕ). drop i slot) e ∙ sym (drop-drop (b - a) a slot) ∙ ap (drop (b - a)) z ∙ drop_zeros (b - a) (1404 - a) (omega arith) ∙ ap (λ (i : ℕ). replicate i 0) f

-- ---- filled: the head and the payload are written, the used bytes behind them cleared
module _ (head payload slot mid : List ℕ) (e : mid ≡ head ++ payload ++ drop (4 + length payload) slot) (h : length head ≡ 4) (s : length slot ≡ 1404) (p : length payload ≤ 1400) (used : ℕ) (z : ZerosFrom used slot) where
  front : length (head ++ payload) ≡ 4 + length payload
  front = simp (length-append, h)

  behind : drop (4 + length payload) mid ≡ drop (4 + length payload) slot
  behind = ap (drop (4 + length payload)) e ∙ drop_at (head ++ payload) (drop (4 + length payload) slot) (4 + length payload) front

  pub slot_covered : used ≤ 4 + length payload → mid ≡ head ++ payload ++ replicate (1400 - length payload) 0
  slot_covered u =
      let n : 1404 - (4 + length payload) ≡ 1400 - length payload = omega arith in
      e ∙ ap (λ (l : List ℕ). head ++ payload ++ l) (zeros_later slot used (4 + length payload) u (omega arith) z ∙ ap (λ (k : ℕ). replicate k 0) n)

  pub slot_written : (part : List ℕ) → 4 + length payload < used → used ≤ 1404 → part ≡ replicate (length (take (used - (4 + length payload)) (drop (4 + length payload) mid))) 0
      → take (4 + length payload) mid ++ (part ++ drop (used - (4 + length payload)) (drop (4 + length payload) mid)) ≡ head ++ payload ++ replicate (1400 - length payload) 0
  slot_written part u w f =
      let n = 4 + length payload in
      let back : n + (used - n) ≡ used = omega arith in
      let all : used - n + (1404 - used) ≡ 1400 - length payload = omega arith in
      let size : length (take (used - n) (drop n mid)) ≡ used - n = length-take-le (used - n) (drop n mid) (rw behind (simp length-drop (omega arith))) in
      let last : drop (used - n) (drop n mid) ≡ replicate (1404 - used) 0 = ap (drop (used - n)) behind ∙ drop-drop (used - n) n slot ∙ ap (λ (k : ℕ). drop k slot) back ∙ z in
      ap (λ (l : List ℕ). take n mid ++ (part ++ l)) last
      ∙ ap (λ (l : List ℕ). take n mid ++ (l ++ replicate (1404 - used) 0)) (f ∙ ap (λ (k : ℕ). replicate k 0) size)
      ∙ ap (λ (l : List ℕ). take n mid ++ l) (replicate-append-replicate (used - n) (1404 - used) 0 ∙ ap (λ (k : ℕ). replicate k 0) all)
      ∙ ap (λ (l : List ℕ). l ++ replicate (1400 - length payload) 0) (ap (take n) e ∙ take_at (head ++ payload) (drop n slot) n front)

-- ---- a slot as it is lent
pub lent_slot : (store : List ℕ) (j : ℕ) → take (j * 1404 + 1404 - j * 1404) (drop (j * 1404) store) ≡ slot_at store j
unfolding slot_at
lent_slot store j = rw (add-sub_cancel_left (j * 1404) 1404)

-- ---- emptied: the used bytes are cleared
module _ (store : List ℕ) (j : ℕ) (here : SlotIn store j) (used : ℕ) (w : used ≤ 1404) (z : ZerosFrom used (slot_at store j)) where
  behind_used : drop (j * 1404 + used) store ≡ replicate (1404 - used) 0 ++ drop (j * 1404 + 1404) store
  unfolding slot_at
  behind_used =
      sym (drop-drop used (j * 1404) store)
      ∙ ap (drop used) (sym (take-append-drop 1404 (drop (j * 1404) store)))
      ∙ drop-append-le used (slot_at store j) (drop 1404 (drop (j * 1404) store)) (rw (slot_length_lem store j here) w)
      ∙ ap (λ (l : List ℕ). l ++ drop 1404 (drop (j * 1404) store)) z
      ∙ ap (λ (l : List ℕ). replicate (1404 - used) 0 ++ l) (drop-drop 1404 (j * 1404) store)

  pub slot_emptied : (part : List ℕ) → part ≡ replicate (length (take (j * 1404 + used - j * 1404) (drop (j * 1404) store))) 0
      → take (j * 1404) store ++ (part ++ drop (j * 1404 + used - j * 1404) (drop (j * 1404) store)) ≡ put_slot store j (replicate 1404 0)
  unfolding put_slot
  slot_emptied part e =
      let size : length (take (j * 1404 + used - j * 1404) (drop (j * 1404) store)) ≡ used = rw (add-sub_cancel_left (j * 1404) used) (length-take-le used (drop (j * 1404) store) (simp length-drop (omega arith))) in
      let all : used + (1404 - used) ≡ 1404 = omega arith in
      part_written store part (replicate used 0) (j * 1404) used (e ∙ ap (λ (k : ℕ). replicate k 0) size)
      ∙ ap (λ (l : List ℕ). take (j * 1404) store ++ replicate used 0 ++ l) behind_used
      ∙ sym (append_assoc (take (j * 1404) store ++ replicate used 0) (replicate (1404 - used) 0) (drop (j * 1404 + 1404) store))
      ∙ ap (λ (l : List ℕ). l ++ drop (j * 1404 + 1404) store)
      (append_assoc (take (j * 1404) store) (replicate used 0) (replicate (1404 - used) 0) ∙ ap (λ (l : List ℕ). take (j * 1404) store ++ l) (replicate-append-replicate used (1404 - used) 0 ∙ ap (λ (k : ℕ). replicate k 0) all))
