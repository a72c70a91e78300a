-- Laws of the slots of a window, read one after another.
use Prim.Native.Nat.{ℕ, zero, suc, ◌+◌, ◌%◌, ◌<◌}
use mathlib.Core.Path.{◌≡◌, refl, sym, ap, ◌∙◌}
use mathlib.Core.List.{List, [], ◌∷◌, map}
use native.Mathlib.Omega.{arith}
use lib.ListN.{length, get_or}
use lib.Seq.{ext_get_or}
use Rattle.protocol.specs.Runs.{up_from}
use Rattle.store.specs.Slot.{slot_at}
use Rattle.store.specs.Sound.{slot_of}
use Rattle.refinement.specs.Follows.{slots_read}

module _ {A : Type 0} where
  map_length : (f : ℕ → A) (n k : ℕ) → length (map f (up_from n k)) ≡ k
  map_length f n zero = refl
  map_length f n (suc k) = ap suc (map_length f (suc n) k)

  map_at : (f : ℕ → A) (d : A) (n k i : ℕ) → i < k → get_or (map f (up_from n k)) i d ≡ f (n + i)
  map_at f d n zero i h = absurd (omega arith)
  map_at f d n (suc k) zero h = let e : n + 0 ≡ n = omega arith in sym (ap f e)
  map_at f d n (suc k) (suc i) h = let e : suc n + i ≡ n + suc i = omega arith in map_at f d (suc n) k i (omega arith) ∙ ap f e

  pub read_length : (reading : List ℕ → A) (store : List ℕ) (w base count : ℕ) → length (slots_read reading store w base count) ≡ count
  unfolding slots_read
  read_length reading store w base count = map_length _ 0 count

  pub read_at : (reading : List ℕ → A) (store : List ℕ) (w base count : ℕ) (d : A) (i : ℕ) → i < count → get_or (slots_read reading store w base count) i d ≡ reading (slot_of store w base i)
  unfolding slots_read
  read_at reading store w base count d i h =
      let e : 0 + i ≡ i = omega arith in
      map_at (λ (k : ℕ). reading (slot_of store w base k)) d 0 count i h ∙ ap (λ (k : ℕ). reading (slot_of store w base k)) e

  -- a list is what the slots hold when its elements are
  pub read_is : (reading : List ℕ → A) (store : List ℕ) (w base count : ℕ) (d : A) (l : List A) → length l ≡ count
      → ((i : ℕ) → i < count → reading (slot_of store w base i) ≡ get_or l i d) → slots_read reading store w base count ≡ l
  read_is reading store w base count d l n h =
      ext_get_or d (slots_read reading store w base count) l (read_length reading store w base count ∙ sym n)
      (λ i k. let k' : i < count = rw (read_length reading store w base count) at k in read_at reading store w base count d i k' ∙ h i k')

  -- the first slot, and those after it
  pub read_first : (reading : List ℕ → A) (store : List ℕ) (w n k : ℕ) → slots_read reading store w n (suc k) ≡ reading (slot_at store (n % w)) ∷ slots_read reading store w (n + 1) k
  read_first reading store w n k =
      read_is reading store w n (suc k) (reading []) (reading (slot_at store (n % w)) ∷ slots_read reading store w (n + 1) k) (ap suc (read_length reading store w (n + 1) k)) by_index
    where
      by_index : (i : ℕ) → i < suc k → reading (slot_of store w n i) ≡ get_or (reading (slot_at store (n % w)) ∷ slots_read reading store w (n + 1) k) i (reading [])
      by_index zero h = let e : n + 0 ≡ n = omega arith in ap (λ (m : ℕ). reading (slot_at store (m % w))) e
      by_index (suc i) h =
          let e : n + suc i ≡ n + 1 + i = omega arith in
          ap (λ (m : ℕ). reading (slot_at store (m % w))) e ∙ sym (read_at reading store w (n + 1) k (reading []) i (omega arith))
