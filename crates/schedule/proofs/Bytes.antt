-- The bytes of a place after another place, or the same one, was written.
use mathlib.Core.Path.{◌≡◌, refl, sym, ◌∙◌, ap}
use Prim.Native.Nat.{ℕ, zero, suc, ◌<◌, ◌≤◌, ◌+◌, ◌-◌, ◌*◌, ◌/◌}
use native.Mathlib.Omega.{arith}
use native.Mathlib.Nat.{suc-add, zero-add}
use mathlib.Core.Bool.{Bool, true, false}
use mathlib.Core.List.{List, [], ◌∷◌, ◌++◌, append_assoc, map}
use lib.ListN.{length, take, drop, replicate, length-append, length-drop}
use lib.Seq.{length-take-le, take_at, drop_at, drop-drop, take-take, take-append-le, drop-append-le, take-nil}
use lib.Dec.{eqb, ltb}
use borrow.Author.Tests.{eqb-false, ltb-true, ltb-false}
use Rattle.refusal.proofs.Laws.{or_false}
use Rattle.schedule.specs.Record.{time_of, order_of, record_length, place_of, place_in}
use Rattle.schedule.specs.State.{broken_from}
use Rattle.schedule.specs.Schedule.{placed, place_bytes, bytes_of}
use Rattle.schedule.specs.Waiting.{WaitingCopy, waiting_copy}
use Rattle.schedule.proofs.Sound.{fine, place_cons}
use Rattle.schedule.proofs.Memory.{length_filled, place_within}

drop_take : (a k : ℕ) (l : List ℕ) → drop a (take (a + k) l) ≡ take k (drop a l)
drop_take zero k l = ap (λ (n : ℕ). take n l) (zero-add k)
drop_take (suc a) k [] = ap (drop (suc a)) (take-nil (suc a + k)) ∙ sym (take-nil k)
drop_take (suc a) k (x ∷ l) = ap (λ (n : ℕ). drop (suc a) (take n (x ∷ l))) (suc-add a k) ∙ drop_take a k l

module _ (ps : List ℕ) (p : ℕ) (bytes : List ℕ) (inside : p * 1410 + 1410 ≤ length ps) (size : length bytes ≡ 1410) where
  front_size : length (take (p * 1410) ps) ≡ p * 1410
  front_size = length-take-le (p * 1410) ps (omega arith)

  in_two : placed ps p bytes ≡ take (p * 1410) ps ++ (bytes ++ drop (p * 1410 + 1410) ps)
  in_two = append_assoc (take (p * 1410) ps) bytes (drop (p * 1410 + 1410) ps)

  -- the place that was written
  pub same_place : (n : ℕ) → n ≤ 1410 → take n (drop (p * 1410) (placed ps p bytes)) ≡ take n bytes
  same_place n h =
      ap (λ (xs : List ℕ). take n (drop (p * 1410) xs)) in_two
      ∙ ap (take n) (drop_at (take (p * 1410) ps) (bytes ++ drop (p * 1410 + 1410) ps) (p * 1410) front_size)
      ∙ take-append-le n bytes (drop (p * 1410 + 1410) ps) (omega arith)

  below : (q n : ℕ) → q < p → n ≤ 1410 → take n (drop (q * 1410) (placed ps p bytes)) ≡ take n (drop (q * 1410) ps)
  below q n h k =
      let b = q * 1410 in
      let w : b + (p * 1410 - b) ≡ p * 1410 = omega arith in
      let f = front_size in
      let d : drop b (take (p * 1410) ps) ≡ take (p * 1410 - b) (drop b ps) = ap (λ (x : ℕ). drop b (take x ps)) (sym w) ∙ drop_take b (p * 1410 - b) ps in
      let z : length (drop b (take (p * 1410) ps)) ≡ p * 1410 - b = length-drop b (take (p * 1410) ps) ∙ ap (λ (x : ℕ). x - b) f in
      ap (λ (xs : List ℕ). take n (drop b xs)) in_two
      ∙ ap (take n) (drop-append-le b (take (p * 1410) ps) (bytes ++ drop (p * 1410 + 1410) ps) (omega arith))
      ∙ take-append-le n (drop b (take (p * 1410) ps)) (bytes ++ drop (p * 1410 + 1410) ps) (omega arith)
      ∙ ap (take n) d ∙ take-take n (p * 1410 - b) (drop b ps) (omega arith)

  above : (q n : ℕ) → p < q → take n (drop (q * 1410) (placed ps p bytes)) ≡ take n (drop (q * 1410) ps)
  above q n h =
      let a = p * 1410 + 1410 in
      let w : a + (q * 1410 - a) ≡ q * 1410 = omega arith in
      let s : length (take (p * 1410) ps ++ bytes) ≡ a = length-append (take (p * 1410) ps) bytes ∙ ap (λ (x : ℕ). x + length bytes) front_size ∙ ap (λ (x : ℕ). p * 1410 + x) size in
      ap (take n)
      (ap (λ (x : ℕ). drop x (placed ps p bytes)) (sym w) ∙ sym (drop-drop (q * 1410 - a) a (placed ps p bytes))
      ∙ ap (drop (q * 1410 - a)) (drop_at (take (p * 1410) ps ++ bytes) (drop a ps) a s)
      ∙ drop-drop (q * 1410 - a) a ps ∙ ap (λ (x : ℕ). drop x ps) w)

  -- another place
  pub other_place : (q n : ℕ) → (p ≡ q → ⊥) → n ≤ 1410 → take n (drop (q * 1410) (placed ps p bytes)) ≡ take n (drop (q * 1410) ps)
  other_place q n h k = go (ltb q p) refl
    where
      go : (t : Bool) → ltb q p ≡ t → take n (drop (q * 1410) (placed ps p bytes)) ≡ take n (drop (q * 1410) ps)
      go true e = below q n (ltb-true q p e) k
      go false e = let l = ltb-false q p e in above q n (omega arith)

  -- the copies of records that have other places
  pub other_copies : (next n : ℕ) (front : List ℕ) (rs : List (List ℕ)) → broken_from next n front rs ≡ false → place_in p rs ≡ false → map (waiting_copy (placed ps p bytes)) rs ≡ map (waiting_copy ps) rs
  other_copies next n front [] h k = refl
  other_copies next n front (r ∷ rs) h k =
      let f = fine next n front r rs h in
      let apart = sym (place_cons p r rs) ∙ k in
      let b : bytes_of (placed ps p bytes) r ≡ bytes_of ps r = other_place (place_of r) (record_length r) (eqb-false p (place_of r) (or_false (eqb p (place_of r)) (place_in p rs) apart).0) f.short in
      ap (λ (xs : List ℕ). record { time = time_of r; order = order_of r; bytes = xs } ∷ map (waiting_copy (placed ps p bytes)) rs) b
      ∙ ap (λ (cs : List WaitingCopy). waiting_copy ps r ∷ cs) (other_copies next n r rs f.rest (or_false (eqb p (place_of r)) (place_in p rs) apart).1)

-- the packet that a place was filled with
pub filled_bytes : (ps : List ℕ) (p : ℕ) (packet : List ℕ) → p * 1410 + 1410 ≤ length ps → length packet ≤ 1410 → take (length packet) (drop (p * 1410) (placed ps p (place_bytes packet))) ≡ packet
filled_bytes ps p packet h k = same_place ps p (place_bytes packet) h (length_filled packet k) (length packet) k ∙ take_at packet (replicate (1410 - length packet) 0) (length packet) refl

pub bytes_length : (ps r : List ℕ) → record_length r ≤ 1410 → place_of r < length ps / 1410 → length (bytes_of ps r) ≡ record_length r
bytes_length ps r h k = let w = place_within (length ps) (place_of r) k in length-take-le (record_length r) (drop (place_of r * 1410) ps) (rw length-drop (omega arith))
