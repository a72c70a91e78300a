-- Lists: what the loops that move elements down or up by one have made after i turns.
use mathlib.Core.Path.{◌≡◌, refl, sym, ◌∙◌, ap}
use Prim.Native.Nat.{ℕ, zero, suc, ◌<◌, ◌≤◌, ◌+◌, ◌-◌}
use native.Mathlib.Omega.{arith}
use native.Mathlib.Numerals.{add-one}
use native.Mathlib.Nat.{le_refl, add_comm, add-sub_cancel_left, sub-zero, suc-sub-suc, suc-add}
use mathlib.Core.List.{List, [], ◌∷◌, ◌++◌, append_assoc}
use lib.ListN.{length, set, get_or, take, drop, replicate, length-append, length-drop, drop_of_length-le, take-append-drop, get_or-append}
use lib.Seq.{take-suc, drop-cons, set_at, length-take-le, append_snoc, get_or-append-add, get_or-drop, take_at, drop_at, get_or-take}
use Rattle.octets.proofs.Laws.{tail_is, tail_back}
use Rattle.schedule.specs.Internal.{raised}
use borrow.Rule.Slice.PartMut.{mid_of, post_of, put_mid, Post-is, mid_len}

module _ {A : Type 0} where
  -- the first i from one place up
  abbrev pub shifted : ℕ → List A → List A
  shifted i l = take i (drop 1 l) ++ drop i l

  shift_front : (i : ℕ) (l : List A) → i < length l → length (take i (drop 1 l)) ≡ i
  shift_front i l h = length-take-le i (drop 1 l) (rw length-drop (omega arith))

  pub shift_read : (d : A) (i : ℕ) (l : List A) → i < length l → get_or (shifted i l) (i + 1) d ≡ get_or l (i + 1) d
  shift_read d i l h =
      ap (λ (n : ℕ). get_or (shifted i l) (n + 1) d) (sym (shift_front i l h))
      ∙ get_or-append-add (take i (drop 1 l)) (drop i l) 1 d ∙ get_or-drop i l 1 d

  pub shift_more : (d : A) (i : ℕ) (l : List A) → i + 1 < length l → set (shifted i l) i (get_or l (i + 1) d) ≡ shifted (i + 1) l
  shift_more d i l h =
      ap (λ (xs : List A). set (take i (drop 1 l) ++ xs) i x) (drop-cons l i d (omega arith))
      ∙ set_at (take i (drop 1 l)) (get_or l i d) (drop (suc i) l) x i (shift_front i l (omega arith))
      ∙ sym (append_snoc (take i (drop 1 l)) x (drop (suc i) l))
      ∙ ap (λ (y : A). take i (drop 1 l) ++ (y ∷ []) ++ drop (suc i) l) (sym (get_or-drop 1 l i d ∙ ap (λ (k : ℕ). get_or l k d) (add_comm 1 i)))
      ∙ ap (λ (xs : List A). xs ++ drop (suc i) l) (sym (take-suc (drop 1 l) i d (rw length-drop (omega arith))))
      ∙ ap (λ (k : ℕ). shifted k l) (sym (add-one i))
    where
      x : A
      x = get_or l (i + 1) d

  pub shift_last : (v d : A) (n : ℕ) (l : List A) → 0 < n → n ≤ length l → set (shifted (n - 1) l) (n - 1) v ≡ drop 1 (take n l) ++ v ∷ drop n l
  shift_last v d zero l p h = absurd (omega arith)
  shift_last v d (suc j) l p h =
      let e : suc j - 1 ≡ j = omega arith in
      ap (λ (k : ℕ). set (shifted k l) k v) e
      ∙ ap (λ (xs : List A). set (take j (drop 1 l) ++ xs) j v) (drop-cons l j d (omega arith))
      ∙ set_at (take j (drop 1 l)) (get_or l j d) (drop (suc j) l) v j (shift_front j l (omega arith))
      ∙ ap (λ (xs : List A). xs ++ v ∷ drop (suc j) l) (part l)
    where
      part : (l : List A) → take j (drop 1 l) ≡ drop 1 (take (suc j) l)
      part [] = take_nil j
        where
          take_nil : (j : ℕ) → ◌≡◌ {A = List A} (take j []) []
          take_nil zero = refl
          take_nil (suc j) = refl
      part (x ∷ xs) = refl

  -- the records from i up to n
  pub rest_cons : (d : A) (n i : ℕ) (l : List A) → i < n → n ≤ length l → drop i (take n l) ≡ get_or l i d ∷ drop (i + 1) (take n l)
  rest_cons d n i l h k =
      drop-cons (take n l) i d (rw length-take-le (omega arith))
      ∙ ap (λ (x : A). x ∷ drop (suc i) (take n l)) (get_or-take n l i d h)
      ∙ ap (λ (m : ℕ). get_or l i d ∷ drop m (take n l)) (sym (add-one i))

  pub rest_none : (n i : ℕ) (l : List A) → n ≤ i → n ≤ length l → drop i (take n l) ≡ []
  rest_none n i l h k = drop_of_length-le (take n l) {i = i} (rw length-take-le h)

  -- ---- the loop that moves those from i up to n up by one
  pub raise_none : (n : ℕ) (l : List A) → n ≤ length l → l ≡ raised n n l
  raise_none n l h = sym (ap (λ (xs : List A). take (n + 1) l ++ (xs ++ drop (n + 1) l)) (rest_none n n l (le_refl n) h) ∙ take-append-drop (n + 1) l)

  -- the i-th and what stands above it
  raise_split : (d : A) (n i : ℕ) (l : List A) → i < length l → raised n i l ≡ take i l ++ get_or l i d ∷ (drop i (take n l) ++ drop (n + 1) l)
  raise_split d n i l h =
      let e : take (i + 1) l ≡ take i l ++ get_or l i d ∷ [] = ap (λ (k : ℕ). take k l) (add-one i) ∙ take-suc l i d h in
      ap (λ (xs : List A). xs ++ (drop i (take n l) ++ drop (n + 1) l)) e ∙ append_snoc (take i l) (get_or l i d) (drop i (take n l) ++ drop (n + 1) l)

  raise_set : (d v : A) (n i : ℕ) (l : List A) → i < length l → set (raised n i l) i v ≡ take i l ++ v ∷ (drop i (take n l) ++ drop (n + 1) l)
  raise_set d v n i l h = ap (λ (xs : List A). set xs i v) (raise_split d n i l h) ∙ set_at (take i l) (get_or l i d) (drop i (take n l) ++ drop (n + 1) l) v i (length-take-le i l (omega arith))

  pub raise_more : (d : A) (n i : ℕ) (l : List A) → 0 < i → i ≤ n → n < length l → set (raised n i l) i (get_or (raised n i l) (i - 1) d) ≡ raised n (i - 1) l
  raise_more d n zero l p h k = absurd (omega arith)
  raise_more d n (suc j) l p h k =
      let e : suc j - 1 ≡ j = omega arith in
      let f : length (take (suc j) l) ≡ suc j = length-take-le (suc j) l (omega arith) in
      let read : get_or (raised n (suc j) l) j d ≡ get_or l j d =
      ap (λ (xs : List A). get_or xs j d) (raise_split d n (suc j) l (omega arith))
      ∙ get_or-append (take (suc j) l) (get_or l (suc j) d ∷ (drop (suc j) (take n l) ++ drop (n + 1) l)) d j (omega arith)
      ∙ get_or-take (suc j) l j d (omega arith) in
      ap (λ (m : ℕ). set (raised n (suc j) l) (suc j) (get_or (raised n (suc j) l) m d)) e
      ∙ raise_set d (get_or (raised n (suc j) l) j d) n (suc j) l (omega arith)
      ∙ ap (λ (x : A). take (suc j) l ++ x ∷ (drop (suc j) (take n l) ++ drop (n + 1) l)) read
      ∙ ap (λ (m : ℕ). take m l ++ (get_or l j d ∷ drop m (take n l) ++ drop (n + 1) l)) (sym (add-one j))
      ∙ ap (λ (xs : List A). take (j + 1) l ++ (xs ++ drop (n + 1) l)) (sym (rest_cons d n j l (omega arith) (omega arith)))
      ∙ ap (λ (m : ℕ). raised n m l) (sym e)

  pub raise_put : (d v : A) (n : ℕ) (l : List A) → n < length l → set (raised n 0 l) 0 v ≡ v ∷ (take n l ++ drop (n + 1) l)
  raise_put d v n l h = raise_set d v n 0 l (omega arith)

  -- one put in front of those from i up to n
  insert_in : (v : A) (i n : ℕ) (l : List A) → i ≤ n → n < length l → take i l ++ v ∷ (take (n - i) (drop i l) ++ drop (n - i + 1) (drop i l)) ≡ (take i (take n l) ++ v ∷ drop i (take n l)) ++ drop (n + 1) l
  insert_in v zero n l h k = ap (λ (m : ℕ). v ∷ (take m l ++ drop (m + 1) l)) (sub-zero n)
  insert_in v (suc i) zero l h k = absurd (omega arith)
  insert_in v (suc i) (suc n) [] h k = absurd (omega arith)
  insert_in v (suc i) (suc n) (x ∷ l) h k =
      ap (λ (m : ℕ). x ∷ take i l ++ v ∷ (take m (drop i l) ++ drop (m + 1) (drop i l))) (suc-sub-suc n i)
      ∙ ap (λ (xs : List A). x ∷ xs) (insert_in v i n l (omega arith) (omega arith))
      ∙ ap (λ (m : ℕ). x ∷ (take i (take n l) ++ v ∷ drop i (take n l)) ++ drop m (x ∷ l)) (sym (suc-add n 1))

  pub insert_part : (v : A) (i n : ℕ) (l ys : List A) → i ≤ n → n < length l → ys ≡ v ∷ (take (n - i) (take (length l - i) (drop i l)) ++ drop (n - i + 1) (take (length l - i) (drop i l))) → put_mid i (length l - i) l ys ≡ (take i (take n l) ++ v ∷ drop i (take n l)) ++ drop (n + 1) l
  insert_part v i n l ys h k e =
      tail_back i l ys (omega arith)
      ∙ ap (λ (xs : List A). take i l ++ xs) (e ∙ ap (λ (xs : List A). v ∷ (take (n - i) xs ++ drop (n - i + 1) xs)) (tail_is i l))
      ∙ insert_in v i n l h k

-- ---- a part of a store, written in two pieces
first_part : (l p : List ℕ) (a : ℕ) → a + length p ≤ length l → put_mid a (a + length p - a) l p ≡ take a l ++ p ++ drop (a + length p) l
first_part l p a h = ap (λ (xs : List ℕ). take a l ++ (p ++ xs)) (Post-is a (a + length p) l (omega arith)) ∙ sym (append_assoc (take a l) p (drop (a + length p) l))

pub two_parts : (l p x y : List ℕ) (a : ℕ) → a + 1410 ≤ length l → length p ≤ 1410 → x ≡ p
    → y ≡ replicate (length (mid_of (a + length p) (a + 1410 - (a + length p)) (put_mid a (a + length p - a) l x))) 0
    → put_mid (a + length p) (a + 1410 - (a + length p)) (put_mid a (a + length p - a) l x) y ≡ take a l ++ (p ++ replicate (1410 - length p) 0) ++ drop (a + 1410) l
two_parts l p x y a h k e f =
    let n = length p in
    let q = put_mid a (a + n - a) l x in
    let q_is : q ≡ take a l ++ p ++ drop (a + n) l = ap (put_mid a (a + n - a) l) e ∙ first_part l p a (omega arith) in
    let size : length (take a l ++ p) ≡ a + n = length-append (take a l) p ∙ ap (λ (m : ℕ). m + n) (length-take-le a l (omega arith)) in
    let front : take (a + n) q ≡ take a l ++ p = ap (take (a + n)) q_is ∙ take_at (take a l ++ p) (drop (a + n) l) (a + n) size in
    let long : length q ≡ length l = ap length q_is ∙ length-append (take a l ++ p) (drop (a + n) l) ∙ rw (size, length-drop) (omega arith) in
    let rest : post_of (a + n) (a + 1410 - (a + n)) q ≡ drop (a + 1410) l =
    ap (λ (xs : List ℕ). post_of (a + n) (a + 1410 - (a + n)) xs) q_is
    ∙ ap (drop (a + 1410 - (a + n))) (drop_at (take a l ++ p) (drop (a + n) l) (a + n) size)
    ∙ Post-is (a + n) (a + 1410) l (omega arith) in
    let zeros : y ≡ replicate (1410 - n) 0 = f ∙ ap (λ (m : ℕ). replicate m 0) (mid_len (a + n) (a + 1410) q (rw long h) ∙ less a n) in
    ap (λ (xs : List ℕ). xs ++ (y ++ post_of (a + n) (a + 1410 - (a + n)) q)) front
    ∙ ap (λ (xs : List ℕ). (take a l ++ p) ++ (y ++ xs)) rest
    ∙ ap (λ (xs : List ℕ). (take a l ++ p) ++ (xs ++ drop (a + 1410) l)) zeros
    ∙ sym (append_assoc (take a l ++ p) (replicate (1410 - n) 0) (drop (a + 1410) l))
    ∙ ap (λ (xs : List ℕ). xs ++ drop (a + 1410) l) (append_assoc (take a l) p (replicate (1410 - n) 0))
  where
    less : (a n : ℕ) → a + 1410 - (a + n) ≡ 1410 - n
    less a n = omega arith

-- the part that is read
pub part_is : (l : List ℕ) (a n : ℕ) → take (a + n - a) (drop a l) ≡ take n (drop a l)
part_is l a n = ap (λ (k : ℕ). take k (drop a l)) (add-sub_cancel_left a n)

pub part_length : (l : List ℕ) (a n : ℕ) → a + n ≤ length l → length (take (a + n - a) (drop a l)) ≡ n
part_length l a n h = ap length (part_is l a n) ∙ length-take-le n (drop a l) (rw length-drop (omega arith))
