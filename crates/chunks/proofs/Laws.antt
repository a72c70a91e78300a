-- The chunks of a file joined are the file; how many they are, and the chunk of a number.
use Prim.Native.Nat.{ℕ, zero, suc, ◌+◌, ◌-◌, ◌*◌, ◌/◌, ◌≤◌, ◌<◌}
use mathlib.Core.Path.{◌≡◌, refl, sym, ap, ◌∙◌}
use mathlib.Core.List.{List, [], ◌∷◌, ◌++◌, flatten}
use native.Mathlib.Omega.{arith}
use native.Mathlib.Nat.{zero-mul, le_trans, mul-le-mul_right, div-eq_of_lt, div-eq_of_lt-le, div-eq-sub-div, div-mul-le_self}
use Rattle.std.proofs.Common.{min, max}
use Rattle.std.proofs.lemmas.Grind.{div_ceil_times}
use Rattle.std.proofs.lemmas.List.{take_min}
use Rattle.std.specs.Int.{div_ceil}
use lib.ListN.{length, get_or, take, drop, take-append-drop, length-drop, length-take}
use lib.Seq.{drop-drop, drop-nil, take-nil}
use Rattle.octets.specs.Octets.{Octets}
use Rattle.octets.proofs.Laws.{below_take, below_drop}
use Rattle.chunks.specs.Chunks.{pieces, chunks_of}

pieces_joined : (n c : ℕ) (file : List ℕ) → 0 < c → length file ≤ n → flatten (pieces n c file) ≡ file
unfolding pieces flatten
pieces_joined zero c [] h k = refl
pieces_joined zero c (x ∷ file) h k = absurd (omega arith)
pieces_joined (suc n) c [] h k = refl
pieces_joined (suc n) c (x ∷ file) h k =
    let e = length-drop c (x ∷ file) in
    ap (λ (rest : List ℕ). take c (x ∷ file) ++ rest) (pieces_joined n c (drop c (x ∷ file)) h (omega arith))
    ∙ take-append-drop c (x ∷ file)

pub chunks_joined : (c : ℕ) (file : List ℕ) → 0 < c → flatten (chunks_of c file) ≡ file
unfolding chunks_of flatten
chunks_joined c [] h = refl
chunks_joined c (x ∷ file) h = pieces_joined (length (x ∷ file)) c (x ∷ file) h (omega arith)

lt_of : (b c : ℕ) → 0 ≡ suc b - c → b < c
lt_of b c e = omega arith

le_of : (a b c : ℕ) → suc a ≡ suc b - c → c ≤ b
le_of a b c e = omega arith

eq_left : (a b c : ℕ) → suc a ≡ suc b - c → b - c ≡ a
eq_left a b c e = omega arith

pieces_none : (n c : ℕ) → pieces n c [] ≡ []
unfolding pieces
pieces_none zero c = refl
pieces_none (suc n) c = refl

pieces_count : (n c x : ℕ) (file : List ℕ) → 0 < c → length (x ∷ file) ≤ n
    → length (pieces n c (x ∷ file)) ≡ length file / c + 1
unfolding pieces
pieces_count zero c x file h k = absurd (omega arith)
pieces_count (suc n) c x file h k = go (λ y ys l. pieces_count n c y ys h l) (drop c (x ∷ file)) (length-drop c (x ∷ file))
  where
    go : ((y : ℕ) (ys : List ℕ) → length (y ∷ ys) ≤ n → length (pieces n c (y ∷ ys)) ≡ length ys / c + 1)
        → (rest : List ℕ) → length rest ≡ length (x ∷ file) - c → suc (length (pieces n c rest)) ≡ length file / c + 1
    go shorter [] e =
        let short = div-eq_of_lt (lt_of (length file) c e) in
        ap (λ (l : List (List ℕ)). suc (length l)) (pieces_none n c) ∙ sym (ap (λ (q : ℕ). q + 1) short)
    go shorter (y ∷ rest) e =
        let long = div-eq-sub-div h (le_of (length rest) (length file) c e) in
        let left = ap (λ (q : ℕ). q / c) (eq_left (length rest) (length file) c e) in
        let more = shorter y rest (omega arith) in
        omega arith

-- how many: at least one
pub chunks_count : (c x : ℕ) (file : List ℕ) → 0 < c → length (chunks_of c (x ∷ file)) ≡ length file / c + 1
unfolding chunks_of
chunks_count c x file h = pieces_count (length (x ∷ file)) c x file h (omega arith)

suc_times : (k c : ℕ) → c + k * c ≡ suc k * c
suc_times k c = omega arith

pieces_at : (n c k : ℕ) (file : List ℕ) → length file ≤ n → 0 < c → k < length (pieces n c file)
    → get_or (pieces n c file) k [] ≡ take c (drop (k * c) file)
unfolding pieces
pieces_at zero c k file h p l = absurd (omega arith)
pieces_at (suc n) c k [] h p l = absurd (omega arith)
pieces_at (suc n) c zero (x ∷ file) h p l = ap (λ (j : ℕ). take c (drop j (x ∷ file))) (sym (zero-mul c))
pieces_at (suc n) c (suc k) (x ∷ file) h p l =
    let d = length-drop c (x ∷ file) in
    pieces_at n c k (drop c (x ∷ file)) (omega arith) p (omega arith)
    ∙ ap (take c) (drop-drop (k * c) c (x ∷ file)) ∙ ap (λ (j : ℕ). take c (drop j (x ∷ file))) (suc_times k c)

-- the chunk of a number
pub chunks_at : (c k : ℕ) (file : List ℕ) → 0 < c → k < length (chunks_of c file)
    → get_or (chunks_of c file) k [] ≡ take c (drop (k * c) file)
unfolding chunks_of
chunks_at c k [] p l = only k l
  where
    only : (j : ℕ) → j < 1 → get_or {A = List ℕ} ([] ∷ []) j [] ≡ take c (drop (j * c) [])
    only zero l = sym (ap (take c) (drop-nil (0 * c)) ∙ take-nil c)
    only (suc j) l = absurd (omega arith)
chunks_at c k (x ∷ file) p l = pieces_at (length (x ∷ file)) c k (x ∷ file) (omega arith) p l

-- it starts within the file
pub chunk_start : (c k : ℕ) (file : List ℕ) → 0 < c → k < length (chunks_of c file) → k * c ≤ length file
unfolding chunks_of
chunk_start c k [] p l = starts k l
  where
    starts : (j : ℕ) → j < 1 → j * c ≤ 0
    starts zero l = omega (arith, zero-mul c)
    starts (suc j) l = absurd (omega arith)
chunk_start c k (x ∷ file) p l =
    let n = pieces_count (length (x ∷ file)) c x file p (omega arith) in
    le_trans (mul-le-mul_right c (below k (length (pieces (length (x ∷ file)) c (x ∷ file))) (length file / c) l n)) (le_trans (div-mul-le_self (length file) c) (omega arith))
  where
    below : (j n q : ℕ) → j < n → n ≡ q + 1 → j ≤ q
    below j n q l e = omega arith

-- by the file's length
pub count_empty : (c : ℕ) (file : List ℕ) → length file ≡ 0 → 1 ≡ length (chunks_of c file)
unfolding chunks_of
count_empty c [] e = refl
count_empty c (x ∷ file) e = absurd (omega arith)

one_less : (n : ℕ) → suc n - 1 ≡ n
one_less n = omega arith

pub count_full : (c : ℕ) (file : List ℕ) → 0 < c → (length file ≡ 0 → ⊥) → (length file - 1) / c + 1 ≡ length (chunks_of c file)
count_full c [] p e = absurd (e refl)
count_full c (x ∷ file) p e =
    ap (λ (n : ℕ). n / c + 1) (one_less (length file)) ∙ sym (chunks_count c x file p)

div_ceil_suc : (n c q : ℕ) → 0 < c → suc n ≤ q * c → q * c < suc n + c → q ≡ n / c + 1
div_ceil_suc n c zero p h k = absurd (omega (arith, zero-mul c))
div_ceil_suc n c (suc q) p h k =
    let e = suc_times q c in
    let d : n / c ≡ q = div-eq_of_lt-le {k = q} c {m = n} (omega arith) (omega arith) in
    omega arith

-- the two in one: the length divided, rounded up, and at least 1
pub count_is : (c : ℕ) (file : List ℕ) → 0 < c
    → max (div_ceil (length file) c) 1 ≡ length (chunks_of c file)
unfolding chunks_of
count_is c [] p = let b = div_ceil_times 0 c p in zero_ceil _ _ p b.1
  where
    zero_ceil : (q c : ℕ) → 0 < c → q * c < 0 + c → max q 1 ≡ 1
    zero_ceil zero c p h = refl
    zero_ceil (suc q) c p h = absurd (omega (arith, suc_times q c))
count_is c (x ∷ file) p =
    let b = div_ceil_times (length (x ∷ file)) c p in
    let e = div_ceil_suc (length file) c (div_ceil (length (x ∷ file)) c) p b.0 b.1 in
    let n = pieces_count (length (x ∷ file)) c x file p (omega arith) in
    omega arith

-- from its start to its end, or to the file's
pub chunk_is : (c k : ℕ) (file : List ℕ) → 0 < c → k < length (chunks_of c file)
    → take (min (k * c + c) (length file) - k * c) (drop (k * c) file) ≡ get_or (chunks_of c file) k []
chunk_is c k file p l =
    let d = length-drop (k * c) file in
    let e : min (k * c + c) (length file) - k * c ≡ min c (length (drop (k * c) file)) = omega arith in
    ap (λ (n : ℕ). take n (drop (k * c) file)) e ∙ take_min c (drop (k * c) file) ∙ sym (chunks_at c k file p l)

-- no chunk is longer than its size
pub chunk_length : (c k : ℕ) (file : List ℕ) → 0 < c → k < length (chunks_of c file)
    → length (get_or (chunks_of c file) k []) ≤ c
chunk_length c k file p l =
    let t = length-take c (drop (k * c) file) in
    rw (chunks_at c k file p l) (omega (arith, t))

pub chunk_octets : (c k : ℕ) (file : List ℕ) → 0 < c → k < length (chunks_of c file) → Octets file
    → Octets (get_or (chunks_of c file) k [])
chunk_octets c k file p l o =
    rw (chunks_at c k file p l) (below_take c (drop (k * c) file) (omega arith) (below_drop (k * c) file o))

-- at least one
pub chunks_some : (c : ℕ) (file : List ℕ) → 0 < c → 0 < length (chunks_of c file)
chunks_some c [] p = let e = count_empty c [] refl in omega (arith, e)
chunks_some c (x ∷ file) p = let e = chunks_count c x file p in omega (arith, e)
