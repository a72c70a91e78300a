-- Laws of the words of a row of octets and of their sums.
use Prim.Native.Nat.{ℕ, suc, ◌+◌, ◌*◌, ◌≤◌, ◌<◌}
use mathlib.Core.Path.{◌≡◌, refl, ap, ◌∙◌}
use mathlib.Core.List.{List, [], ◌∷◌}
use native.Mathlib.Omega.{arith}
use lib.ListN.{length, get_or, drop_of_length-le}
use lib.Seq.{drop-cons}
use lib.Dec.{lit<}
use Rattle.octets.specs.Octets.{Octets}
use Rattle.checksum.specs.Integers.{Integers16}
use Rattle.checksum.specs.Rfc1071.{words, ones_add, ones_sum}
use Rattle.checksum.specs.Techniques.{plain_sum, folded, sum_from}
use Rattle.checksum.proofs.Carry.{add_carried}
use Rattle.octets.proofs.Laws.{below_nil, below_cons, below_head, below_tail}

abbrev pub sum : List ℕ → ℕ
sum l = plain_sum (words l)

pub sum_nil : sum [] ≡ 0
unfolding words plain_sum
sum_nil = refl

pub sum_one : (a : ℕ) → sum (a ∷ []) ≡ a * 256
unfolding words plain_sum
sum_one a = omega arith

pub sum_two : (a b : ℕ) (l : List ℕ) → sum (a ∷ b ∷ l) ≡ a * 256 + b + sum l
unfolding words plain_sum
sum_two a b l = refl

pub sum_drop : (s : List ℕ) (i : ℕ) → i + 1 < length s → sum_from s i ≡ get_or s i 0 * 256 + get_or s (i + 1) 0 + sum_from s (i + 2)
sum_drop s i h =
    let k : i < length s = omega arith in
    let g : suc i < length s = omega arith in
    let e : i + 1 ≡ suc i = omega arith in
    let f : i + 2 ≡ suc (suc i) = omega arith in
    rw (e, f) (ap sum (drop-cons s i 0 k ∙ ap (λ (l : List ℕ). get_or s i 0 ∷ l) (drop-cons s (suc i) 0 g)) ∙ sum_two _ _ _)

pub sum_last : (s : List ℕ) (i : ℕ) → i < length s → length s ≤ i + 1 → sum_from s i ≡ get_or s i 0 * 256
sum_last s i h k =
    ap sum (drop-cons s i 0 h ∙ ap (λ (l : List ℕ). get_or s i 0 ∷ l) (drop_of_length-le s {i = suc i} (omega arith))) ∙ sum_one _

pub sum_end : (s : List ℕ) (i : ℕ) → length s ≤ i → sum_from s i ≡ 0
sum_end s i h = ap sum (drop_of_length-le s h) ∙ sum_nil

-- the words of octets are 16-bit integers
pub words_below : (l : List ℕ) → Octets l → Integers16 (words l)
unfolding words
words_below [] h = below_nil (lit< tt)
words_below (a ∷ []) h = below_cons (omega (arith, below_head h)) (below_nil (lit< tt))
words_below (a ∷ b ∷ l) h =
    below_cons (omega (arith, below_head h, below_head (below_tail h))) (words_below l (below_tail (below_tail h)))

-- the 1's complement sum is the plain sum with its carries brought back
pub ones_carried : (ws : List ℕ) → Integers16 ws → ones_sum ws ≡ folded (plain_sum ws)
unfolding ones_sum plain_sum
ones_carried [] h = refl
ones_carried (w ∷ ws) h =
    ap (ones_add w) (ones_carried ws (below_tail h)) ∙ add_carried w (plain_sum ws) (omega (arith, below_head h))
