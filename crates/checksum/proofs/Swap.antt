-- Laws of sums with the octets of each word swapped: RFC 1071, section 2 (B).
use Prim.Native.Nat.{ℕ, ◌+◌, ◌*◌, ◌%◌, ◌≤◌, ◌<◌}
use mathlib.Core.Path.{◌≡◌, ap, ◌∙◌}
use mathlib.Core.List.{List}
use native.Mathlib.Omega.{arith}
use native.Mathlib.Nat.{add-mul-mod_self_right}
use lib.ListN.{length, get_or}
use Rattle.checksum.specs.Techniques.{folded, sum_from, Swapped}
use Rattle.checksum.proofs.Carry.{carried_same}
use Rattle.checksum.proofs.Words.{sum, sum_drop, sum_last, sum_end}

add_same : (a w x y t : ℕ) → (256 * a + x) % 65535 ≡ t % 65535 → (256 * w + y) % 65535 ≡ x % 65535 → (256 * (a + w) + y) % 65535 ≡ t % 65535
add_same a w x y t e f = omega arith

-- one run of octets after the other
pub swapped_add : (s : List ℕ) (i j k a w : ℕ) → Swapped s i j a → Swapped s j k w → Swapped s i k (a + w)
swapped_add s i j k a w e f =
    record {
      same = add_same a w (sum_from s j) (sum_from s k) (sum_from s i) e.same f.same;
      least = omega arith;
      most = omega arith;
    }

pub swapped_none : (s : List ℕ) (i : ℕ) → Swapped s i i 0
swapped_none s i = record { same = omega arith; least = omega arith; most = omega arith }

more : (m n k : ℕ) → m ≡ n + k * 65535 → m % 65535 ≡ n % 65535
more m n k e = ap (λ (x : ℕ). x % 65535) e ∙ add-mul-mod_self_right n k 65535

-- r is 65535 times k more than the words between i and j
exact : (s : List ℕ) (i j r k : ℕ) → 256 * r + sum_from s j ≡ sum_from s i + k * 65535 → r + 16777216 * sum_from s j ≤ 16777216 * sum_from s i → Swapped s i j r
exact s i j r k e h = record { same = more _ _ k e; least = omega arith; most = h }

pub swapped_two : (s : List ℕ) (i r : ℕ) → i + 1 < length s → r ≡ get_or s i 0 + get_or s (i + 1) 0 * 256 → Swapped s i (i + 2) r
swapped_two s i r h e =
    let d = sum_drop s i h in
    exact s i (i + 2) r (get_or s (i + 1) 0) (omega arith) (omega arith)

pub swapped_one : (s : List ℕ) (i r : ℕ) → i < length s → length s ≤ i + 1 → r ≡ get_or s i 0 → Swapped s i (length s) r
swapped_one s i r h k e =
    let z = sum_end s (length s) (omega arith) in
    let l = sum_last s i h k in
    exact s i (length s) r 0 (omega arith) (omega arith)

pub swapped_four : (s : List ℕ) (i r : ℕ) → i + 4 ≤ length s → r ≡ get_or s i 0 + get_or s (i + 1) 0 * 256 + get_or s (i + 2) 0 * 65536 + get_or s (i + 3) 0 * 16777216 → Swapped s i (i + 4) r
swapped_four s i r h e =
    let a : i + 2 + 1 ≡ i + 3 = omega arith in
    let b : i + 2 + 2 ≡ i + 4 = omega arith in
    let d : sum_from s (i + 2) ≡ get_or s (i + 2) 0 * 256 + get_or s (i + 3) 0 + sum_from s (i + 4) = rw (a, b) at (sum_drop s (i + 2) (omega arith)) in
    let f = sum_drop s i (omega arith) in
    exact s i (i + 4) r (get_or s (i + 1) 0 + get_or s (i + 2) 0 * 256 + get_or s (i + 3) 0 * 65537) (omega arith) (omega arith)

-- the whole row: its carried sum
pub swapped_all : (s : List ℕ) (r : ℕ) → Swapped s 0 (length s) r → folded (256 * r) ≡ folded (sum s)
swapped_all s r h =
    let z = sum_end s (length s) (omega arith) in
    let e : (256 * r) % 65535 ≡ sum s % 65535 = ap (λ (n : ℕ). n % 65535) (omega arith) ∙ h.same in
    carried_same (256 * r) (sum s) e (omega arith) (omega arith)
