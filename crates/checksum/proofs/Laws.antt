-- The laws of RFC 1071 that crates above may cite.
use Prim.Native.Nat.{ℕ, ◌+◌, ◌^◌, ◌≤◌, ◌<◌}
use mathlib.Core.Path.{◌≡◌, refl, sym, ap, ◌∙◌}
use mathlib.Core.List.{List, Permᴰ}
use mathlib.Core.Bool.{Bool, true, false}
use mathlib.Core.Logic.{◌⊎◌, inl, inr, ⊎_elim}
use native.Mathlib.Omega.{arith}
use borrow.Author.Tests.{eqb-true, eqb-false}
use lib.ListN.{length}
use lib.Dec.{eqb}
use lib.Bits.{bit_xor}
use lib.Pow.{pow_pos}
use Rattle.octets.specs.Octets.{Octets}
use Rattle.checksum.specs.Integers.{Integers16}
use Rattle.checksum.specs.Rfc1071.{words, ones_add, ones_sum, complement}
use Rattle.checksum.specs.Techniques.{plain_sum, folded}
use Rattle.octets.specs.Flip.{flip}
use Rattle.checksum.proofs.Carry.{carried_le, carried_apart, add_carried}
use Rattle.checksum.proofs.Words.{sum, ones_carried}
use Rattle.checksum.proofs.Bits.{flip_sum, Apart}
use Rattle.octets.proofs.Laws.{xor_moves, flip_octets}
pub use Rattle.checksum.proofs.Carry.{carried_fold, carried_small}
pub use Rattle.checksum.proofs.Words.{words_below}

-- section 2 (A): commutative and associative
pub ones_add_comm : (a b : ℕ) → ones_add a b ≡ ones_add b a
unfolding ones_add
ones_add_comm a b = omega arith

add_small : (a b : ℕ) → a ≤ 65535 → b ≤ 65535 → ones_add a b ≡ folded (a + b)
add_small a b h k = sym (ap (ones_add a) (carried_small b (omega arith))) ∙ add_carried a b h

pub ones_add_assoc : (a b c : ℕ) → a ≤ 65535 → b ≤ 65535 → c ≤ 65535 → ones_add a (ones_add b c) ≡ ones_add (ones_add a b) c
ones_add_assoc a b c h k l =
    let left = ap (ones_add a) (add_small b c k l) ∙ add_carried a (b + c) h in
    let right = ap (λ (x : ℕ). ones_add x c) (add_small a b h k) ∙ ones_add_comm (folded (a + b)) c ∙ add_carried c (a + b) l in
    let same : a + (b + c) ≡ c + (a + b) = omega arith in
    left ∙ ap folded same ∙ sym right

pub ones_add_le : (a b : ℕ) → a ≤ 65535 → b ≤ 65535 → ones_add a b ≤ 65535
unfolding ones_add
ones_add_le a b h k = omega arith

pub ones_add_zero : (a : ℕ) → a ≤ 65535 → ones_add 0 a ≡ a
unfolding ones_add
ones_add_zero a h = omega arith

pub ones_sum_le : (ws : List ℕ) → Integers16 ws → ones_sum ws ≤ 65535
ones_sum_le ws h = rw (ones_carried ws h) (carried_le (plain_sum ws))

-- section 1 (3): a receiver's sum, the field among the words, is all ones exactly when the field is the complement of the other
-- words' sum, or both are all ones
by_complement : (field others : ℕ) (t : Bool) → eqb field (complement others) ≡ t → ones_add field others ≡ 65535 → field ≤ 65535 → others ≤ 65535
    → (field ≡ complement others) ⊎ ((field ≡ 65535) × (others ≡ 65535))
unfolding ones_add
by_complement field others true e h k l = inl (eqb-true _ _ e)
by_complement field others false e h k l = let n : field ≡ complement others → ⊥ = eqb-false _ _ e in inr (omega arith, omega arith)

pub all_ones : (field others : ℕ) → field ≤ 65535 → others ≤ 65535 → ones_add field others ≡ 65535 → (field ≡ complement others) ⊎ ((field ≡ 65535) × (others ≡ 65535))
all_ones field others k l h = by_complement field others _ refl h k l

pub complement_all_ones : (field others : ℕ) → others ≤ 65535 → field ≡ complement others → ones_add field others ≡ 65535
unfolding ones_add
complement_all_ones field others l e = omega arith

-- section 2 (1): the carries may be deferred; bringing them back is adding the high half to the low half until it is 0
pub deferred_carries : (ws : List ℕ) → Integers16 ws → ones_sum ws ≡ folded (plain_sum ws)
deferred_carries = ones_carried

-- the sum doesn't depend on the order of the words
plain_order : {v w : List ℕ} → Permᴰ v w → plain_sum v ≡ plain_sum w
unfolding plain_sum
plain_order Permᴰ.nil = refl
plain_order (Permᴰ.cons e p) = let q = plain_order p in omega arith
plain_order (Permᴰ.swap e f) = omega arith
plain_order (Permᴰ.trans p q) = plain_order p ∙ plain_order q

pub ones_sum_order : {v w : List ℕ} → Permᴰ v w → Integers16 v → Integers16 w → ones_sum v ≡ ones_sum w
ones_sum_order {v} {w} p h k = ones_carried v h ∙ ap folded (plain_order p) ∙ sym (ones_carried w k)

-- one bit turned over changes an octet, and the sum
pub xor_differs : (a b : ℕ) → bit_xor a (2 ^ b) ≡ a → ⊥
xor_differs a b e = ⊎_elim {C = ⊥} (λ f. omega (arith, pow_pos b)) (λ f. omega (arith, pow_pos b)) (xor_moves a b)

never_same : (m n : ℕ) → Apart m n → folded n ≡ folded m → ⊥
never_same m n h e =
    ⊎_elim {C = ⊥}
    (λ f. carried_apart m h.by h.positive h.small (sym (ap folded f) ∙ e))
    (λ f. carried_apart n h.by h.positive h.small (sym (ap folded f) ∙ sym e))
    h.way

pub flip_changes_sum : (l : List ℕ) (i b : ℕ) → Octets l → b < 8 → i < length l → ones_sum (words (flip l i b)) ≡ ones_sum (words l) → ⊥
flip_changes_sum l i b o h k e =
    never_same (sum l) (sum (flip l i b)) (flip_sum l i b h k)
    (sym (ones_carried _ (words_below _ (flip_octets l i b h o))) ∙ e ∙ ones_carried _ (words_below l o))
