-- Laws of `folded`: RFC 1071, section 2 (1), over plain numbers.
use Prim.Native.Nat.{ℕ, zero, suc, ◌+◌, ◌*◌, ◌/◌, ◌%◌, ◌≤◌, ◌<◌}
use mathlib.Core.Path.{◌≡◌, sym, ap, ◌∙◌}
use native.Mathlib.Omega.{arith}
use Rattle.checksum.specs.Rfc1071.{ones_add}
use Rattle.checksum.specs.Techniques.{folded}

-- one turn of bringing the carries back changes nothing
pub carried_fold : (n : ℕ) → folded (n % 65536 + n / 65536) ≡ folded n
carried_fold n = omega arith

pub carried_small : (n : ℕ) → n < 65536 → folded n ≡ n
carried_small n h = omega arith

pub carried_le : (n : ℕ) → folded n ≤ 65535
carried_le n = omega arith

-- a carry brought back now or later
pub add_carried : (w n : ℕ) → w ≤ 65535 → ones_add w (folded n) ≡ folded (w + n)
unfolding ones_add
add_carried w n h = omega arith

pub carried_add : (w m n : ℕ) → w ≤ 65535 → folded m ≡ folded n → folded (w + m) ≡ folded (w + n)
carried_add w m n h e = sym (add_carried w m h) ∙ ap (ones_add w) e ∙ add_carried w n h

both_positive : (m n : ℕ) → 0 < m → 0 < n → m % 65535 ≡ n % 65535 → folded m ≡ folded n
both_positive m n h k e = omega arith

-- the same remainder, and 0 only together
pub carried_same : (m n : ℕ) → m % 65535 ≡ n % 65535 → n ≤ m → m ≤ 4294967296 * n → folded m ≡ folded n
carried_same m zero e h k = let z : m ≡ 0 = omega arith in ap folded z
carried_same m (suc n) e h k = both_positive m (suc n) (omega arith) (omega arith) e

-- two sums that are 1 to 65534 apart
pub carried_apart : (n x : ℕ) → 0 < x → x < 65535 → folded (n + x) ≡ folded n → ⊥
carried_apart n x l h e = omega arith
