-- RFC 1071, section 2: sums with the carries deferred (1), and in the other byte order (B).
use Rattle.std.specs.Prelude.{ℕ, ◌+◌, ◌-◌, ◌*◌, ◌/◌, ◌%◌, ◌≤◌, List, [], ◌∷◌, ◌≡◌, drop}
use Rattle.checksum.specs.Rfc1071.{words}

-- the sum of a row of integers, no carry brought back
unfoldable pub plain_sum : List ℕ → ℕ
plain_sum [] = 0
plain_sum (w ∷ ws) = w + plain_sum ws

-- a plain sum with its carries brought back: 0 for 0, else the number from 1 to 65535 with the same remainder by 65535
abbrev pub folded : ℕ → ℕ
folded n = n - (n - 1) / 65535 * 65535

-- the sum of the words of s from the place i on
abbrev pub sum_from : List ℕ → ℕ → ℕ
sum_from s i = plain_sum (words (drop i s))

-- r sums the octets of s from the place i up to the place k with each word's octets swapped: 256 r leaves the same
-- remainder by 65535 as the sum of the words, and is 0 only with it
pub record Swapped (s : List ℕ) (i k r : ℕ) : Type 0 where
  pub same : (256 * r + sum_from s k) % 65535 ≡ sum_from s i % 65535
  pub least : sum_from s i ≤ 256 * r + sum_from s k
  pub most : r + 16777216 * sum_from s k ≤ 16777216 * sum_from s i
