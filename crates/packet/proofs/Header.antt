-- Laws of the header's bytes and of the checksum over them.
use Prim.Native.Nat.{ℕ, ◌+◌, ◌-◌, ◌*◌, ◌/◌, ◌%◌, ◌≤◌, ◌<◌}
use mathlib.Core.Path.{◌≡◌, ap, ◌∙◌}
use mathlib.Core.List.{List, ◌++◌}
use native.Mathlib.Omega.{arith}
use lib.ListN.{length}
use lib.Dec.{lit<}
use Rattle.octets.specs.Octets.{Octets}
use Rattle.checksum.specs.Rfc1071.{words, ones_add, ones_sum, checksum}
use Rattle.checksum.proofs.Laws.{ones_add_assoc, ones_add_zero, ones_add_le, ones_sum_le, words_below}
use Rattle.octets.proofs.Laws.{below_cons}
use Rattle.packet.specs.Format.{byte_of, header_bytes, checksum_of}
use Rattle.packet.specs.declared.Packet.{Packet}
use Rattle.packet.proofs.Types.{byte_lt}

-- a number from its bytes
pub two_bytes : (n : ℕ) → n / 256 * 256 + n % 256 ≡ n
two_bytes n = omega arith

pub high_half : (n : ℕ) → n / 16777216 * 256 + n / 65536 % 256 ≡ n / 65536
high_half n = omega arith

pub low_half : (n : ℕ) → n / 256 % 256 * 256 + n % 256 ≡ n % 65536
low_half n = omega arith

-- the fields fit their bytes
pub record Fits (p : Packet) : Type 0 where
  pub seq_num : p.seq_num < 4294967296
  pub flags : p.flags < 256

pub header_octets : (p : Packet) (n k : ℕ) (l : List ℕ) → Fits p → n < 65536 → k < 65536 → Octets l → Octets (header_bytes p n k ++ l)
unfolding header_bytes
header_octets p n k l f a b e =
    let s = f.seq_num in
    below_cons (omega arith) (below_cons (omega arith) (below_cons (omega arith) (below_cons (omega arith)
    (below_cons (omega (arith, byte_lt p.pkt_type)) (below_cons f.flags (below_cons (omega arith) (below_cons (omega arith)
    (below_cons (omega arith) (below_cons (omega arith) e)))))))))

-- the 1's complement sum of the header's words before the checksum
abbrev pub header_sum : Packet → ℕ → ℕ
header_sum p n = ones_add (ones_add (ones_add (p.seq_num / 65536) (p.seq_num % 65536)) (byte_of p.pkt_type * 256 + p.flags)) n

pub header_sum_le : (p : Packet) (n : ℕ) → Fits p → n ≤ 65535 → header_sum p n ≤ 65535
header_sum_le p n f h =
    let s = f.seq_num in
    let g = f.flags in
    ones_add_le _ n (ones_add_le _ _ (ones_add_le _ _ (omega arith) (omega arith)) (omega (arith, byte_lt p.pkt_type))) h

group : (a b c d k x : ℕ) → a ≤ 65535 → b ≤ 65535 → c ≤ 65535 → d ≤ 65535 → k ≤ 65535 → x ≤ 65535
    → ones_add a (ones_add b (ones_add c (ones_add d (ones_add k x)))) ≡ ones_add (ones_add (ones_add (ones_add a b) c) d) (ones_add k x)
group a b c d k x ha hb hc hd hk hx =
    let hz = ones_add_le k x hk hx in
    let hy = ones_add_le d (ones_add k x) hd hz in
    let hab = ones_add_le a b ha hb in
    ones_add_assoc a b (ones_add c (ones_add d (ones_add k x))) ha hb (ones_add_le c (ones_add d (ones_add k x)) hc hy)
    ∙ ones_add_assoc (ones_add a b) c (ones_add d (ones_add k x)) hab hc hy
    ∙ ones_add_assoc (ones_add (ones_add a b) c) d (ones_add k x) (ones_add_le (ones_add a b) c hab hc) hd hz

-- the sum of a whole datagram, its checksum field k among the words
pub sum_is : (p : Packet) (n k : ℕ) (l : List ℕ) → Fits p → n < 65536 → k < 65536 → Octets l
    → ones_sum (words (header_bytes p n k ++ l)) ≡ ones_add (header_sum p n) (ones_add k (ones_sum (words l)))
unfolding header_bytes words ones_sum
sum_is p n k l f a b e =
    let s = f.seq_num in
    let g = f.flags in
    rw (two_bytes n, two_bytes k, high_half p.seq_num, low_half p.seq_num)
    (group (p.seq_num / 65536) (p.seq_num % 65536) (byte_of p.pkt_type * 256 + p.flags) n k (ones_sum (words l))
    (omega arith) (omega arith) (omega (arith, byte_lt p.pkt_type)) (omega arith) (omega arith) (ones_sum_le (words l) (words_below l e)))

pub checksum_is : (p : Packet) (l : List ℕ) → Fits p → length l < 65536 → Octets l
    → checksum_of p l ≡ 65535 - ones_add (header_sum p (length l)) (ones_sum (words l))
unfolding checksum_of checksum
checksum_is p l f a e =
    ap (λ (x : ℕ). 65535 - x)
    (sum_is p (length l) 0 l f a (lit< tt) e
    ∙ ap (ones_add (header_sum p (length l))) (ones_add_zero (ones_sum (words l)) (ones_sum_le (words l) (words_below l e))))

pub checksum_lt : (p : Packet) (l : List ℕ) → checksum_of p l < 65536
unfolding checksum_of checksum
checksum_lt p l = omega arith
