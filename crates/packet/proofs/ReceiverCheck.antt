-- RFC 1071, section 1 (3): the receiver's sum over all octets, the checksum field among them.
use Rattle.refusal.specs.declared.Refusal.{Refusal}
use Rattle.std.specs.Prelude.{Result, Ok}
use Prim.Native.Nat.{ℕ, ◌+◌, ◌-◌, ◌≤◌, ◌<◌}
use mathlib.Core.Path.{◌≡◌, refl, sym, ap, ◌∙◌, subst}
use mathlib.Core.Bool.{Bool, true, false, cond}
use mathlib.Core.List.{List}
use mathlib.Core.Logic.{◌⊎◌, inl, inr, ⊎_elim}
use native.Mathlib.Omega.{arith}
use borrow.Author.Tests.{eq-eqb, ne_eqb, eqb-true}
use lib.ListN.{length, take, drop}
use lib.Dec.{lit<}
use Rattle.octets.specs.Octets.{Octets}
use Rattle.checksum.specs.Rfc1071.{words, ones_add, ones_sum}
use Rattle.checksum.proofs.Laws.{ones_add_assoc, ones_add_comm, ones_add_le, ones_sum_le, all_ones, complement_all_ones, words_below}
use Rattle.octets.proofs.Laws.{below_take, below_drop}
use Rattle.refusal.specs.Order.{verdict}
use Rattle.packet.specs.Format.{datagram, checksum_of, matches}
use Rattle.packet.specs.Reading.{declared, read_checks, header_of, from_bytes, payload_of, validity}
use Rattle.packet.specs.declared.Packet.{Packet}
use Rattle.packet.proofs.Header.{Fits, header_sum, header_sum_le, sum_is, checksum_is}
use Rattle.packet.proofs.Read.{read_packet, read_header, payload_is, payload_below, validity_is}
use Rattle.packet.proofs.RoundTrip.{written_again}
use Rattle.refusal.specs.Order.{passed}

-- the sum of the octets up to the declared end
abbrev pub receiver_sum : List ℕ → ℕ
receiver_sum raw = ones_sum (words (take (10 + declared raw) raw))

pub header_fits : (raw : List ℕ) → Octets raw → Fits (header_of raw)
unfolding header_of
header_fits raw o = record { seq_num = omega (arith, o.at 0, o.at 1, o.at 2, o.at 3); flags = o.at 5 }

header_checksum : (raw : List ℕ) → Octets raw → (header_of raw).checksum < 65536
unfolding header_of
header_checksum raw o = omega (arith, o.at 8, o.at 9)

pub payload_octets : (raw : List ℕ) → Octets raw → verdict (read_checks raw) ≡ passed → Octets (payload_of raw)
payload_octets raw o v = rw (payload_is raw v) (below_take (declared raw) (drop 10 raw) (lit< tt) (below_drop 10 raw o))

-- all words but the checksum's
abbrev others : Packet → List ℕ → ℕ
others p l = ones_add (header_sum p (length l)) (ones_sum (words l))

-- the receiver's sum and the computed checksum, by the sum of the other words
record Sums (raw : List ℕ) (p : Packet) : Type 0 where
  field_le : p.checksum ≤ 65535
  others_le : others p (payload_of raw) ≤ 65535
  sum : receiver_sum raw ≡ ones_add p.checksum (others p (payload_of raw))
  computed : checksum_of p (payload_of raw) ≡ 65535 - others p (payload_of raw)

field_first : (h k x : ℕ) → h ≤ 65535 → k ≤ 65535 → x ≤ 65535 → ones_add h (ones_add k x) ≡ ones_add k (ones_add h x)
field_first h k x a b c =
    ones_add_assoc h k x a b c ∙ ap (λ (n : ℕ). ones_add n x) (ones_add_comm h k) ∙ sym (ones_add_assoc k h x b a c)

sums : (raw : List ℕ) (p : Packet) → Octets raw → from_bytes raw ≡ Ok p → Sums raw p
unfolding datagram
sums raw p o e =
    let v = read_packet raw p e in
    let l = payload_of raw in
    let n : length l ≤ 65535 = payload_below raw o v in
    let f : Fits p = subst Fits (read_header raw p e) (header_fits raw o) in
    let k : p.checksum < 65536 = subst (λ (q : Packet). q.checksum < 65536) (read_header raw p e) (header_checksum raw o) in
    let q : Octets l = payload_octets raw o v in
    let h : header_sum p (length l) ≤ 65535 = header_sum_le p (length l) f n in
    let s : ones_sum (words l) ≤ 65535 = ones_sum_le (words l) (words_below l q) in
    record {
      field_le = omega arith;
      others_le = ones_add_le (header_sum p (length l)) (ones_sum (words l)) h s;
      sum = ap (λ (m : List ℕ). ones_sum (words m)) (sym (written_again raw p o e))
          ∙ sum_is p (length l) p.checksum l f (omega arith) k q ∙ field_first (header_sum p (length l)) p.checksum (ones_sum (words l)) h (omega arith) s;
      computed = checksum_is p l f (omega arith) q;
    }

is_valid : (b : Bool) → cond {A = Result Bool Refusal} b (Ok true) (Ok false) ≡ Ok true → b ≡ true
is_valid true e = refl
is_valid false e = let z : ◌≡◌ {A = ℕ} 0 1 = cc in absurd (omega arith)

pub valid_matches : (raw : List ℕ) (p : Packet) → from_bytes raw ≡ Ok p → validity raw ≡ Ok true → p.checksum ≡ checksum_of p (payload_of raw)
unfolding matches
valid_matches raw p e v = eqb-true _ _ (is_valid (matches p (payload_of raw)) (sym (validity_is raw p e) ∙ v))

pub matches_valid : (raw : List ℕ) (p : Packet) → from_bytes raw ≡ Ok p → p.checksum ≡ checksum_of p (payload_of raw) → validity raw ≡ Ok true
unfolding matches
matches_valid raw p e m = validity_is raw p e ∙ rw (eq-eqb _ _ m)

-- a valid datagram's sum is all ones
pub valid_all_ones : (raw : List ℕ) (p : Packet) → Octets raw → from_bytes raw ≡ Ok p → validity raw ≡ Ok true → receiver_sum raw ≡ 65535
valid_all_ones raw p o e v =
    let s = sums raw p o e in
    s.sum ∙ complement_all_ones p.checksum (others p (payload_of raw)) s.others_le (valid_matches raw p e v ∙ s.computed)

-- where the sum is all ones the datagram is valid, but for the field 0xFFFF where 0 is computed
pub all_ones_valid : (raw : List ℕ) (p : Packet) → Octets raw → from_bytes raw ≡ Ok p → receiver_sum raw ≡ 65535
    → (validity raw ≡ Ok true) ⊎ ((p.checksum ≡ 65535) × (checksum_of p (payload_of raw) ≡ 0))
all_ones_valid raw p o e h =
    let s = sums raw p o e in
    ⊎_elim (λ m. inl (matches_valid raw p e (m ∙ sym s.computed))) (λ m. inr (m.0, s.computed ∙ ap (λ (n : ℕ). 65535 - n) m.1))
    (all_ones p.checksum (others p (payload_of raw)) s.field_le s.others_le (sym s.sum ∙ h))

-- there RFC 1071 accepts and the reference doesn't
pub all_ones_invalid : (raw : List ℕ) (p : Packet) → Octets raw → from_bytes raw ≡ Ok p → p.checksum ≡ 65535 → checksum_of p (payload_of raw) ≡ 0
    → (receiver_sum raw ≡ 65535) × (validity raw ≡ Ok false)
unfolding matches ones_add
all_ones_invalid raw p o e k c =
    let s = sums raw p o e in
    let computed = s.computed in
    let le = s.others_le in
    (s.sum ∙ omega arith, validity_is raw p e ∙ rw (ne_eqb p.checksum (checksum_of p (payload_of raw)) (λ x. omega arith)))
