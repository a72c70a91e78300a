-- What is written is read back, and what is read is written back.
use Rattle.std.specs.Prelude.{Err, Ok}
use Prim.Native.Nat.{ℕ, ◌+◌, ◌*◌, ◌/◌, ◌%◌, ◌≤◌, ◌<◌}
use mathlib.Core.Path.{◌≡◌, refl, sym, ap, ◌∙◌}
use mathlib.Core.Bool.{true}
use mathlib.Core.List.{List, [], ◌∷◌, ◌++◌}
use native.Mathlib.Omega.{arith}
use borrow.Author.Tests.{eq-eqb, le-ltb}
use lib.ListN.{length, get_or, take, drop, length-append}
use lib.Seq.{take-append_seam, take-append-add, drop-cons}
use Rattle.octets.specs.Octets.{Octets}
use Rattle.refusal.specs.Order.{order, or_else, numbered, first_of, verdict, decide}
use Rattle.refusal.proofs.Laws.{decide_accepted, on_accepted}
use Rattle.packet.specs.Format.{byte_of, header_bytes, datagram, checksum_of, with_checksum, matches}
use Rattle.packet.specs.Reading.{declared, header_of, from_bytes, payload_of, validity}
use Rattle.packet.specs.Writing.{Written, to_bytes, written}
use Rattle.packet.specs.declared.Packet.{Packet}
use Rattle.packet.proofs.Types.{type_byte, byte_type, byte_is_type}
use Rattle.packet.proofs.Header.{two_bytes, high_half, low_half}
use Rattle.packet.proofs.Read.{Readable, read_accepted, accepted_readable, read_packet, read_header, payload_is, payload_length, validity_is}

be32_is : (n : ℕ) → ((n / 16777216 * 256 + n / 65536 % 256) * 256 + n / 256 % 256) * 256 + n % 256 ≡ n
be32_is n = omega (arith, high_half n, low_half n)

-- the bytes of a datagram whose length field holds any two bytes
abbrev pub with_length : Packet → ℕ → ℕ → List ℕ → List ℕ
with_length p hi lo l =
    (p.seq_num / 16777216) ∷ (p.seq_num / 65536 % 256) ∷ (p.seq_num / 256 % 256) ∷ (p.seq_num % 256) ∷ byte_of p.pkt_type ∷ p.flags ∷ hi ∷ lo ∷ (p.checksum / 256) ∷ (p.checksum % 256) ∷ l

pub with_length_header : (p : Packet) (hi lo : ℕ) (l : List ℕ) → header_of (with_length p hi lo l) ≡ p
unfolding header_of
with_length_header p hi lo l = rw (be32_is p.seq_num, type_byte p.pkt_type, two_bytes p.checksum)

with_length_readable : (p : Packet) (hi lo : ℕ) (l : List ℕ) → hi * 256 + lo ≤ length l → Readable (with_length p hi lo l)
with_length_readable p hi lo l h = record { long = omega arith; known = byte_is_type p.pkt_type; whole = omega arith }

pub with_length_read : (p : Packet) (hi lo : ℕ) (l : List ℕ) → hi * 256 + lo ≤ length l → from_bytes (with_length p hi lo l) ≡ Ok p
unfolding from_bytes
with_length_read p hi lo l h =
    on_accepted Err (Ok (header_of (with_length p hi lo l))) (read_accepted (with_length p hi lo l) (with_length_readable p hi lo l h))
    ∙ ap Ok (with_length_header p hi lo l)

pub with_length_payload : (p : Packet) (hi lo : ℕ) (l : List ℕ) → hi * 256 + lo ≤ length l → payload_of (with_length p hi lo l) ≡ take (hi * 256 + lo) l
with_length_payload p hi lo l h = payload_is (with_length p hi lo l) (read_accepted (with_length p hi lo l) (with_length_readable p hi lo l h))

-- what is written is read as the same packet, whatever follows it
pub read_back : (p : Packet) (payload rest : List ℕ) → from_bytes (datagram p payload ++ rest) ≡ Ok p
unfolding datagram header_bytes
read_back p payload rest = with_length_read p (length payload / 256) (length payload % 256) (payload ++ rest) (omega (arith, two_bytes (length payload), length-append payload rest))

pub payload_back : (p : Packet) (payload rest : List ℕ) → payload_of (datagram p payload ++ rest) ≡ payload
unfolding datagram header_bytes
payload_back p payload rest =
    with_length_payload p (length payload / 256) (length payload % 256) (payload ++ rest) (omega (arith, two_bytes (length payload), length-append payload rest))
    ∙ ap (λ (n : ℕ). take n (payload ++ rest)) (two_bytes (length payload)) ∙ take-append_seam payload rest

checksum_kept : (p : Packet) (payload : List ℕ) → matches (with_checksum p payload) payload ≡ true
unfolding matches checksum_of header_bytes
checksum_kept p payload = eq-eqb (checksum_of p payload) (checksum_of p payload) refl

pub valid_back : (p : Packet) (payload rest : List ℕ) → validity (datagram (with_checksum p payload) payload ++ rest) ≡ Ok true
valid_back p payload rest =
    validity_is _ (with_checksum p payload) (read_back (with_checksum p payload) payload rest)
    ∙ rw (payload_back (with_checksum p payload) payload rest, checksum_kept p payload)

-- the same of what the writer leaves in a buffer
pub written_read : (p : Packet) (payload out : List ℕ) (n : ℕ) (left : List ℕ) → to_bytes p payload out ≡ written (Ok n) left
    → (from_bytes left ≡ Ok p) × (payload_of left ≡ payload)
unfolding to_bytes
written_read p payload out n left e =
    let v = decide_accepted _ _ _ e (λ r f. let g : Err r ≡ Ok n = ap (λ (w : Written). w.answer) f in let z : ◌≡◌ {A = ℕ} 0 1 = cc in omega arith) in
    let f : written (Ok (10 + length payload)) (datagram p payload ++ drop (10 + length payload) out) ≡ written (Ok n) left = sym (on_accepted _ _ v) ∙ e in
    let g : datagram p payload ++ drop (10 + length payload) out ≡ left = ap (λ (w : Written). w.out) f in
    (rw (← g) (read_back p payload (drop (10 + length payload) out)), rw (← g) (payload_back p payload (drop (10 + length payload) out)))

-- what is accepted, written again, is the datagram up to its declared end
abbrev first_ten : List ℕ → List ℕ
first_ten raw = get_or raw 0 0 ∷ get_or raw 1 0 ∷ get_or raw 2 0 ∷ get_or raw 3 0 ∷ get_or raw 4 0 ∷ get_or raw 5 0 ∷ get_or raw 6 0 ∷ get_or raw 7 0 ∷ get_or raw 8 0 ∷ get_or raw 9 0 ∷ []

first_ten_lem : (raw : List ℕ) → 10 ≤ length raw → raw ≡ first_ten raw ++ drop 10 raw
first_ten_lem raw h =
    rw (← drop-cons raw 9 0 (omega arith), ← drop-cons raw 8 0 (omega arith), ← drop-cons raw 7 0 (omega arith), ← drop-cons raw 6 0 (omega arith), ← drop-cons raw 5 0 (omega arith), ← drop-cons raw 4 0 (omega arith), ← drop-cons raw 3 0 (omega arith), ← drop-cons raw 2 0 (omega arith), ← drop-cons raw 1 0 (omega arith), ← drop-cons raw 0 0 (omega arith))

high_of : (a b n : ℕ) → b < 256 → n ≡ a * 256 + b → n / 256 ≡ a
high_of a b n h e = omega arith

low_of : (a b n : ℕ) → b < 256 → n ≡ a * 256 + b → n % 256 ≡ b
low_of a b n h e = omega arith

written_header : (raw : List ℕ) → Octets raw → Readable raw → (n : ℕ) → n ≡ declared raw → header_bytes (header_of raw) n (header_of raw).checksum ≡ first_ten raw
unfolding header_bytes header_of
written_header raw o r n e =
    let number = ((get_or raw 0 0 * 256 + get_or raw 1 0) * 256 + get_or raw 2 0) * 256 + get_or raw 3 0 in
    let a = o.at 0 in
    let b = o.at 1 in
    let c = o.at 2 in
    let d = o.at 3 in
    let e0 : number / 16777216 ≡ get_or raw 0 0 = omega arith in
    let e1 : number / 65536 % 256 ≡ get_or raw 1 0 = omega arith in
    let e2 : number / 256 % 256 ≡ get_or raw 2 0 = omega arith in
    let e3 : number % 256 ≡ get_or raw 3 0 = omega arith in
    rw (e0, e1, e2, e3, byte_type (get_or raw 4 0) r.known, high_of _ _ n (o.at 7) e, low_of _ _ n (o.at 7) e, high_of _ _ (get_or raw 8 0 * 256 + get_or raw 9 0) (o.at 9) refl, low_of _ _ (get_or raw 8 0 * 256 + get_or raw 9 0) (o.at 9) refl)

pub written_again : (raw : List ℕ) (p : Packet) → Octets raw → from_bytes raw ≡ Ok p → datagram p (payload_of raw) ≡ take (10 + declared raw) raw
unfolding datagram
written_again raw p o e =
    let v = read_packet raw p e in
    let r = accepted_readable raw v in
    ap (λ (q : Packet). header_bytes q (length (payload_of raw)) q.checksum ++ payload_of raw) (sym (read_header raw p e))
    ∙ ap (λ (l : List ℕ). l ++ payload_of raw) (written_header raw o r (length (payload_of raw)) (payload_length raw v))
    ∙ ap (λ (l : List ℕ). first_ten raw ++ l) (payload_is raw v)
    ∙ sym (ap (take (10 + declared raw)) (first_ten_lem raw r.long) ∙ take-append-add (first_ten raw) (drop 10 raw) (declared raw))

-- the same, by the writer
pub written_again_by_to_bytes : (raw : List ℕ) (p : Packet) (out : List ℕ) → Octets raw → from_bytes raw ≡ Ok p → declared raw ≤ 1400 → 10 + declared raw ≤ length out
    → to_bytes p (payload_of raw) out ≡ written (Ok (10 + declared raw)) (take (10 + declared raw) raw ++ drop (10 + declared raw) out)
unfolding to_bytes verdict first_of numbered or_else order decide
written_again_by_to_bytes raw p out o e h k =
    simp (written_again raw p o e, payload_length raw (read_packet raw p e), le-ltb _ _ h, le-ltb _ _ k)
