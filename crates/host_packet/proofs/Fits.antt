-- The values of the answers survive the packing: a refusal's fit in 16 bits each, headers and lengths in 56.
use Rattle.std.specs.Prelude.{Err, Ok, Result}
use Prim.Native.Nat.{ℕ, ◌+◌, ◌≤◌, ◌<◌, min}
use mathlib.Core.Path.{◌≡◌, refl, ◌∙◌}
use mathlib.Core.Bool.{Bool, true, false, cond, not}
use mathlib.Core.List.{List, [], ◌∷◌, ◌++◌}
use native.Mathlib.Omega.{arith}
use borrow.Author.Tests.{ltb-true, ltb-false}
use lib.ListN.{length, get_or, drop, length-take}
use lib.Dec.{ltb}
use Rattle.bounds.specs.Bounds.{header_size, max_payload}
use Rattle.octets.specs.Octets.{Octets}
use Rattle.refusal.specs.declared.Refusal.{Refusal}
use Rattle.refusal.specs.declared.Refusal.TheVariants.{Short, Kind, Cut, Full, Long, Numbers}
use Rattle.refusal.specs.Order.{check, order, or_else, numbered, first_of, verdict, decide}
use Rattle.refusal.proofs.Laws.{either_answer, false_check}
use Rattle.packet.specs.Format.{with_checksum, datagram, matches, check_long}
use Rattle.packet.specs.Reading.{is_type, type_of, check_type, try_from, declared, present, read_checks, header_of, payload_part, from_bytes, payload_of, validity, given_checks}
use Rattle.packet.specs.Writing as writing
use Rattle.packet.specs.Writing.{Written, to_bytes}
use Rattle.packet.specs.declared.Packet.{Packet}
use Rattle.host_answer.specs.Answer.{value_limit, word_limit, ValuesFit}
use Rattle.host_answer.proofs.Laws.{of_answer, long_fits, numbers_fits, full_fits}
use Rattle.host_packet.specs.Packet.{max_byte, packet_of, unwritable, write_of, write_any}
use Rattle.host_packet.proofs.Laws.{HeaderBack, header_back}
use Rattle.packet.specs.declared.PacketType.{PacketType}

-- ---- a datagram's refusals
four : (short kind cut long : Bool) (n b d p : ℕ) (r : Refusal)
    → verdict (check long Long ∷ check short (Short n) ∷ check kind (Kind b) ∷ check cut (Cut d p) ∷ []) ≡ Err r
    → (short ≡ true → n < header_size) → b < 256 → d < word_limit → (cut ≡ true → p < d) → ValuesFit r
unfolding verdict first_of numbered or_else order
four true kind cut long n b d p r e hn hb hd hp =
    let same : Short n ≡ r = cc in let m = hn refl in rw (← same) (record { first = omega arith; second = omega arith })
four false true cut long n b d p r e hn hb hd hp =
    let same : Kind b ≡ r = cc in rw (← same) (record { first = omega arith; second = omega arith })
four false false true long n b d p r e hn hb hd hp =
    let same : Cut d p ≡ r = cc in let m = hp refl in rw (← same) (record { first = omega arith; second = omega arith })
four false false false true n b d p r e hn hb hd hp =
    let same : Long ≡ r = cc in rw (← same) (record { first = omega arith; second = omega arith })
four false false false false n b d p r e hn hb hd hp = let z : ◌≡◌ {A = ℕ} 0 1 = cc in absurd (omega arith)

module _ (raw : List ℕ) (o : Octets raw) (r : Refusal) where
  long_or_read : (long : Bool) → verdict (check long Long ∷ read_checks raw) ≡ Err r → ValuesFit r
  unfolding read_checks
  long_or_read long e =
      let high = o.at 6 in
      let low = o.at 7 in
      four (ltb (length raw) header_size) (not (is_type (get_or raw 4 0))) (ltb (present raw) (declared raw)) long (length raw) (get_or raw 4 0) (declared raw) (present raw) r e (λ h. ltb-true _ _ h) (o.at 4)
      (omega arith) (λ h. ltb-true _ _ h)

  -- where it is given to a sender or a receiver
  pub given_values : verdict (given_checks raw) ≡ Err r → ValuesFit r
  given_values e = long_or_read (ltb max_payload (length (payload_of raw))) e

  read_values : verdict (read_checks raw) ≡ Err r → ValuesFit r
  read_values e = long_or_read false (false_check Long (read_checks raw) ∙ e)

-- ---- reading
module _ {A : Type 0} (P : A → Type 0) (raw : List ℕ) (o : Octets raw) (f : Refusal → A) (a : A) (each : (r : Refusal) → ValuesFit r → P (f r)) (ok : P a) where
  by_reading_lem : (v : Result Unit Refusal) → verdict (read_checks raw) ≡ v → P (decide v f a)
  unfolding decide
  by_reading_lem (Ok tt) e = ok
  by_reading_lem (Err r) e = each r (read_values raw o r e)

  of_reading : P (decide (verdict (read_checks raw)) f a)
  of_reading = by_reading_lem (verdict (read_checks raw)) refl

module _ (raw : List ℕ) (o : Octets raw) where
  pub number_low : (header_of raw).seq_num < 4294967296
  unfolding header_of
  number_low =
      let a = o.at 0 in
      let b = o.at 1 in
      let c = o.at 2 in
      let d = o.at 3 in
      omega arith

  flags_low : (header_of raw).flags < 256
  unfolding header_of
  flags_low = o.at 5

  abbrev pub ReadFits : Result Packet Refusal → Type 0
  ReadFits (Ok p) = HeaderBack p
  ReadFits (Err r) = ValuesFit r

  pub read_fits : ReadFits (from_bytes raw)
  unfolding from_bytes
  read_fits =
      of_reading ReadFits raw o Err (Ok (header_of raw)) (λ r h. h) (header_back (header_of raw) number_low flags_low)

  abbrev pub ValidityFits : Result Bool Refusal → Type 0
  ValidityFits (Ok true) = Unit {0}
  ValidityFits (Ok false) = Unit {0}
  ValidityFits (Err r) = ValuesFit r

  either_valid : (b : Bool) → ValidityFits (cond b (Ok true) (Ok false))
  either_valid true = tt
  either_valid false = tt

  pub validate_fits : ValidityFits (validity raw)
  unfolding validity
  validate_fits =
      of_reading ValidityFits raw o Err (cond (matches (header_of raw) (payload_part raw)) (Ok true) (Ok false)) (λ r h. h)
      (either_valid (matches (header_of raw) (payload_part raw)))

  payload_low : length (payload_of raw) < value_limit
  unfolding payload_of payload_part
  payload_low =
      either_answer (λ (l : List ℕ). length l < value_limit) (verdict (read_checks raw)) (λ r. []) (payload_part raw) (λ r. omega arith)
      (λ e. let high = o.at 6 in let low = o.at 7 in let size = length-take (declared raw) (drop header_size raw) in omega (arith, size, high, low))

  -- with the payload, whose length is answered
  abbrev pub PayloadFits : Result Packet Refusal → Type 0
  PayloadFits (Ok p) = length (payload_of raw) < value_limit
  PayloadFits (Err r) = ValuesFit r

  pub payload_fits : PayloadFits (from_bytes raw)
  unfolding from_bytes
  payload_fits = of_reading PayloadFits raw o Err (Ok (header_of raw)) (λ r h. h) payload_low

-- ---- writing
abbrev pub LengthFits : Result ℕ Refusal → Type 0
LengthFits (Ok n) = n < value_limit
LengthFits (Err r) = ValuesFit r

abbrev TypeFits : Result PacketType Refusal → Type 0
TypeFits (Ok t) = Unit {0}
TypeFits (Err r) = ValuesFit r

type_fits : (b : ℕ) → b ≤ max_byte → TypeFits (try_from b)
unfolding try_from
type_fits b h =
    of_answer TypeFits (check_type b ∷ []) Err (Ok (type_of b)) (record { first = omega arith; second = omega arith }, tt) (λ none. tt)

bytes_fit : (p : Packet) (payload out : List ℕ) → LengthFits (to_bytes p payload out).answer
unfolding to_bytes
bytes_fit p payload out =
    of_answer (λ (w : Written). LengthFits w.answer) (check_long payload ∷ check (ltb (length out) (header_size + length payload)) Full ∷ []) (λ r. writing.written (Err r) out)
    (writing.written (Ok (header_size + length payload)) (datagram p payload ++ drop (header_size + length payload) out)) (long_fits, (full_fits, tt))
    (λ none. let short = ltb-false max_payload (length payload) none.0 in omega (arith, short))

of_fits : (t : Result PacketType Refusal) (n flags : ℕ) (payload out : List ℕ) → TypeFits t → LengthFits (write_of t n flags payload out).answer
unfolding write_of
of_fits (Ok t) n flags payload out h =
    of_answer (λ (w : Written). LengthFits w.answer) (check_long payload ∷ check (unwritable n flags) Numbers ∷ []) (λ r. writing.written (Err r) out)
    (to_bytes (with_checksum (packet_of n t flags) payload) payload out) (long_fits, (numbers_fits, tt)) (λ none. bytes_fit _ payload out)
of_fits (Err r) n flags payload out h = h

least : (a b : ℕ) → min a b ≤ b
least a b = omega arith

pub write_fits : (kind n flags : ℕ) (payload out : List ℕ) → LengthFits (write_any kind n flags payload out).answer
write_fits kind n flags payload out = of_fits (try_from (min kind max_byte)) n flags payload out (type_fits (min kind max_byte) (least kind max_byte))
