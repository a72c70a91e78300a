-- Laws of `read_datagram`: what a datagram given to a sender or a receiver is.
use Rattle.std.specs.Prelude.{Err, Ok, Result}
use Prim.Native.Nat.{ℕ, ◌≤◌, ◌<◌}
use mathlib.Core.Path.{◌≡◌, refl, sym, ap, ◌∙◌}
use mathlib.Core.Bool.{Bool, true, false, cond}
use mathlib.Core.List.{List, [], ◌∷◌, ◌++◌, append-nil}
use native.Mathlib.Omega.{arith}
use borrow.Author.Tests.{ltb-false, lt-ltb, le-ltb, eqb-true, eq-eqb}
use lib.ListN.{length}
use lib.Dec.{ltb, eqb}
use Rattle.bounds.specs.Bounds.{max_payload}
use Rattle.refusal.specs.declared.Refusal.{Refusal}
use Rattle.refusal.specs.declared.Refusal.TheVariants as refusal
use Rattle.refusal.specs.Refusal.{entry_of}
use Rattle.refusal.specs.Order.{Check, check, order, verdict}
use Rattle.refusal.proofs.Laws.{false_check, true_check, accepted_none_true, none_true_accepted, on_accepted, on_refused, decide_refused, EachRefusal, refused_one_of, has, precedes_in, skip_later}
use Rattle.packet.specs.Format.{header_bytes, checksum_of, with_checksum, made, matches}
use Rattle.packet.specs.Reading.{read_checks, header_of, payload_part, from_bytes, payload_of, validity, given_checks, read_datagram, reading_checks}
use Rattle.packet.specs.declared.Packet.{Packet}
use Rattle.packet.specs.declared.DatagramReading.{DatagramReading}
use Rattle.packet.specs.declared.DatagramReading.TheVariants as reading
use Rattle.packet.proofs.Read.{read_packet, read_refused, read_header, payload_is, payload_none, validity_is}
use Rattle.packet.proofs.RoundTrip.{read_back, payload_back}
use Rattle.refusal.specs.Order.{passed}

-- by what `from_bytes` answers
module _ (raw : List ℕ) where
  pub given_refused : (r : Refusal) → from_bytes raw ≡ Err r → read_datagram raw ≡ Err r
  unfolding read_datagram
  given_refused r e =
      let v = read_refused raw r e in
      let short : ltb max_payload (length (payload_of raw)) ≡ false = rw (payload_none raw v) in
      on_refused Err _
      (ap (λ (b : Bool). verdict (check b refusal.Long ∷ read_checks raw)) short ∙ false_check refusal.Long (read_checks raw) ∙ v)

  module _ (p : Packet) (e : from_bytes raw ≡ Ok p) where
    pub payload_part_lem : payload_part raw ≡ payload_of raw
    unfolding payload_part
    payload_part_lem = sym (payload_is raw (read_packet raw p e))

    pub given_long : max_payload < length (payload_of raw) → read_datagram raw ≡ Err refusal.Long
    unfolding read_datagram
    given_long h =
        on_refused Err _
        (ap (λ (b : Bool). verdict (check b refusal.Long ∷ read_checks raw)) (lt-ltb _ _ h)
        ∙ true_check refusal.Long (read_checks raw) (accepted_none_true (read_checks raw) (read_packet raw p e)))

    pub given_packet : length (payload_of raw) ≤ max_payload → read_datagram raw ≡ cond (matches p (payload_of raw)) (Ok (reading.Valid p)) (Ok (reading.Corrupted p))
    unfolding read_datagram
    given_packet h =
        on_accepted Err _ (none_true_accepted (given_checks raw) (le-ltb _ _ h, accepted_none_true (read_checks raw) (read_packet raw p e)))
        ∙ ap (λ (q : Packet). cond (matches q (payload_of raw)) (Ok (reading.Valid q)) (Ok (reading.Corrupted q))) (read_header raw p e)

-- what a reading says of the datagram
by_match : (b : Bool) (p : Packet) (r : Refusal) → cond b (Ok (reading.Valid p)) (Ok (reading.Corrupted p)) ≡ Err r → ⊥
by_match true p r e = let z : ◌≡◌ {A = ℕ} 0 1 = cc in omega arith
by_match false p r e = let z : ◌≡◌ {A = ℕ} 0 1 = cc in omega arith

-- the numbers of the refusals that reading gives, and their place in the order
abbrev reading_numbers : List ℕ
reading_numbers = 1 ∷ 2 ∷ 3 ∷ 6 ∷ []

abbrev IsReadings : Refusal → Type 0
IsReadings r = has (entry_of r).number reading_numbers ≡ true

reading_refusal : (raw : List ℕ) (r : Refusal) → read_datagram raw ≡ Err r → IsReadings r
unfolding read_datagram read_checks
reading_refusal raw r e =
    let rest : EachRefusal IsReadings (read_checks raw) = (refl, (refl, (refl, tt))) in
    refused_one_of IsReadings r (given_checks raw) (refl, rest)
    (decide_refused (verdict (given_checks raw)) Err _ r e (λ f. by_match (matches (header_of raw) (payload_of raw)) (header_of raw) r f) (λ s f. cc))

abbrev pub all : (ℕ → Bool) → List ℕ → Bool
all test [] = true
all test (n ∷ ns) = cond (test n) (all test ns) false

all_has : (test : ℕ → Bool) (n : ℕ) (ns : List ℕ) → all test ns ≡ true → has n ns ≡ true → test n ≡ true
all_has test n [] h k = let z : ◌≡◌ {A = ℕ} 0 1 = cc in absurd (omega arith)
all_has test n (m ∷ ms) h k = by_tests (test m) (eqb n m) refl refl h k (all_has test n ms) where
  by_tests : (a b : Bool) → test m ≡ a → eqb n m ≡ b → cond a (all test ms) false ≡ true → cond b true (has n ms) ≡ true
      → (all test ms ≡ true → has n ms ≡ true → test n ≡ true) → test n ≡ true
  by_tests true true f g h k rest = rw (eqb-true n m g) f
  by_tests true false f g h k rest = rest h k
  by_tests false b f g h k rest = let z : ◌≡◌ {A = ℕ} 0 1 = cc in absurd (omega arith)

-- a refusal that comes before them is answered whatever the datagram
abbrev pub before_reading : Refusal → Bool
before_reading s = all (precedes_in order (entry_of s).number) reading_numbers

pub reading_after : (raw : List ℕ) (s : Refusal) (cs : List Check) → before_reading s ≡ true → verdict cs ≡ Err s
    → verdict (reading_checks (read_datagram raw) ++ cs) ≡ Err s
reading_after raw s cs h e = by_reading_lem (read_datagram raw) refl where
  by_reading_lem : (x : Result DatagramReading Refusal) → read_datagram raw ≡ x → verdict (reading_checks x ++ cs) ≡ Err s
  by_reading_lem (Ok (reading.Valid p)) f = e
  by_reading_lem (Ok (reading.Corrupted p)) f = e
  by_reading_lem (Err r) f =
      skip_later true r s cs e (all_has (precedes_in order (entry_of s).number) (entry_of r).number reading_numbers h (reading_refusal raw r f))

-- and one that comes after them changes nothing where a datagram is refused
abbrev pub after_reading : Refusal → Bool
after_reading s = all (λ n. precedes_in order n (entry_of s).number) reading_numbers

pub reading_before : (raw : List ℕ) (b : Bool) (r s : Refusal) (cs : List Check) → after_reading s ≡ true → read_datagram raw ≡ Err r
    → verdict cs ≡ Err r → verdict (check b s ∷ cs) ≡ Err r
reading_before raw b r s cs h f e =
    skip_later b s r cs e (all_has (λ n. precedes_in order n (entry_of s).number) (entry_of r).number reading_numbers h (reading_refusal raw r f))

-- a datagram that isn't refused
abbrev pub Taken : List ℕ → Type 0
Taken raw = (r : Refusal) → read_datagram raw ≡ Err r → ⊥

taken_accepted : (raw : List ℕ) → Taken raw → verdict (given_checks raw) ≡ passed
unfolding read_datagram
taken_accepted raw h = by_verdict (verdict (given_checks raw)) refl where
  by_verdict : (v : Result Unit Refusal) → verdict (given_checks raw) ≡ v → verdict (given_checks raw) ≡ passed
  by_verdict (Ok tt) e = e
  by_verdict (Err r) e = absurd (h r (on_refused Err _ e))

pub taken_short : (raw : List ℕ) → Taken raw → length (payload_of raw) ≤ max_payload
taken_short raw h = ltb-false max_payload (length (payload_of raw)) (accepted_none_true (given_checks raw) (taken_accepted raw h)).0

pub valid_taken : (raw : List ℕ) {p : Packet} → read_datagram raw ≡ Ok (reading.Valid p) → Taken raw
valid_taken raw e r f = let z : ◌≡◌ {A = ℕ} 0 1 = cc in omega arith

pub corrupted_taken : (raw : List ℕ) {p : Packet} → read_datagram raw ≡ Ok (reading.Corrupted p) → Taken raw
corrupted_taken raw e r f = let z : ◌≡◌ {A = ℕ} 0 1 = cc in omega arith

-- a datagram that isn't valid is refused or corrupted
pub valid_is_valid : (raw : List ℕ) (p : Packet) → read_datagram raw ≡ Ok (reading.Valid p) → validity raw ≡ Ok true
unfolding read_datagram from_bytes
valid_is_valid raw p e =
    let none = accepted_none_true (given_checks raw) (taken_accepted raw (valid_taken raw e)) in
    let v = none_true_accepted (read_checks raw) none.1 in
    by_test_lem (matches (header_of raw) (payload_of raw)) refl
    (sym (on_accepted Err _ (taken_accepted raw (valid_taken raw e))) ∙ e)
    (validity_is raw (header_of raw) (on_accepted Err (Ok (header_of raw)) v))
  where
    by_test_lem : (b : Bool) → matches (header_of raw) (payload_of raw) ≡ b → cond {A = Result DatagramReading Refusal} b (Ok (reading.Valid (header_of raw))) (Ok (reading.Corrupted (header_of raw))) ≡ Ok (reading.Valid p)
        → validity raw ≡ cond b (Ok true) (Ok false) → validity raw ≡ Ok true
    by_test_lem true m f g = g
    by_test_lem false m f g = let z : ◌≡◌ {A = ℕ} 0 1 = cc in absurd (omega arith)

-- a made datagram
module _ (p : Packet) (payload : List ℕ) where
  made_read : from_bytes (made p payload) ≡ Ok (with_checksum p payload)
  made_read = ap from_bytes (sym (append-nil (made p payload))) ∙ read_back (with_checksum p payload) payload []

  pub made_payload : payload_of (made p payload) ≡ payload
  made_payload = ap payload_of (sym (append-nil (made p payload))) ∙ payload_back (with_checksum p payload) payload []

  made_matches : matches (with_checksum p payload) payload ≡ true
  unfolding matches checksum_of header_bytes
  made_matches = eq-eqb (checksum_of p payload) (checksum_of p payload) refl

  pub made_given : length payload ≤ max_payload → read_datagram (made p payload) ≡ Ok (reading.Valid (with_checksum p payload))
  made_given h = given_packet (made p payload) (with_checksum p payload) made_read (rw made_payload h) ∙ rw (made_payload, made_matches)
