-- Laws of reading a datagram.
use Rattle.std.specs.Prelude.{Err, Ok, Result}
use Prim.Native.Nat.{ℕ, ◌+◌, ◌≤◌, ◌<◌}
use mathlib.Core.Path.{◌≡◌, refl, sym, ap, ◌∙◌}
use mathlib.Core.Bool.{Bool, true, false, cond, not}
use mathlib.Core.List.{List, [], ◌∷◌}
use native.Mathlib.Omega.{arith}
use borrow.Author.Tests.{ltb-false, lt-ltb, le-ltb}
use lib.ListN.{length, get_or, take, drop, length-take, length-drop}
use Rattle.octets.specs.Octets.{Octets}
use Rattle.refusal.specs.declared.Refusal.{Refusal}
use Rattle.refusal.specs.declared.Refusal.TheVariants.{Short, Kind, Cut}
use Rattle.refusal.proofs.Laws.{accepted_none_true, decide_accepted, decide_refused, on_accepted, on_refused}
use Rattle.refusal.specs.Order.{order, or_else, numbered, first_of, verdict, decide, check}
use Rattle.packet.specs.Format.{matches}
use Rattle.packet.specs.Reading.{is_type, type_of, check_type, try_from, declared, present, read_checks, header_of, payload_part, from_bytes, payload_of, validity}
use Rattle.packet.specs.declared.PacketType.{PacketType}
use Rattle.packet.specs.declared.Packet.{Packet}
use Rattle.refusal.specs.Order.{passed}

-- none of the lines 1, 2, 3 is true
pub record Readable (raw : List ℕ) : Type 0 where
  pub long : 10 ≤ length raw
  pub known : is_type (get_or raw 4 0) ≡ true
  pub whole : declared raw ≤ present raw

not_is_false : (b : Bool) → not b ≡ false → b ≡ true
not_is_false true e = refl
not_is_false false e = let z : ◌≡◌ {A = ℕ} 0 1 = cc in absurd (omega arith)

-- the verdict on a reading, by its lines
pub read_short : (raw : List ℕ) → length raw < 10 → verdict (read_checks raw) ≡ Err (Short (length raw))
unfolding read_checks verdict first_of numbered or_else order
read_short raw h = simp (lt-ltb _ _ h)

pub read_kind : (raw : List ℕ) → 10 ≤ length raw → is_type (get_or raw 4 0) ≡ false → verdict (read_checks raw) ≡ Err (Kind (get_or raw 4 0))
unfolding read_checks verdict first_of numbered or_else order
read_kind raw h k = simp (le-ltb _ _ h, k)

pub read_cut : (raw : List ℕ) → 10 ≤ length raw → is_type (get_or raw 4 0) ≡ true → present raw < declared raw → verdict (read_checks raw) ≡ Err (Cut (declared raw) (present raw))
unfolding read_checks verdict first_of numbered or_else order
read_cut raw h k l = simp (le-ltb _ _ h, k, lt-ltb _ _ l)

pub read_accepted : (raw : List ℕ) → Readable raw → verdict (read_checks raw) ≡ passed
unfolding read_checks verdict first_of numbered or_else order
read_accepted raw r = simp (le-ltb _ _ r.long, r.known, le-ltb _ _ r.whole)

pub accepted_readable : (raw : List ℕ) → verdict (read_checks raw) ≡ passed → Readable raw
unfolding read_checks
accepted_readable raw v =
    let p = accepted_none_true (read_checks raw) v in
    record { long = ltb-false _ _ p.0; known = not_is_false (is_type (get_or raw 4 0)) p.1.0; whole = ltb-false _ _ p.1.1.0 }

by_type_lem : (b : ℕ) (r : Refusal) (t : Bool) → is_type b ≡ t → decide (verdict (check (not t) (Kind b) ∷ [])) Err (Ok (type_of b)) ≡ Err r → is_type b ≡ false
unfolding verdict first_of numbered or_else order decide
by_type_lem b r false f e = f
by_type_lem b r true f e = let z : ◌≡◌ {A = ℕ} 0 1 = cc in absurd (omega arith)

-- what the answers say of the verdict
pub read_packet : (raw : List ℕ) (p : Packet) → from_bytes raw ≡ Ok p → verdict (read_checks raw) ≡ passed
unfolding from_bytes
read_packet raw p e =
    decide_accepted (verdict (read_checks raw)) Err (Ok (header_of raw)) e
    (λ r f. let z : ◌≡◌ {A = ℕ} 0 1 = cc in omega arith)

pub read_refused : (raw : List ℕ) (r : Refusal) → from_bytes raw ≡ Err r → verdict (read_checks raw) ≡ Err r
unfolding from_bytes
read_refused raw r e =
    decide_refused (verdict (read_checks raw)) Err (Ok (header_of raw)) r e
    (λ f. let z : ◌≡◌ {A = ℕ} 0 1 = cc in omega arith) (λ s f. cc)

pub type_accepted : (b : ℕ) (t : PacketType) → try_from b ≡ Ok t → (is_type b ≡ true) × (t ≡ type_of b)
unfolding try_from
type_accepted b t e =
    let v : verdict (check_type b ∷ []) ≡ passed =
    decide_accepted (verdict (check_type b ∷ [])) Err (Ok (type_of b)) e (λ r f. let z : ◌≡◌ {A = ℕ} 0 1 = cc in omega arith) in
    let g : try_from b ≡ Ok (type_of b) = on_accepted Err (Ok (type_of b)) v in
    (not_is_false (is_type b) (accepted_none_true (check_type b ∷ []) v).0, cc)

pub type_refused : (b : ℕ) (r : Refusal) → try_from b ≡ Err r → is_type b ≡ false
unfolding try_from verdict first_of numbered or_else order decide
type_refused b r e = by_type_lem b r (is_type b) refl e

-- a byte that is no kind is refused by that byte
pub type_refused_by : (b : ℕ) (r : Refusal) → try_from b ≡ Err r → Kind b ≡ r
unfolding try_from verdict first_of numbered or_else order decide
type_refused_by b r e = let k = type_refused b r e in let f : ◌≡◌ {A = Result PacketType Refusal} (Err (Kind b)) (Err r) = (rw k at e) in cc

pub payload_is : (raw : List ℕ) → verdict (read_checks raw) ≡ passed → payload_of raw ≡ take (declared raw) (drop 10 raw)
unfolding payload_of payload_part
payload_is raw v = on_accepted (λ (r : Refusal). []) (payload_part raw) v

pub declared_within : (raw : List ℕ) → verdict (read_checks raw) ≡ passed → 10 + declared raw ≤ length raw
declared_within raw v = let r = accepted_readable raw v in omega (arith, r.long, r.whole)

pub payload_none : (raw : List ℕ) {r : Refusal} → verdict (read_checks raw) ≡ Err r → payload_of raw ≡ []
unfolding payload_of
payload_none raw v = on_refused (λ (r : Refusal). []) (payload_part raw) v

pub read_header : (raw : List ℕ) (p : Packet) → from_bytes raw ≡ Ok p → header_of raw ≡ p
unfolding from_bytes
read_header raw p e =
    let f : from_bytes raw ≡ Ok (header_of raw) = on_accepted Err (Ok (header_of raw)) (read_packet raw p e) in cc

pub validity_is : (raw : List ℕ) (p : Packet) → from_bytes raw ≡ Ok p → validity raw ≡ cond (matches p (payload_of raw)) (Ok true) (Ok false)
unfolding validity payload_part
validity_is raw p e =
    let v = read_packet raw p e in
    on_accepted Err _ v
    ∙ ap (λ (q : Packet). cond (matches q (payload_part raw)) (Ok true) (Ok false)) (read_header raw p e)
    ∙ ap (λ (l : List ℕ). cond (matches p l) (Ok true) (Ok false)) (sym (payload_is raw v))

-- a test that is answered
pub as_cond : (b : Bool) → ◌≡◌ {A = Result Bool Refusal} (Ok b) (cond b (Ok true) (Ok false))
as_cond true = refl
as_cond false = refl

pub validity_none : (raw : List ℕ) {r : Refusal} → verdict (read_checks raw) ≡ Err r → validity raw ≡ Err r
unfolding validity
validity_none raw v = on_refused Err _ v

pub payload_length : (raw : List ℕ) → verdict (read_checks raw) ≡ passed → length (payload_of raw) ≡ declared raw
payload_length raw v =
    let r = accepted_readable raw v in
    ap length (payload_is raw v) ∙ simp (length-take, length-drop) (omega (arith, r.whole))

pub payload_below : (raw : List ℕ) → Octets raw → verdict (read_checks raw) ≡ passed → length (payload_of raw) ≤ 65535
payload_below raw o v = omega (arith, payload_length raw v, o.at 6, o.at 7)
