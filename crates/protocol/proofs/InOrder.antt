-- Stop-and-Wait and Go-Back-N: what a segment handed to the receiver and an ACK handed to the sender do to the invariant.
use mathlib.Core.Path.{◌≡◌, refl, sym, ap, ap₂, ◌∙◌}
use mathlib.Core.Bool.{Bool, true, false, cond}
use mathlib.Core.List.{List, [], ◌∷◌, ◌++◌, append-nil, Memᴰ}
use Prim.Native.Nat.{ℕ, suc, ◌+◌, ◌-◌, ◌≤◌, ◌<◌}
use native.Mathlib.Omega.{arith}
use lib.ListN.{length, get_or, take, drop}
use lib.Seq.{take-suc, drop-drop, get_or-drop}
use lib.Dec.{leb, ltb, eqb}
use borrow.Author.Tests.{leb-true, eqb-true, eqb-false, lt-ltb, le-leb, lt-leb}
use Rattle.protocol.specs.Machine.{Chunk, Segment, SenderState, next_number, move_base, accept, acknowledge, late_acks, receive_in_order}
use Rattle.protocol.specs.Machine
use Rattle.protocol.specs.PlainMachine.{PlainState, with_d, with_a, plain_ack, WindowFits}
use Rattle.protocol.specs.Trace.{World, acknowledged, step}
use Rattle.protocol.specs.declared.ProtocolType.{ProtocolType}
use Rattle.protocol.specs.declared.ProtocolType.TheVariants.{StopAndWait, GoBackN, SelectiveRepeat}
use Rattle.protocol.proofs.Every.{Every, every_nil, every_cons, every_append, every_snoc, every_mono}
use Rattle.protocol.proofs.Marks.{false_true}
use Rattle.protocol.proofs.Invariant.{is_selective, Carries, Ends, Invariant, answered, chunks_length}

-- ---- a segment is handed to the receiver

-- the expected number is delivered
taken : (w : ℕ) (v : World) (s : PlainState) (q : Segment) → Invariant false w v s → Carries s.sent q → q.number ≡ s.D
    → Invariant false w (answered v (Machine.received (record { base = v.receiver.base + 1; held = v.receiver.held }) (q.payload ∷ []) (q.number ∷ [])))
    (with_d s (s.D + 1))
taken w v s q i c e =
    let h = i.ends in
    let l : s.D < length s.sent = omega arith in
    let next : suc s.D ≡ s.D + 1 = omega arith in
    record {
      ends = record {
        base_is = h.base_is;
        chunks_is = h.chunks_is;
        expected_is = ap (λ (x : ℕ). x + 1) h.expected_is;
        delivered_is =
            ap₂ (λ (x y : List Chunk). x ++ y) h.delivered_is (ap (λ (x : Chunk). x ∷ []) (c.same ∙ ap (λ (x : ℕ). get_or s.sent x []) e))
            ∙ sym (take-suc s.sent s.D [] l) ∙ ap (λ (x : ℕ). take x s.sent) next;
        A≤D = omega arith;
        D≤sent = omega arith;
        fits = h.fits;
      };
      own = record { no_marks = i.own.no_marks; none_noted = i.own.none_noted };
      segments_carry = i.segments_carry;
      acks_noted = every_snoc (every_mono (λ n m. omega arith) i.acks_noted) (omega arith);
    }

-- an answer to a number that isn't the expected one is below it; a Stop-and-Wait receiver is never handed a number above it
late_below : (p : ProtocolType) (w d n a : ℕ) → WindowFits p w → (n ≡ d → ⊥) → n < a + w → a ≤ d → Every (λ m. m < d) (late_acks p d n)
late_below StopAndWait w d n a o ne l le = let e : ltb n d ≡ true = lt-ltb n d (omega arith) in rw e (every_cons (omega arith) every_nil)
late_below GoBackN w d n a o ne l le = go (eqb d 0) refl
  where
    go : (b : Bool) → eqb d 0 ≡ b → Every (λ m. m < d) (late_acks GoBackN d n)
    go true e = rw e every_nil
    go false e = let x : d ≡ 0 → ⊥ = eqb-false d 0 e in rw e (every_cons (omega arith) every_nil)
late_below SelectiveRepeat w d n a o ne l le = every_nil

pub received_in_order : (p : ProtocolType) (w : ℕ) (v : World) (s : PlainState) (q : Segment) → WindowFits p w → Invariant false w v s
    → Memᴰ q v.segments
    → Invariant false w (answered v (receive_in_order p v.receiver q)) (cond (eqb q.number s.D) (with_d s (s.D + 1)) s)
received_in_order p w v s q o i m = go (eqb q.number s.D) refl
  where
    c : Carries s.sent q
    c = i.segments_carry.all q m

    go : (t : Bool) → eqb q.number s.D ≡ t
        → Invariant false w (answered v (receive_in_order p v.receiver q)) (cond (eqb q.number s.D) (with_d s (s.D + 1)) s)
    go true e =
        let e' : eqb q.number v.receiver.base ≡ true = rw i.ends.expected_is e in
        rw (e, e') (taken w v s q i c (eqb-true q.number s.D e))
    go false e =
        let ne : q.number ≡ s.D → ⊥ = eqb-false q.number s.D e in
        let e' : eqb q.number v.receiver.base ≡ false = rw i.ends.expected_is e in
        let h = i.ends in
        let k : Every (λ n. n < s.D) (late_acks p s.D q.number) = late_below p w s.D q.number s.A o ne (omega (arith, c, h)) h.A≤D in
        rw (e, e', append-nil v.delivered) (record
        { ends = h; own = i.own; segments_carry = i.segments_carry; acks_noted = every_append i.acks_noted (rw h.expected_is k) })

-- ---- an ACK is handed to the sender

-- the sender's base goes on to n + 1
raised : (w : ℕ) (v : World) (s : PlainState) (n : ℕ) → Invariant false w v s → s.A ≤ n → n < s.D
    → Invariant false w
    (record {
      sender = move_base v.sender (suc n - v.sender.base);
      receiver = v.receiver;
      delivered = v.delivered;
      segments = v.segments;
      acks = v.acks;
    })
    (with_a s (n + 1))
raised w v s n i t l =
    let h = i.ends in
    let far : s.A + (suc n - s.A) ≡ n + 1 = omega arith in
    let x : v.sender.base + (suc n - v.sender.base) ≡ n + 1 = omega arith in
    record {
      ends = record {
        base_is = x;
        chunks_is = ap₂ drop (ap (λ (x : ℕ). suc n - x) h.base_is) h.chunks_is
            ∙ drop-drop (suc n - s.A) s.A s.sent ∙ ap (λ (x : ℕ). drop x s.sent) far;
        expected_is = h.expected_is;
        delivered_is = h.delivered_is;
        A≤D = omega arith;
        D≤sent = h.D≤sent;
        fits = omega arith;
      };
      own = record {
        no_marks = λ j. get_or-drop (suc n - v.sender.base) v.sender.acknowledged j false ∙ i.own.no_marks (suc n - v.sender.base + j);
        none_noted = i.own.none_noted;
      };
      segments_carry = i.segments_carry;
      acks_noted = i.acks_noted;
    }

-- the plain machine on an ACK that may have come: in Stop-and-Wait too, it is of A or of one before it
abbrev pub raise : PlainState → ℕ → PlainState
raise s n = cond (leb s.A n) (with_a s (n + 1)) s

pub raise_is : (p : ProtocolType) (w : ℕ) (s : PlainState) (n : ℕ) → is_selective p ≡ false → WindowFits p w → n < s.A + w → plain_ack p s n ≡ raise s n
unfolding plain_ack
raise_is SelectiveRepeat w s n z o l = false_true (sym z)
raise_is GoBackN w s n z o l = refl
raise_is StopAndWait w s n z o l = go (eqb n s.A) refl
  where
    go : (b : Bool) → eqb n s.A ≡ b → plain_ack StopAndWait s n ≡ raise s n
    go true e =
        let t : n ≡ s.A = eqb-true n s.A e in
        let e' : leb s.A n ≡ true = le-leb s.A n (omega arith) in
        let x : s.A + 1 ≡ n + 1 = omega arith in
        rw (e, e') (ap (with_a s) x)
    go false e =
        let t : n ≡ s.A → ⊥ = eqb-false n s.A e in
        let e' : leb s.A n ≡ false = lt-leb s.A n (omega arith) in
        rw (e, e')

accept_is : (p : ProtocolType) (s : SenderState) (n : ℕ) → is_selective p ≡ false → accept p s n ≡ move_base s (suc n - s.base)
accept_is StopAndWait s n z = refl
accept_is GoBackN s n z = refl
accept_is SelectiveRepeat s n z = false_true (sym z)

pub acknowledged_in_order : (p : ProtocolType) (w : ℕ) (v : World) (s : PlainState) (n : ℕ) → is_selective p ≡ false → WindowFits p w → Invariant false w v s
    → Memᴰ n v.acks → Invariant false w (step p w v (acknowledged n)) (plain_ack p s n)
unfolding step acknowledge
acknowledged_in_order p w v s n z o i m = rw (raise_is p w s n z o (omega (arith, l, h))) (go (leb s.A n) refl)
  where
    h : Ends w v.sender v.receiver v.delivered s
    h = i.ends

    l : n < s.D
    l = i.acks_noted.all n m

    go : (t : Bool) → leb s.A n ≡ t → Invariant false w (step p w v (acknowledged n)) (raise s n)
    go true e =
        let t : s.A ≤ n = leb-true s.A n e in
        let x : length v.sender.chunks ≡ length s.sent - s.A = chunks_length h in
        let e' : leb v.sender.base n ≡ true = le-leb v.sender.base n (omega (arith, h)) in
        let e'' : ltb n (next_number v.sender) ≡ true = lt-ltb n (next_number v.sender) (omega (arith, h, l)) in
        rw (e, e', e'', accept_is p v.sender n z) (raised w v s n i t l)
    go false e =
        let e' : leb v.sender.base n ≡ false = rw h.base_is e in
        rw (e, e') i
