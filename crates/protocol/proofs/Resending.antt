-- One resending of all that is outstanding, carried whole, answers too, in every interleaving: nothing is outstanding after it.
use mathlib.Core.Path.{◌≡◌, refl, sym, ap, ◌∙◌}
use mathlib.Core.Logic.{◌⊎◌, inl, inr}
use mathlib.Core.Bool.{Bool, true, false, cond}
use mathlib.Core.List.{List, [], ◌∷◌, ◌++◌, map, map-append, append_assoc, Memᴰ}
use Prim.Native.Nat.{ℕ, zero, suc, ◌+◌, ◌-◌, ◌≤◌, ◌<◌}
use native.Mathlib.Omega.{arith}
use native.Mathlib.Decide.{dec_lt}
use lib.ListN.{length, get_or, take, drop, take-append-drop}
use lib.Dec.{leb, ltb, eqb}
use borrow.Author.Tests.{leb-true, leb-false, eqb-false, lt-ltb, le-leb, ne_eqb}
use Rattle.protocol.specs.Runs.{lead, up_from}
use Rattle.protocol.specs.Machine.{Segment, SenderState, next_number, segment_at, segments_from, is_acknowledged, acknowledge, late_acks, receive, receive_in_order}
use Rattle.protocol.specs.PlainMachine.{send_chunk, handle_timeout, handle_data, handle_ack, PlainState, note, with_d, with_receiver, plain_data, plain_ack, plain_call, plain_step, plain_run, WindowFits}
use Rattle.protocol.specs.Trace.{World, Event, sent, resent, received, acknowledged, other, step, Allowed, Admissible, call_of, is_outstanding, outstanding_of, outstanding, ResendsAll}
use Rattle.protocol.specs.declared.ProtocolType.{ProtocolType}
use Rattle.protocol.specs.declared.ProtocolType.TheVariants.{StopAndWait, GoBackN, SelectiveRepeat}
use Rattle.protocol.proofs.Every.{Every, every_nil, every_append, every_mono, every_head, every_tail}
use Rattle.protocol.proofs.Marks.{On, false_true, lead_below, lead_least, lead_reaches, note_same, on_note}
use Rattle.protocol.proofs.Invariant.{is_selective, Carries, Ends, Invariant, chunks_length}
use Rattle.protocol.proofs.InOrder.{raise, raise_is}
use Rattle.protocol.proofs.Outstanding.{up_has, up_below, in_window, kept_has, kept_are, Ordered, ordered_up, ordered_rest}
use Rattle.protocol.proofs.Safety.{step_ok}

-- ---- what is acknowledged at the sender

abbrev Acknowledged : Bool → PlainState → ℕ → Type 0
Acknowledged false s n = n < s.A
Acknowledged true s n = On s.at_sender n

-- a number that was sent and is not outstanding
not_outstanding : (b : Bool) (w : ℕ) (v : World) (s : PlainState) (n : ℕ) → Invariant b w v s → n < length s.sent
    → is_outstanding v.sender n ≡ false → Acknowledged b s n
not_outstanding b w v s n i l e = go b i (dec_lt n s.A) (is_acknowledged v.sender n) refl
  where
    go : (b : Bool) → Invariant b w v s → Dec (n < s.A) → (x : Bool) → is_acknowledged v.sender n ≡ x → Acknowledged b s n
    go false i (yes y) x z = y
    go true i (yes y) x z = lead_below s.at_sender n (omega (arith, i.own.A-is))
    go false i (no y) true z = false_true (sym (i.own.no_marks (n - v.sender.base)) ∙ z)
    go true i (no y) true z =
        let h = i.ends in
        let at : s.A + (n - v.sender.base) ≡ n = omega (arith, h) in
        rw at at (sym (i.own.marks_is (n - v.sender.base)) ∙ z)
    go b i (no y) false z =
        let h = i.ends in
        let k = chunks_length h in
        let e₁ : leb v.sender.base n ≡ true = le-leb v.sender.base n (omega (arith, h)) in
        let e₂ : ltb n (next_number v.sender) ≡ true = lt-ltb n (next_number v.sender) (omega (arith, h)) in
        let e₃ : is_outstanding v.sender n ≡ true = rw (e₁, e₂, z) in
        false_true (sym e ∙ e₃)

-- ---- what is still to come: `left` are the numbers not yet handed to the receiver again, `acks` the ACKs not yet handed to the sender

-- an ACK of number m acknowledges n
abbrev Covers : Bool → ℕ → ℕ → Type 0
Covers false n m = n ≤ m
Covers true n m = n ≡ m

record Answered (b : Bool) (n : ℕ) (acks : List ℕ) : Type 0 where
  ack : ℕ
  there : Memᴰ ack acks
  covers : Covers b n ack

abbrev Order : Bool → PlainState → List ℕ → Type 0
Order false s left = Ordered s.D left (length s.sent)
Order true s left = Unit {0}

record Left (b : Bool) (s : PlainState) (left acks : List ℕ) : Type 0 where
  comes : (n : ℕ) → n < length s.sent → Acknowledged b s n ⊎ Answered b n acks ⊎ Memᴰ n left
  order : Order b s left

-- numbers that are outstanding no more are left out
order_kept : (b : Bool) (w : ℕ) (v : World) (s : PlainState) (ks ns : List ℕ) → Invariant b w v s → Every (λ n. n < length s.sent) ns
    → Order b s (ks ++ ns) → Order b s (ks ++ outstanding_of v.sender ns)
order_kept false w v s ks ns i f o =
    ordered_rest v.sender s.D (length s.sent) ks ns
    (λ n m x. let l : n < s.A = not_outstanding false w v s n i (f.all n m) x in omega (arith, l, i.ends.A≤D)) o
order_kept true w v s ks ns i f o = tt

-- ---- at the start

order_up : (b : Bool) (w : ℕ) (v : World) (s : PlainState) → Invariant b w v s → Order b s (up_from v.sender.base (length v.sender.chunks))
order_up false w v s i =
    let h = i.ends in
    let x = chunks_length h in
    ordered_up s.D v.sender.base (length v.sender.chunks) (length s.sent) (omega arith) h.D≤sent (omega arith)
order_up true w v s i = tt

at_start : (b : Bool) (w : ℕ) (v : World) (s : PlainState) → Invariant b w v s → Left b s (outstanding v.sender) []
unfolding outstanding
at_start b w v s i = record { comes = λ n l. go n l (is_outstanding v.sender n) refl; order = order_kept b w v s [] all i below (order_up b w v s i) }
  where
    all : List ℕ
    all = up_from v.sender.base (length v.sender.chunks)

    below : Every (λ n. n < length s.sent) all
    below = let h = i.ends in let x = chunks_length h in every_mono (λ n l. omega arith) (up_below v.sender.base (length v.sender.chunks))

    go : (n : ℕ) → n < length s.sent → (x : Bool) → is_outstanding v.sender n ≡ x
        → Acknowledged b s n ⊎ Answered b n [] ⊎ Memᴰ n (outstanding_of v.sender all)
    go n l true e =
        let x = in_window v.sender n e in
        inr (inr (kept_has v.sender all n (up_has v.sender.base (length v.sender.chunks) n x.from_base x.below_next) e))
    go n l false e = inl (not_outstanding b w v s n i l e)

-- ---- at the end

all_acknowledged : (b : Bool) (w : ℕ) (v : World) (s : PlainState) → Invariant b w v s → ((n : ℕ) → n < length s.sent → Acknowledged b s n)
    → length s.sent ≤ s.A
all_acknowledged true w v s i f = let x = lead_reaches s.at_sender (length s.sent) f in omega (arith, x, i.own.A-is)
all_acknowledged false w v s i f = go (dec_lt 0 (length s.sent))
  where
    go : Dec (0 < length s.sent) → length s.sent ≤ s.A
    go (yes l) = let x : length s.sent - 1 < s.A = f (length s.sent - 1) (omega arith) in omega (arith, x)
    go (no l) = omega arith

at_end : (b : Bool) (w : ℕ) (v : World) (s : PlainState) → Invariant b w v s → Left b s [] [] → length s.sent ≤ s.A
at_end b w v s i c = all_acknowledged b w v s i (λ n l. by n (c.comes n l))
  where
    by : (n : ℕ) → Acknowledged b s n ⊎ Answered b n [] ⊎ Memᴰ n [] → Acknowledged b s n
    by n (inl a) = a
    by n (inr (inl a)) = absurd (mathlib.Core.List.Memᴰ.not-nil a.there)
    by n (inr (inr m)) = absurd (mathlib.Core.List.Memᴰ.not-nil m)

-- ---- a segment is handed to the receiver

-- the sender's part of the plain machine is as before
pub record SenderSame (s t : PlainState) : Type 0 where
  pub same_sent : t.sent ≡ s.sent
  same_A : t.A ≡ s.A
  same_noted : t.at_sender ≡ s.at_sender

sender_same : (x : Bool) (t s : PlainState) → SenderSame s t → SenderSame s (cond x t s)
sender_same true t s u = u
sender_same false t s u = record { same_sent = refl; same_A = refl; same_noted = refl }

pub data_same : (p : ProtocolType) (w : ℕ) (s : PlainState) (n : ℕ) → SenderSame s (plain_data p w s n)
unfolding plain_data
data_same StopAndWait w s n = sender_same (eqb n s.D) (with_d s (s.D + 1)) s (record { same_sent = refl; same_A = refl; same_noted = refl })
data_same GoBackN w s n = sender_same (eqb n s.D) (with_d s (s.D + 1)) s (record { same_sent = refl; same_A = refl; same_noted = refl })
data_same SelectiveRepeat w s n =
    sender_same (ltb n (s.D + w)) (with_receiver s (note s.at_receiver n)) s (record { same_sent = refl; same_A = refl; same_noted = refl })

still_acknowledged : (b : Bool) (s t : PlainState) (n : ℕ) → SenderSame s t → Acknowledged b s n → Acknowledged b t n
still_acknowledged false s t n u a = omega (arith, u.same_A, a)
still_acknowledged true s t n u a = rw u.same_noted a

-- the number handed over is not too early
abbrev Due : Bool → PlainState → ℕ → Type 0
Due false s n = n ≤ s.D
Due true s n = Unit {0}

due : (b : Bool) (s : PlainState) (n : ℕ) (left : List ℕ) → Order b s (n ∷ left) → Due b s n
due false s n left o = o.0
due true s n left o = tt

late_covers : (p : ProtocolType) (d n : ℕ) → is_selective p ≡ false → n < d → Answered false n (late_acks p d n)
late_covers StopAndWait d n z l =
    let e : ltb n d ≡ true = lt-ltb n d l in
    rw e (record { ack = n; there = mathlib.Core.List.Memᴰ.head refl; covers = omega arith })
late_covers GoBackN d n z l =
    let e : eqb d 0 ≡ false = ne_eqb d 0 (λ (x : d ≡ 0). omega arith) in
    rw e (record { ack = d - 1; there = mathlib.Core.List.Memᴰ.head refl; covers = omega arith })
late_covers SelectiveRepeat d n z l = false_true (sym z)

answers_in_order : (p : ProtocolType) (w : ℕ) (v : World) (s : PlainState) (q : Segment) → is_selective p ≡ false → Invariant false w v s → q.number ≤ s.D
    → Answered false q.number (receive_in_order p v.receiver q).acks
answers_in_order p w v s q z i l = go (eqb q.number v.receiver.base) refl
  where
    go : (x : Bool) → eqb q.number v.receiver.base ≡ x → Answered false q.number (receive_in_order p v.receiver q).acks
    go true e = rw e (record { ack = q.number; there = mathlib.Core.List.Memᴰ.head refl; covers = omega arith })
    go false e =
        let x : q.number ≡ v.receiver.base → ⊥ = eqb-false q.number v.receiver.base e in
        rw e (late_covers p v.receiver.base q.number z (omega (arith, x, l, i.ends.expected_is)))

-- a number not below A is answered
answers_selective : (w : ℕ) (v : World) (s : PlainState) (q : Segment) → Invariant true w v s → Carries s.sent q → s.A ≤ q.number
    → Answered true q.number (receive SelectiveRepeat w v.receiver q).acks
unfolding receive
answers_selective w v s q i k l = go (leb v.receiver.base q.number) refl
  where
    h : Ends w v.sender v.receiver v.delivered s
    h = i.ends

    it : Answered true q.number (q.number ∷ [])
    it = record { ack = q.number; there = mathlib.Core.List.Memᴰ.head refl; covers = refl }

    go : (x : Bool) → leb v.receiver.base q.number ≡ x → Answered true q.number (receive SelectiveRepeat w v.receiver q).acks
    go true e =
        let e' : ltb q.number (v.receiver.base + w) ≡ true = lt-ltb q.number (v.receiver.base + w) (omega (arith, h, k)) in
        rw (e, e') it
    go false e =
        let e' : leb v.receiver.base (q.number + w) ≡ true = le-leb v.receiver.base (q.number + w) (omega (arith, h)) in
        rw (e, e') it

answers : (p : ProtocolType) (w : ℕ) (v : World) (s : PlainState) (q : Segment) → Invariant (is_selective p) w v s → Carries s.sent q
    → Due (is_selective p) s q.number
    → Acknowledged (is_selective p) s q.number ⊎ Answered (is_selective p) q.number (receive p w v.receiver q).acks
unfolding receive
answers StopAndWait w v s q i k d = inr (answers_in_order StopAndWait w v s q refl i d)
answers GoBackN w v s q i k d = inr (answers_in_order GoBackN w v s q refl i d)
answers SelectiveRepeat w v s q i k d = go (get_or s.at_sender q.number false) refl
  where
    go : (x : Bool) → get_or s.at_sender q.number false ≡ x
        → On s.at_sender q.number ⊎ Answered true q.number (receive SelectiveRepeat w v.receiver q).acks
    go true e = inl e
    go false e =
        let l : lead s.at_sender ≤ q.number = lead_least s.at_sender q.number e in
        inr (answers_selective w v s q i k (omega (arith, l, i.own.A-is)))

order_next : (s : PlainState) (n : ℕ) (left : List ℕ) → Order false s (n ∷ left) → Order false (cond (eqb n s.D) (with_d s (s.D + 1)) s) left
order_next s n left o = go (eqb n s.D) o.1
  where
    go : (x : Bool) → Ordered (cond x (s.D + 1) s.D) left (length s.sent) → Order false (cond x (with_d s (s.D + 1)) s) left
    go true r = r
    go false r = r

order_received : (p : ProtocolType) (w : ℕ) (s : PlainState) (n : ℕ) (left : List ℕ) → Order (is_selective p) s (n ∷ left)
    → Order (is_selective p) (plain_data p w s n) left
unfolding plain_data
order_received StopAndWait w s n left o = order_next s n left o
order_received GoBackN w s n left o = order_next s n left o
order_received SelectiveRepeat w s n left o = tt

received_left : (p : ProtocolType) (w : ℕ) (v : World) (s : PlainState) (q : Segment) (left acks : List ℕ) → Invariant (is_selective p) w v s
    → Carries s.sent q → Left (is_selective p) s (q.number ∷ left) acks
    → Left (is_selective p) (plain_data p w s q.number) left (acks ++ (receive p w v.receiver q).acks)
received_left p w v s q left acks i k c =
    record { comes = λ n l. by n (c.comes n (rw u.same_sent at l)); order = order_received p w s q.number left c.order }
  where
    b : Bool
    b = is_selective p

    t : PlainState
    t = plain_data p w s q.number

    u : SenderSame s t
    u = data_same p w s q.number

    more : List ℕ
    more = (receive p w v.receiver q).acks

    this : (n : ℕ) → n ≡ q.number → Acknowledged b s q.number ⊎ Answered b q.number more
        → Acknowledged b t n ⊎ Answered b n (acks ++ more) ⊎ Memᴰ n left
    this n e (inl a) = inl (still_acknowledged b s t n u (rw e a))
    this n e (inr a) = inr (inl (record { ack = a.ack; there = mathlib.Core.List.Memᴰ.append_right acks a.there; covers = rw e a.covers }))

    by : (n : ℕ) → Acknowledged b s n ⊎ Answered b n acks ⊎ Memᴰ n (q.number ∷ left) → Acknowledged b t n ⊎ Answered b n (acks ++ more) ⊎ Memᴰ n left
    by n (inl a) = inl (still_acknowledged b s t n u a)
    by n (inr (inl a)) = inr (inl (record { ack = a.ack; there = mathlib.Core.List.Memᴰ.append_left more a.there; covers = a.covers }))
    by n (inr (inr m)) = elim (mathlib.Core.List.Memᴰ.cases_cons m) [
      | inl e ↦ this n e (answers p w v s q i k (due b s q.number left c.order))
      | inr x ↦ inr (inr x)
    ]

-- ---- an ACK is handed to the sender

record Raised (b : Bool) (s : PlainState) (m : ℕ) (t : PlainState) : Type 0 where
  same_sent : t.sent ≡ s.sent
  same_D : t.D ≡ s.D
  keeps : (n : ℕ) → Acknowledged b s n → Acknowledged b t n
  covers : (n : ℕ) → Covers b n m → Acknowledged b t n

raised_in_order : (s : PlainState) (m : ℕ) → Raised false s m (raise s m)
raised_in_order s m = go (leb s.A m) refl
  where
    go : (x : Bool) → leb s.A m ≡ x → Raised false s m (raise s m)
    go true e =
        let l : s.A ≤ m = leb-true s.A m e in
        rw e (record { same_sent = refl; same_D = refl; keeps = λ n a. omega arith; covers = λ n a. omega arith })
    go false e =
        let l : m < s.A = leb-false s.A m e in
        rw e (record { same_sent = refl; same_D = refl; keeps = λ n a. a; covers = λ n a. omega arith })

raised : (p : ProtocolType) (w : ℕ) (v : World) (s : PlainState) (m : ℕ) → WindowFits p w → Invariant (is_selective p) w v s → Memᴰ m v.acks
    → Raised (is_selective p) s m (plain_ack p s m)
unfolding plain_ack
raised StopAndWait w v s m o i x =
    let l : m < s.D = i.acks_noted.all m x in
    let h = i.ends in
    rw (raise_is StopAndWait w s m refl o (omega (arith, l, h))) (raised_in_order s m)
raised GoBackN w v s m o i x = raised_in_order s m
raised SelectiveRepeat w v s m o i x =
    record { same_sent = refl; same_D = refl; keeps = λ n a. on_note s.at_sender m n a; covers = λ n e. rw e (note_same s.at_sender m) }

order_same : (b : Bool) (s t : PlainState) (left : List ℕ) → t.sent ≡ s.sent → t.D ≡ s.D → Order b s left → Order b t left
order_same false s t left e d o = rw (e, d) o
order_same true s t left e d o = tt

-- v and t are the world and the plain machine after the ACK
acknowledged_left : (b : Bool) (w : ℕ) (v : World) (s t : PlainState) (m : ℕ) (ks numbers acks : List ℕ) → Invariant b w v t
    → Every (λ n. n < length t.sent) numbers → Raised b s m t → Left b s (ks ++ numbers) (m ∷ acks)
    → Left b t (ks ++ outstanding_of v.sender numbers) acks
acknowledged_left b w v s t m ks numbers acks i f r c =
    record {
      comes = λ n l. by n l (c.comes n (rw r.same_sent at l));
      order = order_kept b w v t ks numbers i f (order_same b s t (ks ++ numbers) r.same_sent r.same_D c.order);
    }
  where
    kept : (n : ℕ) → n < length t.sent → Memᴰ n numbers → (x : Bool) → is_outstanding v.sender n ≡ x
        → Acknowledged b t n ⊎ Answered b n acks ⊎ Memᴰ n (ks ++ outstanding_of v.sender numbers)
    kept n l y true e = inr (inr (mathlib.Core.List.Memᴰ.append_right ks (kept_has v.sender numbers n y e)))
    kept n l y false e = inl (not_outstanding b w v t n i l e)

    by : (n : ℕ) → n < length t.sent → Acknowledged b s n ⊎ Answered b n (m ∷ acks) ⊎ Memᴰ n (ks ++ numbers)
        → Acknowledged b t n ⊎ Answered b n acks ⊎ Memᴰ n (ks ++ outstanding_of v.sender numbers)
    by n l (inl a) = inl (r.keeps n a)
    by n l (inr (inl a)) = elim (mathlib.Core.List.Memᴰ.cases_cons a.there) [
      | inl e ↦ inl (r.covers n (rw e at a.covers))
      | inr y ↦ inr (inl (record { ack = a.ack; there = y; covers = a.covers }))
    ]
    by n l (inr (inr y)) = elim (mathlib.Core.List.Memᴰ.append_cases ks y) [
      | inl x ↦ inr (inr (mathlib.Core.List.Memᴰ.append_left (outstanding_of v.sender numbers) x))
      | inr x ↦ kept n l x (is_outstanding v.sender n) refl
    ]

-- ---- numbers are sent again

abbrev numbers_of : List Segment → List ℕ
numbers_of = map (λ q. q.number)

numbers_from : (s : SenderState) (n k : ℕ) → numbers_of (map (segment_at s) (up_from n k)) ≡ up_from n k
numbers_from s n zero = refl
numbers_from s n (suc k) = ap (λ (l : List ℕ). n ∷ l) (numbers_from s (suc n) k)

resent_left : (s : SenderState) (n k : ℕ) (numbers : List ℕ) (segments : List Segment) → take k numbers ≡ up_from n k
    → numbers_of (segments ++ segments_from s n k) ++ drop k numbers ≡ numbers_of segments ++ numbers
unfolding segments_from
resent_left s n k numbers segments e =
    ap (λ (l : List ℕ). l ++ drop k numbers)
    (map-append (λ q. q.number) segments (map (segment_at s) (up_from n k)) ∙ ap (λ (l : List ℕ). numbers_of segments ++ l) (numbers_from s n k ∙ sym e))
    ∙ append_assoc (numbers_of segments) (take k numbers) (drop k numbers)
    ∙ ap (λ (l : List ℕ). numbers_of segments ++ l) (take-append-drop k numbers)

has_taken : (k : ℕ) (ns : List ℕ) (n : ℕ) → Memᴰ n (take k ns) → Memᴰ n ns
has_taken k ns n m = rw (take-append-drop k ns) at (mathlib.Core.List.Memᴰ.append_left (drop k ns) m)

has_dropped : (k : ℕ) (ns : List ℕ) (n : ℕ) → Memᴰ n (drop k ns) → Memᴰ n ns
has_dropped k ns n m = rw (take-append-drop k ns) at (mathlib.Core.List.Memᴰ.append_right (take k ns) m)

-- what is still outstanding may be sent again
resent_allowed : (w : ℕ) (v : World) (n k : ℕ) (numbers : List ℕ) → Every (λ n. is_outstanding v.sender n ≡ true) numbers → 0 < k
    → take k numbers ≡ up_from n k → Allowed w v (resent n k)
resent_allowed w v n k numbers f l e =
    let x : Memᴰ n (take k numbers) = rw e (up_has n k n (omega arith) (omega arith)) in
    let y : Memᴰ (n + k - 1) (take k numbers) = rw e (up_has n k (n + k - 1) (omega arith) (omega arith)) in
    let i = in_window v.sender n (f.all n (has_taken k numbers n x)) in
    let j = in_window v.sender (n + k - 1) (f.all (n + k - 1) (has_taken k numbers (n + k - 1) y)) in
    (i.from_base, omega (arith, j.below_next))

-- ---- the whole resending

pub record Resent (p : ProtocolType) (w : ℕ) (v : World) (s : PlainState) (es : List Event) : Type 0 where
  pub fair : Admissible p w v es
  pub same_sent : (plain_run p w s (map call_of es)).sent ≡ s.sent
  pub last_D : (plain_run p w s (map call_of es)).D ≡ length s.sent
  pub last_A : (plain_run p w s (map call_of es)).A ≡ length s.sent

-- an event that sends nothing new, and what follows it
followed : (p : ProtocolType) (w : ℕ) (v : World) (s : PlainState) (e : Event) (es : List Event) → Allowed w v e
    → (plain_step p w s (call_of e)).sent ≡ s.sent → Resent p w (step p w v e) (plain_step p w s (call_of e)) es → Resent p w v s (e ∷ es)
unfolding plain_run
followed p w v s e es a x r =
    record { fair = (a, r.fair); same_sent = r.same_sent ∙ x; last_D = r.last_D ∙ ap length x; last_A = r.last_A ∙ ap length x }

-- what is queued: numbers still outstanding, segments that the sender made, ACKs that the receiver made
record Queued (v : World) (numbers : List ℕ) (segments : List Segment) (acks : List ℕ) : Type 0 where
  still : Every (λ n. is_outstanding v.sender n ≡ true) numbers
  segments_made : Every (λ q. Memᴰ q v.segments) segments
  acks_made : Every (λ n. Memᴰ n v.acks) acks

below_sent : (b : Bool) (w : ℕ) (v : World) (s : PlainState) (numbers : List ℕ) → Invariant b w v s
    → Every (λ n. is_outstanding v.sender n ≡ true) numbers → Every (λ n. n < length s.sent) numbers
below_sent b w v s numbers i f =
    let h = i.ends in
    let x = chunks_length h in
    every_mono (λ n e. let j = in_window v.sender n e in omega arith) f

through : (p : ProtocolType) (w : ℕ) (v : World) (s : PlainState) (numbers : List ℕ) (segments : List Segment) (acks : List ℕ) (es : List Event)
    → WindowFits p w → Invariant (is_selective p) w v s → Queued v numbers segments acks → Left (is_selective p) s (numbers_of segments ++ numbers) acks
    → ResendsAll p w v numbers segments acks es → Resent p w v s es
unfolding plain_run plain_step plain_call step
through p w v s numbers segments acks [] o i f c r =
    let h = i.ends in
    let c' : Left (is_selective p) s [] [] = rw (r.0, r.1, r.2) at c in
    let l : length s.sent ≤ s.A = at_end (is_selective p) w v s i c' in
    record { fair = tt; same_sent = refl; last_D = omega arith; last_A = omega arith }
through p w v s numbers segments acks (sent x ∷ es) o i f c r = absurd r
through p w v s numbers segments acks (other handle_timeout ∷ es) o i f c r =
    followed p w v s (other handle_timeout) es tt refl (through p w v s numbers segments acks es o i f c r)
through p w v s numbers segments acks (other (send_chunk x) ∷ es) o i f c r = absurd r
through p w v s numbers segments acks (other (handle_data n) ∷ es) o i f c r = absurd r
through p w v s numbers segments acks (other (handle_ack n) ∷ es) o i f c r = absurd r
through p w v s numbers segments acks (resent n k ∷ es) o i f c r =
    let a : Allowed w v (resent n k) = resent_allowed w v n k numbers f.still r.0 r.1 in
    followed p w v s (resent n k) es a refl
    (through p w (step p w v (resent n k)) s (drop k numbers) (segments ++ segments_from v.sender n k) acks es o
    (step_ok p w v s (resent n k) o i a)
    (record {
      still = record { all = λ j m. f.still.all j (has_dropped k numbers j m) };
      segments_made = every_append (every_mono (λ q m. mathlib.Core.List.Memᴰ.append_left (segments_from v.sender n k) m) f.segments_made)
          (record { all = λ q m. mathlib.Core.List.Memᴰ.append_right v.segments m });
      acks_made = f.acks_made;
    })
    (rw (resent_left v.sender n k numbers segments r.1) c) r.2)
through p w v s numbers [] acks (received q ∷ es) o i f c r = absurd r.0
through p w v s numbers (x ∷ segments) acks (received q ∷ es) o i f c r =
    let m : Memᴰ q v.segments = rw r.0 (every_head f.segments_made) in
    let c' : Left (is_selective p) s (q.number ∷ (numbers_of segments ++ numbers)) acks = rw r.0 c in
    followed p w v s (received q) es m (data_same p w s q.number).same_sent
    (through p w (step p w v (received q)) (plain_data p w s q.number) numbers segments (acks ++ (receive p w v.receiver q).acks) es o
    (step_ok p w v s (received q) o i m)
    (record {
      still = f.still;
      segments_made = every_tail f.segments_made;
      acks_made = every_append (every_mono (λ n y. mathlib.Core.List.Memᴰ.append_left (receive p w v.receiver q).acks y) f.acks_made)
          (record { all = λ n y. mathlib.Core.List.Memᴰ.append_right v.acks y });
    })
    (received_left p w v s q (numbers_of segments ++ numbers) acks i (i.segments_carry.all q m) c')
    r.1)
through p w v s numbers segments [] (acknowledged n ∷ es) o i f c r = absurd r.0
through p w v s numbers segments (x ∷ acks) (acknowledged n ∷ es) o i f c r =
    let m : Memᴰ n v.acks = rw r.0 (every_head f.acks_made) in
    let c' : Left (is_selective p) s (numbers_of segments ++ numbers) (n ∷ acks) = rw r.0 c in
    let i' = step_ok p w v s (acknowledged n) o i m in
    let t = raised p w v s n o i m in
    let below : Every (λ j. j < length (plain_ack p s n).sent) numbers = rw t.same_sent (below_sent (is_selective p) w v s numbers i f.still) in
    followed p w v s (acknowledged n) es m t.same_sent
    (through p w (step p w v (acknowledged n)) (plain_ack p s n) (outstanding_of (acknowledge p v.sender n) numbers) segments acks es o
    i'
    (record { still = kept_are (acknowledge p v.sender n) numbers; segments_made = f.segments_made; acks_made = every_tail f.acks_made })
    (acknowledged_left (is_selective p) w (step p w v (acknowledged n)) s (plain_ack p s n) n (numbers_of segments) numbers acks i' below t c')
    r.1)

pub resending_ok : (p : ProtocolType) (w : ℕ) (v : World) (s : PlainState) (es : List Event) → WindowFits p w → Invariant (is_selective p) w v s
    → ResendsAll p w v (outstanding v.sender) [] [] es → Resent p w v s es
unfolding outstanding
resending_ok p w v s es o i r =
    through p w v s (outstanding v.sender) [] [] es o i
    (record
    { still = kept_are v.sender (up_from v.sender.base (length v.sender.chunks)); segments_made = every_nil; acks_made = every_nil })
    (at_start (is_selective p) w v s i) r
