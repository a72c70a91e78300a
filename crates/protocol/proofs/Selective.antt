-- Selective Repeat: what a segment handed to the receiver and an ACK handed to the sender do to the invariant.
use Rattle.std.specs.Prelude.{Option, None, Some}
use mathlib.Core.Path.{◌≡◌, refl, sym, ap, ap₂, ◌∙◌}
use mathlib.Core.Logic.{◌≢◌}
use mathlib.Core.Bool.{Bool, true, false, cond}
use mathlib.Core.List.{List, [], ◌∷◌, ◌++◌, append-nil, Memᴰ}
use Prim.Native.Nat.{ℕ, ◌+◌, ◌-◌, ◌≤◌, ◌<◌}
use native.Mathlib.Omega.{arith}
use native.Mathlib.Decide.{ℕ_discrete, dec_lt}
use lib.ListN.{length, get_or, take, drop, set, replicate, length-append, length-drop, length-set, length-replicate, get_or-replicate, get_or-append}
use lib.Seq.{take-add, drop-drop, get_or-drop, get_or-set_same, get_or-set_other, length-take-le, get_or-append-add}
use lib.Dec.{leb, ltb}
use borrow.Author.Tests.{leb-true, leb-false, lt-ltb}
use Rattle.protocol.specs.Runs.{lead}
use Rattle.protocol.specs.Machine.{Chunk, Segment, next_number, acknowledge, hold, receive}
use Rattle.protocol.specs.Machine
use Rattle.protocol.specs.PlainMachine.{PlainState, note, plain_data, plain_ack}
use Rattle.protocol.specs.Trace.{World, received, acknowledged, step}
use Rattle.protocol.specs.declared.ProtocolType.TheVariants.{SelectiveRepeat}
use Rattle.protocol.proofs.Every.{every_nil, every_cons, every_append, every_snoc, every_mono}
use Rattle.protocol.proofs.Marks.{On, not_on, lead_below, lead_mono, lead_same, lead_drop, lead_below_all, note_same, note_other, on_note, note_on, place, run_is}
use Rattle.protocol.proofs.Invariant.{Carries, Ends, Selective, Holds, Invariant, answered, chunks_length}

-- ---- a segment is handed to the receiver

hold_place : (b : Bool) (c x : Chunk) → x ≡ c → hold (place b c) x ≡ Some c
hold_place true c x e = refl
hold_place false c x e = ap Some e

-- the payload is put into its place
holds_put : (w : ℕ) (held : List (Option Chunk)) (m : List Bool) (s : List Chunk) (n i : ℕ) (c : Chunk) → length held ≡ w → i < w
    → c ≡ get_or s (n + i) [] → Holds w held m s n → Holds w (set held i (hold (get_or held i None) c)) (note m (n + i)) s n
holds_put w held m s n i c l k e f j y = go (ℕ_discrete j i)
  where
    go : Dec (j ≡ i) → get_or (set held i (hold (get_or held i None) c)) j None ≡ place (get_or (note m (n + i)) (n + j) false) (get_or s (n + j) [])
    go (yes q) =
        let x : i < length held = omega arith in
        rw (q, get_or-set_same held i (hold (get_or held i None) c) None x, note_same m (n + i), f i k)
        (hold_place (get_or m (n + i) false) (get_or s (n + i) []) c e)
    go (no q) =
        let z : n + j ≢ n + i = λ (o : n + j ≡ n + i). q (omega arith) in
        rw (get_or-set_other held i j (hold (get_or held i None) c) None q, note_other m (n + i) (n + j) z) (f j y)

-- the window goes on by k: the places left move to the front, and the new ones are empty
holds_rest : (w : ℕ) (held : List (Option Chunk)) (m : List Bool) (s : List Chunk) (n k : ℕ) → length held ≡ w → k ≤ w → ((i : ℕ) → On m i → i < n + w)
    → Holds w held m s n → Holds w (drop k held ++ replicate k None) m s (n + k)
holds_rest w held m s n k lh kw lm f i l = go (dec_lt (k + i) w)
  where
    rest : List (Option Chunk)
    rest = replicate k None

    go : Dec (k + i < w) → get_or (drop k held ++ rest) i None ≡ place (get_or m (n + k + i) false) (get_or s (n + k + i) [])
    go (yes y) =
        let u : length (drop k held) ≡ length held - k = length-drop k held in
        let e : n + k + i ≡ n + (k + i) = omega arith in
        rw (e, get_or-append (drop k held) rest None i (omega arith), get_or-drop k held i None) (f (k + i) y)
    go (no y) =
        let u : length (drop k held) ≡ length held - k = length-drop k held in
        let e : length (drop k held) + (i - length (drop k held)) ≡ i = omega arith in
        let o : get_or (drop k held ++ rest) (length (drop k held) + (i - length (drop k held))) None ≡ None =
        get_or-append-add (drop k held) rest (i - length (drop k held)) None ∙ get_or-replicate k (i - length (drop k held)) None None (omega arith) in
        let z : get_or m (n + k + i) false ≡ false = not_on (get_or m (n + k + i) false) (λ x. let b = lm (n + k + i) x in absurd (omega arith)) in
        rw z (rw e at o)

-- what is delivered when the places from number n on hold what is noted in m
record Delivers (w : ℕ) (held : List (Option Chunk)) (m : List Bool) (s : List Chunk) (n k : ℕ) : Type 0 where
  lead_is : lead m ≡ n + k
  delivers : Machine.held_run held ≡ take k (drop n s)
  long : length (Machine.held_run held) ≡ k
  all_places : length (drop k held ++ replicate k None) ≡ w
  rest : Holds w (drop k held ++ replicate k None) m s (n + k)

holds_deliver : (w : ℕ) (held : List (Option Chunk)) (m : List Bool) (s : List Chunk) (n : ℕ) → length held ≡ w → n ≤ lead m → lead m ≤ length s
    → length s ≤ n + w → ((i : ℕ) → On m i → i < length s) → Holds w held m s n → Delivers w held m s n (lead (drop n m))
holds_deliver w held m s n lh nl ls fits on f =
    let k = lead (drop n m) in
    let e : lead m ≡ n + k = lead_drop n m nl in
    let z : length (drop n s) ≡ length s - n = length-drop n s in
    let g : Machine.held_run held ≡ take k (drop n s) =
    run_is held (drop n m) (drop n s) (λ i l. rw (get_or-drop n m, get_or-drop n s) (f i (omega arith))) (omega arith) (omega arith) in
    let u : length (drop k held) ≡ length held - k = length-drop k held in
    let t : length (replicate {A = Option Chunk} k None) ≡ k = length-replicate k None in
    record {
      lead_is = e;
      delivers = g;
      long = ap length g ∙ length-take-le k (drop n s) (omega arith);
      all_places = length-append (drop k held) (replicate k None) ∙ omega arith;
      rest = holds_rest w held m s n k lh (omega arith) (λ i x. let b = on i x in omega arith) f;
    }

-- number n, which was sent, is noted besides
noted_more : (m : List Bool) (n k : ℕ) → ((i : ℕ) → On m i → i < k) → n < k → (i : ℕ) → On (note m n) i → i < k
noted_more m n k f l i x = go (ℕ_discrete i n)
  where
    go : Dec (i ≡ n) → i < k
    go (yes e) = omega arith
    go (no e) = f i (rw (note_other m n i e) at x)

pub received_selective : (w : ℕ) (v : World) (s : PlainState) (q : Segment) → Invariant true w v s → Memᴰ q v.segments
    → Invariant true w (step SelectiveRepeat w v (received q)) (plain_data SelectiveRepeat w s q.number)
unfolding step receive plain_data
received_selective w v s q i m = go (leb v.receiver.base q.number) refl
  where
    h : Ends w v.sender v.receiver v.delivered s
    h = i.ends

    o : Selective w v.sender v.receiver s
    o = i.own

    c : Carries s.sent q
    c = i.segments_carry.all q m

    below : ltb q.number (s.D + w) ≡ true
    below = lt-ltb q.number (s.D + w) (omega (arith, h, c))

    -- an old number is acknowledged or not, and nothing is delivered
    old : (b : Bool) → On s.at_receiver q.number
        → Invariant true w
        (answered v (cond b (Machine.received v.receiver [] (q.number ∷ [])) (Machine.received v.receiver [] [])))
        s
    old true on =
        rw (append-nil v.delivered)
        (record { ends = h; own = o; segments_carry = i.segments_carry; acks_noted = every_append i.acks_noted (every_cons on every_nil) })
    old false on = simp append-nil i

    go : (b : Bool) → leb v.receiver.base q.number ≡ b
        → Invariant true w (step SelectiveRepeat w v (received q)) (plain_data SelectiveRepeat w s q.number)
    go false e =
        let t : q.number < v.receiver.base = leb-false v.receiver.base q.number e in
        let on : On s.at_receiver q.number = lead_below s.at_receiver q.number (omega (arith, h, o.D-is)) in
        rw (below, note_on s.at_receiver q.number on, o.D-is, e) (old (leb v.receiver.base (q.number + w)) on)
    go true e =
        let t : v.receiver.base ≤ q.number = leb-true v.receiver.base q.number e in
        let e₁ : ltb q.number (v.receiver.base + w) ≡ true = lt-ltb q.number (v.receiver.base + w) (omega (arith, h, c)) in
        let z : s.D + (q.number - s.D) ≡ q.number = omega (arith, h) in
        let held : List (Option Chunk) = set v.receiver.held (q.number - s.D) (hold (get_or v.receiver.held (q.number - s.D) None) q.payload) in
        let m' : List Bool = note s.at_receiver q.number in
        let put : Holds w held m' s.sent s.D =
        rw z at (holds_put w v.receiver.held s.at_receiver s.sent s.D (q.number - s.D) q.payload o.all_places (omega (arith, h, c))
        (rw z c.same) o.held_is) in
        let up : lead s.at_receiver ≤ lead m' = lead_mono s.at_receiver m' (on_note s.at_receiver q.number) in
        let more : (i : ℕ) → On m' i → i < length s.sent = noted_more s.at_receiver q.number (length s.sent) o.noted_sent c.known in
        let top : lead m' ≤ length s.sent = lead_below_all m' (length s.sent) more in
        let g = holds_deliver w held m' s.sent s.D
        (length-set v.receiver.held (q.number - s.D) (hold (get_or v.receiver.held (q.number - s.D) None) q.payload) ∙ o.all_places)
        (omega (arith, o.D-is)) top (omega (arith, h)) more put in
        rw (below, e, e₁) rw h.expected_is rw g.long record {
          ends = record {
            base_is = h.base_is;
            chunks_is = h.chunks_is;
            expected_is = sym g.lead_is;
            delivered_is = ap₂ (λ (x y : List Chunk). x ++ y) h.delivered_is g.delivers ∙ sym (take-add s.D (lead (drop s.D m')) s.sent)
                ∙ ap (λ (x : ℕ). take x s.sent) (sym g.lead_is);
            A≤D = omega (arith, h, o.D-is);
            D≤sent = top;
            fits = h.fits;
          };
          own = record {
            D-is = refl;
            A-is = o.A-is;
            marks_is = o.marks_is;
            as_many = o.as_many;
            all_places = g.all_places;
            held_is = rw g.lead_is g.rest;
            noted_sent = more;
            both_noted = λ n x. on_note s.at_receiver q.number n (o.both_noted n x);
          };
          segments_carry = i.segments_carry;
          acks_noted = every_snoc (every_mono (on_note s.at_receiver q.number) i.acks_noted) (note_same s.at_receiver q.number);
        }

-- ---- an ACK is handed to the sender

noted_within : (l m : List Bool) (n : ℕ) → ((i : ℕ) → On l i → On m i) → On m n → (i : ℕ) → On (note l n) i → On m i
noted_within l m n f on i x = go (ℕ_discrete i n)
  where
    go : Dec (i ≡ n) → On m i
    go (yes e) = rw e on
    go (no e) = f i (rw (note_other l n i e) at x)

-- the sender's marks from its base on are those noted, after one more is noted
marks_more : (l m : List Bool) (a i : ℕ) → i < length l → ((j : ℕ) → get_or l j false ≡ get_or m (a + j) false)
    → (j : ℕ) → get_or (set l i true) j false ≡ get_or (note m (a + i)) (a + j) false
marks_more l m a i k f j = go (ℕ_discrete j i)
  where
    go : Dec (j ≡ i) → get_or (set l i true) j false ≡ get_or (note m (a + i)) (a + j) false
    go (yes e) = rw (e, get_or-set_same l i true false k, note_same m (a + i))
    go (no e) =
        let z : a + j ≢ a + i = λ (o : a + j ≡ a + i). e (omega arith) in
        rw (get_or-set_other l i j true false e, note_other m (a + i) (a + j) z) (f j)

pub acknowledged_selective : (w : ℕ) (v : World) (s : PlainState) (n : ℕ) → Invariant true w v s → Memᴰ n v.acks
    → Invariant true w (step SelectiveRepeat w v (acknowledged n)) (plain_ack SelectiveRepeat s n)
unfolding step acknowledge plain_ack
acknowledged_selective w v s n inv m = go (leb v.sender.base n) refl
  where
    h : Ends w v.sender v.receiver v.delivered s
    h = inv.ends

    o : Selective w v.sender v.receiver s
    o = inv.own

    on : On s.at_receiver n
    on = inv.acks_noted.all n m

    go : (b : Bool) → leb v.sender.base n ≡ b
        → Invariant true w (step SelectiveRepeat w v (acknowledged n)) (plain_ack SelectiveRepeat s n)
    go false e =
        let t : n < v.sender.base = leb-false v.sender.base n e in
        let on' : On s.at_sender n = lead_below s.at_sender n (omega (arith, h, o.A-is)) in
        rw (e, note_on s.at_sender n on', o.A-is) inv
    go true e =
        let t : v.sender.base ≤ n = leb-true v.sender.base n e in
        let x : length v.sender.chunks ≡ length s.sent - s.A = chunks_length h in
        let y : n < length s.sent = o.noted_sent n on in
        let e₁ : ltb n (next_number v.sender) ≡ true = lt-ltb n (next_number v.sender) (omega (arith, h)) in
        let z : s.A + (n - s.A) ≡ n = omega (arith, h) in
        let m' : List Bool = note s.at_sender n in
        let l : List Bool = set v.sender.acknowledged (n - s.A) true in
        let f : (j : ℕ) → get_or l j false ≡ get_or m' (s.A + j) false =
        rw z at (marks_more v.sender.acknowledged s.at_sender s.A (n - s.A) (omega (arith, h, o.as_many)) o.marks_is) in
        let up : lead s.at_sender ≤ lead m' = lead_mono s.at_sender m' (on_note s.at_sender n) in
        let same : lead l ≡ lead (drop s.A m') = lead_same l (drop s.A m') (λ j. f j ∙ sym (get_or-drop s.A m' j false)) in
        let far : lead m' ≡ s.A + lead (drop s.A m') = lead_drop s.A m' (omega (arith, o.A-is)) in
        let far' : s.A + lead l ≡ lead m' = omega (arith, same, far) in
        let within : (i : ℕ) → On m' i → On s.at_receiver i = noted_within s.at_sender s.at_receiver n o.both_noted on in
        let not_past : lead m' ≤ lead s.at_receiver = lead_mono m' s.at_receiver within in
        rw (e, e₁) rw h.base_is record {
          ends = record {
            base_is = far';
            chunks_is = ap (drop (lead l)) h.chunks_is ∙ drop-drop (lead l) s.A s.sent ∙ ap (λ (j : ℕ). drop j s.sent) far';
            expected_is = h.expected_is;
            delivered_is = h.delivered_is;
            A≤D = omega (arith, not_past, o.D-is);
            D≤sent = h.D≤sent;
            fits = omega (arith, up, o.A-is, h);
          };
          own = record {
            D-is = o.D-is;
            A-is = refl;
            marks_is = λ j. get_or-drop (lead l) l j false ∙ f (lead l + j) ∙ ap (λ (a : ℕ). get_or m' a false) (omega (arith, far'));
            as_many = length-drop (lead l) l ∙ ap (λ (a : ℕ). a - lead l) (length-set v.sender.acknowledged (n - s.A) true ∙ o.as_many)
                ∙ sym (length-drop (lead l) v.sender.chunks);
            all_places = o.all_places;
            held_is = o.held_is;
            noted_sent = o.noted_sent;
            both_noted = within;
          };
          segments_carry = inv.segments_carry;
          acks_noted = inv.acks_noted;
        }
