-- What waits on a line are copies that it was granted, each once, and none that was handed over.
use Rattle.std.specs.Prelude.{Ok, Some, None}
use Prim.Native.Nat.{ℕ, ◌+◌, ◌*◌, ◌<◌}
use native.Mathlib.Omega.{arith}
use mathlib.Core.Path.{◌≡◌, refl, sym, ap, ◌∙◌, subst}
use mathlib.Core.Bool.{Bool, true, false, cond, not, ◌||◌}
use mathlib.Core.List.{List, [], ◌∷◌, ◌++◌, append-nil, append_assoc}
use lib.Dec.{eqb}
use lib.Ieee.{Float}
use lib.ListN.{length, get_or, take, replicate, length-append, get_or-append}
use lib.Seq.{get_or-append_seam}
use borrow.Author.Tests.{ne_eqb}
use Rattle.schedule.specs.Record.{inserted}
use Rattle.schedule.specs.State.{Schedule, state_broken, waiting_records, held_late, copies, leaves_at}
use Rattle.schedule.specs.Schedule.{put_copy, schedule_at_unchecked}
use Rattle.schedule.specs.Waiting.{WaitingCopy, copy, copy_after, waiting, new_copies, inserted_all, put_copies, All, of_none, of_more}
use Rattle.schedule.specs.declared.Deliveries.{Deliveries}
use Rattle.schedule.specs.declared.Deliveries.TheVariants.{Lost, One, Two}
use Rattle.schedule.proofs.Laws.{new_waits, schedule_waits, all_weaker}
use Rattle.channel.specs.Faults.{carried_bytes, deliveries_of}
use Rattle.channel.specs.declared.Channel.{Channel}
use Rattle.channel.specs.declared.ChannelConfig.{ChannelConfig}
use Rattle.channel.proofs.Laws.{carried_length}
use Rattle.path.specs.Direction.{Direction, schedule_of}
use Rattle.path.specs.Rolls.{packet_rolls, rolls_at}
use Rattle.path.specs.Path.{new_path, CarryExit, is_going, stop_of, left_by_carry, carry, left_by_take, take_ready, packet_buffer, CanCarry}
use Rattle.path.proofs.Packets.{can_put}
use Rattle.path.proofs.Laws.{next_rolls, granted, copy_bytes, carried_on, Fits, going_is, going_fits, carries, stop_same, EachWaiting, take_copy, taken_keeps}
use Rattle.clock.specs.Clock as clock
use Rattle.clock.specs.declared.Timing.{Timing}
use Rattle.submission.specs.Submission.{Outgoing, entry_free, submit}
use Rattle.submission.proofs.Laws.{submit_fits, submit_going, submit_stopped}
use Rattle.run_history.specs.Calls.{Call, Submission, submission, Reply}
use Rattle.run_history.specs.Lines.{any, forward_wires, reverse_wires}
use Rattle.run_history.specs.Copies.{copies_from, Came, other, copy as copied}
use Rattle.run_history.proofs.Noted.{any_more}
use Rattle.run_history.proofs.Columns.{events_in, Line, line_of, LineAfter, Sending, wires_carried, wires_stopped, Replying, reply_carried, reply_stopped}

-- ---- lists
all_inserted : {A : Type 0} {P : A → Type 0} (aft : A → A → Bool) (x : A) {ys : List A} → P x → All P ys → All P (inserted aft x ys)
unfolding inserted
all_inserted aft x p of_none = of_more p of_none
all_inserted {A} {P} aft x p (of_more {x = y} {xs = ys} q qs) = go (aft y x) (all_inserted aft x p qs)
  where
    go : (b : Bool) → All P (inserted aft x ys) → All P (cond b (x ∷ y ∷ ys) (y ∷ inserted aft x ys))
    go true r = of_more p (of_more q qs)
    go false r = of_more q r

all_more : {A : Type 0} {P : A → Type 0} {ys : List A} (x : A) → All P ys → P x → All P (ys ++ x ∷ [])
all_more x of_none p = of_more p of_none
all_more x (of_more q qs) p = of_more q (all_more x qs p)

-- no two copies have one number
abbrev pub Apart : List WaitingCopy → Type 0
Apart [] = Unit {0}
Apart (w ∷ ws) = All (λ (v : WaitingCopy). v.order ≡ w.order → ⊥) ws × Apart ws

apart_inserted : (x : WaitingCopy) (ws : List WaitingCopy) → All (λ (v : WaitingCopy). v.order ≡ x.order → ⊥) ws → Apart ws → Apart (inserted copy_after x ws)
unfolding inserted
apart_inserted x [] h a = (of_none, tt)
apart_inserted x (y ∷ ys) (of_more p ps) a = go (copy_after y x) (apart_inserted x ys ps a.1)
  where
    go : (b : Bool) → Apart (inserted copy_after x ys) → Apart (cond b (x ∷ y ∷ ys) (y ∷ inserted copy_after x ys))
    go true r = (of_more p ps, a)
    go false r = (all_inserted copy_after x (λ e. p (sym e)) a.0, r)

not_among : (n : ℕ) (ps : List ℕ) → All (λ (p : ℕ). p < n) ps → any (eqb n) ps ≡ false
unfolding any
not_among n [] of_none = refl
not_among n (p ∷ ps) (of_more l h) = rw (ne_eqb n p (λ e. omega (arith, e, l))) (not_among n ps h)

-- ---- copies granted so far, the places of those handed over, the next number and what waits
pub record Held (gs : List (List ℕ)) (places : List ℕ) (w : WaitingCopy) : Type 0 where
  pub inside : w.order < length gs
  pub bytes : get_or gs w.order [] ≡ w.bytes
  pub fresh : any (eqb w.order) places ≡ false

pub record Holds (gs : List (List ℕ)) (places : List ℕ) (order : ℕ) (ws : List WaitingCopy) : Type 0 where
  pub order_is : order ≡ length gs
  pub each : All (Held gs places) ws
  pub apart : Apart ws
  pub below : All (λ (p : ℕ). p < length gs) places

abbrev pub LineHolds : List (List ℕ) → List ℕ → Line → Type 0
LineHolds gs places l = Holds gs places l.order l.copies

more_inside : {n k m : ℕ} → n < k → m ≡ k + 1 → n < m
more_inside h e = omega arith

-- one copy more
module _ {gs : List (List ℕ)} {places : List ℕ} {order : ℕ} {ws : List WaitingCopy} (h : Holds gs places order ws) where
  longer : (x : List ℕ) → length (gs ++ x ∷ []) ≡ length gs + 1
  longer x = length-append gs (x ∷ [])

  held_more : (x : List ℕ) (w : WaitingCopy) → Held gs places w → Held (gs ++ x ∷ []) places w
  held_more x w q = record { inside = more_inside q.inside (longer x); bytes = get_or-append gs (x ∷ []) [] w.order q.inside ∙ q.bytes; fresh = q.fresh }

  held_new : (time : ℕ) (x : List ℕ) → Held (gs ++ x ∷ []) places (copy time order x)
  held_new time x =
      let i = h.order_is in
      let n = longer x in
      record { inside = omega (arith, i, n); bytes = rw i (get_or-append_seam gs x [] []); fresh = rw i (not_among (length gs) places h.below) }

  holds_one : (time : ℕ) (x : List ℕ) → Holds (gs ++ x ∷ []) places (order + 1) (inserted copy_after (copy time order x) ws)
  holds_one time x =
      let i = h.order_is in
      let n = longer x in
      record {
        order_is = omega (arith, i, n);
        each = all_inserted copy_after (copy time order x) (held_new time x) (all_weaker (held_more x) h.each);
        apart = apart_inserted (copy time order x) ws (all_weaker (λ w q e. let l = q.inside in omega (arith, l, e, i)) h.each) h.apart;
        below = all_weaker (λ p l. more_inside l n) h.below;
      }

holds_as : {gs hs : List (List ℕ)} {places : List ℕ} {n m : ℕ} {vs ws : List WaitingCopy} → gs ≡ hs → n ≡ m → vs ≡ ws → Holds gs places n vs → Holds hs places m ws
holds_as {gs} {hs} {places} {n} {m} {vs} {ws} e f i h = subst (λ (l : List (List ℕ)). Holds l places m ws) e (subst (λ (k : ℕ). Holds gs places k ws) f (subst (Holds gs places n) i h))

holds_more : {gs : List (List ℕ)} {places : List ℕ} {order : ℕ} {ws : List WaitingCopy} → Holds gs places order ws → (now : ℕ) (x : List ℕ) (ds : Deliveries) → Holds (gs ++ replicate (copies ds) x) places (order + copies ds) (put_copies order now x ds ws)
unfolding new_copies inserted_all
holds_more {gs} {order = order} h now x Lost = holds_as (sym (append-nil gs)) (omega arith) refl h
holds_more h now x (One d) = holds_one h (leaves_at now d) x
holds_more {gs} {order = order} h now x (Two d e) = holds_as (append_assoc gs (x ∷ []) (x ∷ [])) (omega arith) refl (holds_one (holds_one h (leaves_at now d) x) (leaves_at now e) x)

-- ---- a packet more
pub copies_more : (c : ChannelConfig) (rolls : List Float) (at : ℕ) (wires : List (List ℕ)) (wire : List ℕ) → copies_from c rolls at (wires ++ wire ∷ [])
    ≡ copies_from c rolls at wires ++ replicate (copies (deliveries_of c (rolls_at rolls (at + length wires * packet_rolls)))) (carried_bytes c (rolls_at rolls (at + length wires * packet_rolls)) wire)
unfolding copies_from
copies_more c rolls at [] wire = append-nil _ ∙ ap (λ (n : ℕ). replicate (copies (deliveries_of c (rolls_at rolls n))) (carried_bytes c (rolls_at rolls n) wire)) (omega arith)
copies_more c rolls at (w ∷ wires) wire =
    let these = replicate (copies (deliveries_of c (rolls_at rolls at))) (carried_bytes c (rolls_at rolls at) w) in
    ap (λ (l : List (List ℕ)). these ++ l)
    (copies_more c rolls (at + packet_rolls) wires wire
    ∙ ap (λ (n : ℕ). copies_from c rolls (at + packet_rolls) wires ++ replicate (copies (deliveries_of c (rolls_at rolls n))) (carried_bytes c (rolls_at rolls n) wire)) (omega arith))
    ∙ sym (append_assoc these (copies_from c rolls (at + packet_rolls) wires) _)

scheduled_order : (m : Schedule) (now : ℕ) (packet : List ℕ) (ds : Deliveries) → (schedule_at_unchecked m now packet ds).scheduler.next_order ≡ m.scheduler.next_order + copies ds
unfolding schedule_at_unchecked put_copy
scheduled_order m now packet Lost = omega arith
scheduled_order m now packet (One d) = omega arith
scheduled_order m now packet (Two d e) = omega arith

-- nothing yet
pub holds_new : (c : ChannelConfig) (rs : List (List ℕ)) (ps : List ℕ) → LineHolds [] [] (line_of (new_path c rs ps))
unfolding new_path
holds_new c rs ps = subst (λ (ws : List WaitingCopy). Holds [] [] 0 ws) (sym (new_waits rs ps)) (record { order_is = refl; each = of_none; apart = tt; below = of_none })

from_zero : (u n : ℕ) → u ≡ n * packet_rolls → u ≡ 0 + n * packet_rolls
from_zero u n h = omega arith

module _ {c : ChannelConfig} {rolls : List Float} {wires : List (List ℕ)} {came : ℕ} (d : Direction) (q : LineAfter c rolls wires came (line_of d)) where
  next_copies : (wire : List ℕ) → copies_from c rolls 0 wires ++ replicate (copies (granted d rolls)) (copy_bytes d rolls wire) ≡ copies_from c rolls 0 (wires ++ wire ∷ [])
  next_copies wire =
      ap (λ (k : ChannelConfig). copies_from c rolls 0 wires ++ replicate (copies (deliveries_of k (next_rolls d rolls))) (carried_bytes k (next_rolls d rolls) wire)) (ap (λ (x : Channel). x.config) q.channel_is)
      ∙ ap (λ (n : ℕ). copies_from c rolls 0 wires ++ replicate (copies (deliveries_of c (rolls_at rolls n))) (carried_bytes c (rolls_at rolls n) wire)) (from_zero _ _ q.used_is)
      ∙ sym (copies_more c rolls 0 wires wire)

  pub holds_carried : {places : List ℕ} (free : Bool) (now : ℕ) (wire : List ℕ) → CanCarry d rolls now wire → Fits d rolls free now wire → LineHolds (copies_from c rolls 0 wires) places (line_of d)
      → LineHolds (copies_from c rolls 0 (wires ++ wire ∷ [])) places (line_of (carried_on d rolls now wire))
  holds_carried {places} free now wire can f h =
      let m = schedule_of d in
      let x = copy_bytes d rolls wire in
      let put = can_put d rolls free now wire f.left can f.room (carried_length d.path.channel.config (next_rolls d rolls) wire) in
      holds_as (next_copies wire) (sym (scheduled_order m now x (granted d rolls))) (sym (schedule_waits m now x (granted d rolls) put)) (holds_more h now x (granted d rolls))

-- a datagram to the forward line, carried or not
module _ (t : Timing) {c : ChannelConfig} {rolls : List Float} {xs : List Submission} {came again : ℕ} (x : clock.Submission) (wire : List ℕ) (o : Outgoing) (q : Sending c rolls xs came again o.written (line_of o.forward) (events_in o)) where
  pub submit_holds : {places : List ℕ} → CanCarry o.forward rolls x.time wire → LineHolds (copies_from c rolls 0 (forward_wires xs)) places (line_of o.forward) → (b : Bool) → is_going (submit t rolls x wire o).stop ≡ b
      → LineHolds (copies_from c rolls 0 (forward_wires (xs ++ submission x.seq x.retransmission wire b ∷ []))) places (line_of (submit t rolls x wire o).outgoing.forward)
  submit_holds {places} can h true g =
      let on : (submit t rolls x wire o).stop ≡ (None) = going_is _ g in
      subst (λ (l : Line). LineHolds (copies_from c rolls 0 (forward_wires (xs ++ submission x.seq x.retransmission wire true ∷ []))) places l) (ap (λ (y : Outgoing). line_of y.forward) (sym (submit_going t rolls x wire o on)))
      (subst (λ (l : List (List ℕ)). LineHolds (copies_from c rolls 0 l) places (line_of (carried_on o.forward rolls x.time wire))) (sym (wires_carried t x wire o q))
      (holds_carried o.forward q.line (entry_free o) x.time wire can (submit_fits t rolls x wire o on) h))
  submit_holds {places} can h false g =
      subst (λ (l : Line). LineHolds (copies_from c rolls 0 (forward_wires (xs ++ submission x.seq x.retransmission wire false ∷ []))) places l) (ap (λ (y : Outgoing). line_of y.forward) (sym (submit_stopped t rolls x wire o g)))
      (subst (λ (l : List (List ℕ)). LineHolds (copies_from c rolls 0 l) places (line_of o.forward)) (sym (wires_stopped t x wire o q)) h)

-- an ACK to the reverse line
module _ {c : ChannelConfig} {rolls : List Float} {xs : List Reply} {came acks : ℕ} (now number sent : ℕ) (cumulative : Bool) (wire : List ℕ) (d : Direction) (q : Replying c rolls xs came acks (line_of d)) where
  pub reply_holds : {places : List ℕ} → CanCarry d rolls now wire → LineHolds (copies_from c rolls 0 (reverse_wires xs)) places (line_of d) → (b : Bool) → is_going (stop_of (carry d rolls true now wire).result.answer) ≡ b
      → LineHolds (copies_from c rolls 0 (reverse_wires (xs ++ record { number = number; cumulative = cumulative; sent = sent; wire = wire; carried = b } ∷ []))) places (line_of (left_by_carry (carry d rolls true now wire)))
  reply_holds {places} can h true g =
      let fits = going_fits d rolls true now wire (going_is _ g) in
      rw (reply_carried now number sent cumulative wire d q)
      (subst (λ (l : Line). LineHolds (copies_from c rolls 0 (reverse_wires xs ++ wire ∷ [])) places l) (ap (λ (y : CarryExit). line_of (left_by_carry y)) (sym (carries d rolls true now wire fits))) (holds_carried d q.line true now wire can fits h))
  reply_holds {places} can h false g =
      rw (reply_stopped now number sent cumulative wire d q)
      (subst (λ (l : Line). LineHolds (copies_from c rolls 0 (reverse_wires xs)) places l) (ap (λ (y : CarryExit). line_of (left_by_carry y)) (sym (stop_same d rolls true now wire _ (ap not g) refl))) h)

-- ---- a copy is taken: it waited first
all_first : {A : Type 0} {P : A → Type 0} {x : A} {xs : List A} → All P (x ∷ xs) → P x
all_first (of_more h k) = h

all_rest : {A : Type 0} {P : A → Type 0} {x : A} {xs : List A} → All P (x ∷ xs) → All P xs
all_rest (of_more h k) = k

both_all : {A : Type 0} {P Q : A → Type 0} {xs : List A} → All P xs → All Q xs → All (λ (x : A). P x × Q x) xs
both_all of_none of_none = of_none
both_all (of_more p ps) (of_more q qs) = of_more (p, q) (both_all ps qs)

neither : {a b : Bool} → a ≡ false → b ≡ false → (a || b) ≡ false
neither e f = rw (e, f)

pub record Takes (gs : List (List ℕ)) (places : List ℕ) (raw : List ℕ) (left : Line) : Type 0 where
  pub place : ℕ
  pub inside : place < length gs
  pub bytes : raw ≡ get_or gs place []
  pub fresh : any (eqb place) places ≡ false
  pub holds : LineHolds gs (places ++ place ∷ []) left

without_first : {gs : List (List ℕ)} {places : List ℕ} {order : ℕ} (w : WaitingCopy) {ws : List WaitingCopy} → Holds gs places order (w ∷ ws) → Holds gs (places ++ w.order ∷ []) order ws
without_first {places = places} w h =
    let first = all_first h.each in
    record {
      order_is = h.order_is;
      each = all_weaker (λ v q. record { inside = q.0.inside; bytes = q.0.bytes; fresh = any_more (eqb v.order) places w.order ∙ neither q.0.fresh (ne_eqb v.order w.order q.1) }) (both_all (all_rest h.each) h.apart.0);
      apart = h.apart.1;
      below = all_more w.order h.below first.inside;
    }

pub take_holds : {gs : List (List ℕ)} {places : List ℕ} (now : ℕ) (d : Direction) (n : ℕ) → state_broken (schedule_of d) ≡ false → held_late (waiting_records (schedule_of d)) ≡ false → (take_ready d now packet_buffer).result.answer ≡ Ok (Some n) → LineHolds gs places (line_of d)
    → Takes gs places (take n (take_ready d now packet_buffer).out) (line_of (left_by_take (take_ready d now packet_buffer)))
take_holds {gs} {places} now d n sound times e h =
    let waits : EachWaiting (λ (x : List ℕ). Unit {0}) d = record { each = all_weaker (λ w q. tt) h.each } in
    let t = take_copy d now packet_buffer sound waits n e in
    let first : Holds gs places d.path.scheduler.next_order (t.copy ∷ waiting (schedule_of (left_by_take (take_ready d now packet_buffer)))) = subst (λ (ws : List WaitingCopy). Holds gs places d.path.scheduler.next_order ws) t.first h in
    let held = all_first first.each in
    record {
      place = t.copy.order;
      inside = held.inside;
      bytes = t.front ∙ sym held.bytes;
      fresh = held.fresh;
      holds = holds_as refl (sym (taken_keeps d now packet_buffer sound times).orders) refl (without_first t.copy first);
    }

-- ---- along a list of calls
-- what a call is handed, if anything
pub data Hands (gs handed : List (List ℕ)) (places : List ℕ) (P : List ℕ → Type 0) : Type 0 where
  no_copy : handed ≡ [] → P places → Hands gs handed places P
  one_copy : (place : ℕ) → place < length gs → handed ≡ get_or gs place [] ∷ [] → any (eqb place) places ≡ false → P (places ++ place ∷ []) → Hands gs handed places P

pub record Comes (grants : List Call → List (List ℕ)) (handed : Call → List (List ℕ)) (cs : List Call) (l : Line) : Type 0 where
  pub places : List ℕ
  pub came : Came grants handed cs places
  pub holds : LineHolds (grants cs) places l

pub comes_more : {grants : List Call → List (List ℕ)} {handed : Call → List (List ℕ)} {cs : List Call} {l : Line} (q : Comes grants handed cs l) (c : Call) (next : Line) → Hands (grants cs) (handed c) q.places (λ (ps : List ℕ). LineHolds (grants (cs ++ c ∷ [])) ps next)
    → Comes grants handed (cs ++ c ∷ []) next
comes_more q c next (no_copy e h) = record { places = q.places; came = other c e q.came; holds = h }
comes_more q c next (one_copy place l e f h) = record { places = q.places ++ place ∷ []; came = copied c place l e f q.came; holds = h }

pub hands_copy : {gs : List (List ℕ)} {places : List ℕ} {raw : List ℕ} {left : Line} → Takes gs places raw left → Hands gs (raw ∷ []) places (λ (ps : List ℕ). LineHolds gs ps left)
hands_copy t = one_copy t.place t.inside (ap (λ (x : List ℕ). x ∷ []) t.bytes) t.fresh t.holds
