-- What holds of the two ends and the plain machine after every fair list; and what sending and sending again do to it.
use Rattle.std.specs.Prelude.{Option, None}
use mathlib.Core.Path.{◌≡◌, refl, sym, ap, ◌∙◌}
use mathlib.Core.Bool.{Bool, true, false}
use mathlib.Core.List.{List, [], ◌∷◌, ◌++◌, map}
use Prim.Native.Nat.{ℕ, zero, suc, ◌+◌, ◌-◌, ◌≤◌, ◌<◌}
use native.Mathlib.Omega.{arith}
use lib.ListN.{length, get_or, take, drop, length-append, length-drop, length-replicate, get_or-replicate, get_or-append}
use lib.Seq.{drop-append-le, take-append-le, get_or-drop, get_or_at}
use Rattle.protocol.specs.Runs.{lead, up_from}
use Rattle.protocol.specs.Machine.{Chunk, Segment, SenderState, ReceiverState, next_number, send, segment_at, segments_from, Received}
use Rattle.protocol.specs.PlainMachine.{PlainState, plain_start, plain_send}
use Rattle.protocol.specs.Trace.{World, new_world, sent, resent, step}
use Rattle.protocol.specs.declared.ProtocolType.{ProtocolType}
use Rattle.protocol.specs.declared.ProtocolType.TheVariants.{StopAndWait, GoBackN, SelectiveRepeat}
use Rattle.protocol.proofs.Every.{Every, every_nil, every_cons, every_append, every_snoc, every_mono}
use Rattle.protocol.proofs.Marks.{On, false_true, place, place_same, get_d_more}

-- Stop-and-Wait and Go-Back-N take numbers in order
abbrev pub is_selective : ProtocolType → Bool
is_selective StopAndWait = false
is_selective GoBackN = false
is_selective SelectiveRepeat = true

-- of all three protocols: where the ends stand and what they hold
pub record Ends (w : ℕ) (sender : SenderState) (receiver : ReceiverState) (delivered : List Chunk) (s : PlainState) : Type 0 where
  pub base_is : sender.base ≡ s.A
  pub chunks_is : sender.chunks ≡ drop s.A s.sent
  pub expected_is : receiver.base ≡ s.D
  pub delivered_is : delivered ≡ take s.D s.sent
  pub A≤D : s.A ≤ s.D
  pub D≤sent : s.D ≤ length s.sent
  pub fits : length s.sent ≤ s.A + w

-- the receiver's places, from number n on, hold what is noted
abbrev pub Holds : ℕ → List (Option Chunk) → List Bool → List Chunk → ℕ → Type 0
Holds w held marks s n = (i : ℕ) → i < w → get_or held i None ≡ place (get_or marks (n + i) false) (get_or s (n + i) [])

-- of Selective Repeat: what is noted, and what the ends mark and hold of it
pub record Selective (w : ℕ) (sender : SenderState) (receiver : ReceiverState) (s : PlainState) : Type 0 where
  pub D-is : lead s.at_receiver ≡ s.D
  pub A-is : lead s.at_sender ≡ s.A
  pub marks_is : (i : ℕ) → get_or sender.acknowledged i false ≡ get_or s.at_sender (s.A + i) false
  pub as_many : length sender.acknowledged ≡ length sender.chunks
  pub all_places : length receiver.held ≡ w
  pub held_is : Holds w receiver.held s.at_receiver s.sent s.D
  pub noted_sent : (n : ℕ) → On s.at_receiver n → n < length s.sent
  pub both_noted : (n : ℕ) → On s.at_sender n → On s.at_receiver n

-- of the others: nothing is marked, and nothing noted
pub record InOrder (sender : SenderState) (s : PlainState) : Type 0 where
  pub no_marks : (i : ℕ) → get_or sender.acknowledged i false ≡ false
  pub none_noted : (i : ℕ) → get_or s.at_sender i false ≡ false

abbrev pub Own : Bool → ℕ → SenderState → ReceiverState → PlainState → Type 0
Own false w sender receiver s = InOrder sender s
Own true w sender receiver s = Selective w sender receiver s

-- a segment numbered n carries chunk n of S
pub record Carries (s : List Chunk) (q : Segment) : Type 0 where
  pub known : q.number < length s
  pub same : q.payload ≡ get_or s q.number []

-- number n was handed to the receiver, and taken
abbrev pub Noted : Bool → PlainState → ℕ → Type 0
Noted false s n = n < s.D
Noted true s n = On s.at_receiver n

pub record Invariant (selective : Bool) (w : ℕ) (v : World) (s : PlainState) : Type 0 where
  pub ends : Ends w v.sender v.receiver v.delivered s
  pub own : Own selective w v.sender v.receiver s
  pub segments_carry : Every (Carries s.sent) v.segments
  pub acks_noted : Every (Noted selective s) v.acks

-- the world after a receiver's answer
abbrev pub answered : World → Received → World
answered v x =
    record
    { sender = v.sender; receiver = x.after; delivered = v.delivered ++ x.delivered; segments = v.segments; acks = v.acks ++ x.acks }

-- ---- fresh ends

own_start : (p : ProtocolType) (w : ℕ) → Own (is_selective p) w (new_world p w).sender (new_world p w).receiver plain_start
unfolding new_world plain_start
own_start StopAndWait w = record { no_marks = λ i. refl; none_noted = λ i. refl }
own_start GoBackN w = record { no_marks = λ i. refl; none_noted = λ i. refl }
own_start SelectiveRepeat w =
    record {
      D-is = refl;
      A-is = refl;
      marks_is = λ i. refl;
      as_many = refl;
      all_places = length-replicate w None;
      held_is = λ i l. get_or-replicate w i None None l;
      noted_sent = λ n e. false_true e;
      both_noted = λ n e. e;
    }

pub at_start : (p : ProtocolType) (w : ℕ) → Invariant (is_selective p) w (new_world p w) plain_start
unfolding new_world plain_start
at_start p w =
    record {
      ends = record
          { base_is = refl; chunks_is = refl; expected_is = refl; delivered_is = refl; A≤D = omega arith; D≤sent = omega arith; fits = omega arith };
      own = own_start p w;
      segments_carry = every_nil;
      acks_noted = every_nil;
    }

-- ---- a chunk is sent

-- how many chunks the sender holds
pub chunks_length : {w : ℕ} {sender : SenderState} {receiver : ReceiverState} {delivered : List Chunk} {s : PlainState} → Ends w sender receiver delivered s
    → length sender.chunks ≡ length s.sent - s.A
chunks_length {s = s} h = ap length h.chunks_is ∙ length-drop s.A s.sent

carries_more : (s t : List Chunk) (q : Segment) → Carries s q → Carries (s ++ t) q
carries_more s t q k =
    record {
      known = simp length-append (omega arith);
      same = k.same ∙ sym (get_or-append s t [] q.number k.known);
    }

-- a chunk more is sent: what the places hold is as before
holds_more : (w : ℕ) (held : List (Option Chunk)) (m : List Bool) (s : List Chunk) (c : Chunk) (n : ℕ) → ((i : ℕ) → On m i → i < length s)
    → Holds w held m s n → Holds w held m (s ++ (c ∷ [])) n
holds_more w held m s c n l f i k =
    f i k ∙ place_same (get_or m (n + i) false) (get_or s (n + i) []) (get_or (s ++ (c ∷ [])) (n + i) [])
    (λ e. sym (get_or-append s (c ∷ []) [] (n + i) (l (n + i) e)))

sent_own : (b : Bool) (w : ℕ) (v : World) (s : PlainState) (c : Chunk) → Own b w v.sender v.receiver s
    → Own b w (send v.sender c) v.receiver (plain_send s c)
unfolding send plain_send
sent_own false w v s c o = record { no_marks = λ i. get_d_more v.sender.acknowledged i ∙ o.no_marks i; none_noted = o.none_noted }
sent_own true w v s c o =
    let more : length (s.sent ++ (c ∷ [])) ≡ length s.sent + 1 = length-append s.sent (c ∷ []) in
    record {
      D-is = o.D-is;
      A-is = o.A-is;
      marks_is = λ i. get_d_more v.sender.acknowledged i ∙ o.marks_is i;
      as_many = simp length-append (omega (arith, o.as_many));
      all_places = o.all_places;
      held_is = holds_more w v.receiver.held s.at_receiver s.sent c s.D o.noted_sent o.held_is;
      noted_sent = λ n e. let l = o.noted_sent n e in omega arith;
      both_noted = o.both_noted;
    }

sent_noted : (b : Bool) (s : PlainState) (c : Chunk) (acks : List ℕ) → Every (Noted b s) acks → Every (Noted b (plain_send s c)) acks
unfolding plain_send
sent_noted false s c acks f = every_mono (λ n l. l) f
sent_noted true s c acks f = every_mono (λ n e. e) f

pub sent_ok : (p : ProtocolType) (b : Bool) (w : ℕ) (v : World) (s : PlainState) (c : Chunk) → Invariant b w v s → length v.sender.chunks < w
    → Invariant b w (step p w v (sent c)) (plain_send s c)
unfolding step send plain_send
sent_ok p b w v s c i l =
    let h = i.ends in
    let n : length v.sender.chunks ≡ length s.sent - s.A = chunks_length h in
    let more : length (s.sent ++ (c ∷ [])) ≡ length s.sent + 1 = length-append s.sent (c ∷ []) in
    record {
      ends = record {
        base_is = h.base_is;
        chunks_is = ap (λ (x : List Chunk). x ++ (c ∷ [])) h.chunks_is ∙ sym (drop-append-le s.A s.sent (c ∷ []) (omega arith));
        expected_is = h.expected_is;
        delivered_is = h.delivered_is ∙ sym (take-append-le s.D s.sent (c ∷ []) h.D≤sent);
        A≤D = h.A≤D;
        D≤sent = omega arith;
        fits = omega arith;
      };
      own = sent_own b w v s c i.own;
      segments_carry = every_snoc (every_mono (carries_more s.sent (c ∷ [])) i.segments_carry)
          (record { known = omega arith; same = sym (get_or_at s.sent c [] [] (next_number v.sender) (omega arith)) });
      acks_noted = sent_noted b s c v.acks i.acks_noted;
    }

-- ---- k numbers from n on are sent again

resent_carry : (w : ℕ) (v : World) (s : PlainState) (n k : ℕ) → Ends w v.sender v.receiver v.delivered s → v.sender.base ≤ n
    → n + k ≤ next_number v.sender → Every (Carries s.sent) (map (segment_at v.sender) (up_from n k))
resent_carry w v s n zero h l m = every_nil
resent_carry w v s n (suc k) h l m =
    let x : length v.sender.chunks ≡ length s.sent - s.A = chunks_length h in
    let z : s.A + (n - s.A) ≡ n = omega arith in
    every_cons (record { known = omega arith; same = rw (h.chunks_is, h.base_is, get_or-drop, z) })
    (resent_carry w v s (suc n) k h (omega arith) (omega arith))

pub resent_ok : (p : ProtocolType) (b : Bool) (w : ℕ) (v : World) (s : PlainState) (n k : ℕ) → Invariant b w v s → v.sender.base ≤ n
    → n + k ≤ next_number v.sender → Invariant b w (step p w v (resent n k)) s
unfolding step segments_from
resent_ok p b w v s n k i l m =
    record
    { ends = i.ends; own = i.own; segments_carry = every_append i.segments_carry (resent_carry w v s n k i.ends l m); acks_noted = i.acks_noted }
