-- A sender over bytes follows the machine, whatever its state's type: view reads the window and store from it.
use Rattle.std.specs.Prelude.{Err, Ok, Result}
use Prim.Native.Nat.{ℕ, zero, suc, ◌+◌, ◌-◌, ◌≤◌, ◌<◌}
use mathlib.Core.Path.{◌≡◌, refl, sym, ap, ◌∙◌, subst}
use mathlib.Core.List.{List, [], map, flatten}
use mathlib.Core.Bool.{Bool, true, false, cond}
use native.Mathlib.Omega.{arith}
use lib.ListN.{length}
use lib.Seq.{take-append_seam}
use Rattle.octets.specs.Octets.{Octets}
use Rattle.protocol.specs.declared.ProtocolType.{ProtocolType}
use Rattle.protocol.specs.Runs.{up_from}
use Rattle.protocol.specs.Machine.{SenderState, next_number, send, segment_at, segments_from, acknowledge}
use Rattle.window.specs.Slots as slots
use Rattle.window.specs.Slots.{datagram_for}
use Rattle.window.specs.Sending.{SendExit, send_chunk}
use Rattle.window.specs.Acknowledgement.{AckExit, by_decision}
use Rattle.window.specs.Resending.{TimeoutExit}
use Rattle.window.specs.declared.AckDecision.{AckDecision}
use Rattle.window.specs.declared.AckDecision.TheVariants as decision
use Rattle.refinement.specs.Follows.{sender_of}
use Rattle.refinement.specs.Good.{Good}
use Rattle.packet.specs.declared.Packet.{Packet}
use Rattle.packet.specs.declared.DatagramReading.TheVariants as reading
use Rattle.refinement.specs.Copies.{DataOf, NotValid, IsAck}
use Rattle.refinement.proofs.Laws.{Sent, send_refused, window_full, chunk_sent, send_outcome, send_octets, AckOutcome, ack_refused, ack_ignored, ack_taken, ResendOutcome, timeout_refused, nothing_sent, sent_again_lem, ack_number, next_number_lem}
use Rattle.delivery.specs.Calls.{Done, Ends}
use Rattle.delivery.specs.Ends.{bytes_sent, is_sent, bytes_resent, is_resent, is_handled, by_acknowledging}
use Rattle.delivery.proofs.Datagrams.{DataBytes, AckBytes, Each}
use Rattle.delivery.proofs.Follow.{SenderKept, ChunkSent, SentAgain}
use Rattle.refusal.specs.declared.Refusal.{Refusal}

pub false_true : {X : Type 0} → ◌≡◌ {A = Bool} false true → X
false_true e = let z : ◌≡◌ {A = ℕ} 1 0 = ap (λ (b : Bool). cond b 0 1) e in absurd (omega arith)

-- a sender of window w that isn't broken, over a store of octets, is the machine's m
pub record SenderIs (selective : Bool) (w : ℕ) (v : slots.Sender) (m : SenderState) : Type 0 where
  pub good : Good selective v
  pub octets : Octets v.store
  pub size : v.window.window_size ≡ w
  pub is : sender_of v ≡ m

-- a call of the sender as a send of its window
pub record SentAs (E : Ends) (view : E.Sender → slots.Sender) (d : Done E.Sender) (y : SendExit slots.Sender) : Type 0 where
  pub after : view d.after ≡ y.after
  pub written : d.written ≡ bytes_sent y.answer y.out
  pub is_done : d.is_done ≡ is_sent y.answer

module _ (E : Ends) (view : E.Sender → slots.Sender) (selective : Bool) (w : ℕ) where
  abbrev Is : E.Sender → SenderState → Type 0
  Is s m = SenderIs selective w (view s) m

  module _ (s : E.Sender) (m : SenderState) (h : Is s m) (payload out : List ℕ) (d : Done E.Sender) (c : SentAs E view d (send_chunk selective (view s) payload out)) where
    pub chunk_follows : Octets payload → d.is_done ≡ true → ChunkSent E Is w d m payload
    chunk_follows o e = elim (send_outcome selective (view s) payload out) [
      | send_refused r f ↦ false_true (sym (ap (λ (y : SendExit slots.Sender). is_sent y.answer) f) ∙ sym c.is_done ∙ e)
      | window_full n f ↦ false_true (sym (ap (λ (y : SendExit slots.Sender). is_sent y.answer) f) ∙ sym c.is_done ∙ e)
      | chunk_sent x ↦ record {
        after = rw c.after (record {
          good = x.good;
          octets = send_octets selective (view s) payload out h.octets o;
          size = x.same_window ∙ h.size;
          is = x.follows ∙ ap (λ (k : SenderState). send k payload) h.is;
        });
        free = free x;
        wrote = subst (λ (n : ℕ). DataOf (record { number = n; payload = payload }) d.written) (ap next_number h.is) (rw (c.written, x.answered) (x.data_made o));
      }
    ]
      where
        free : Sent selective (view s) payload out (send_chunk selective (view s) payload out) → length m.chunks < w
        free x =
            let f = x.free in
            let z = h.size in
            let n : length (sender_of (view s)).chunks ≡ length m.chunks = ap (λ (k : SenderState). length k.chunks) h.is in
            omega arith

    kept : view d.after ≡ view s → d.written ≡ [] → SenderKept E Is d m
    kept e f = record { after = rw e h; nothing = f }

    pub chunk_not_sent : d.is_done ≡ false → SenderKept E Is d m
    chunk_not_sent e = elim (send_outcome selective (view s) payload out) [
      | send_refused r f ↦ kept (c.after ∙ ap (λ (y : SendExit slots.Sender). y.after) f) (c.written ∙ ap (λ (y : SendExit slots.Sender). bytes_sent y.answer y.out) f)
      | window_full n f ↦ kept (c.after ∙ ap (λ (y : SendExit slots.Sender). y.after) f) (c.written ∙ ap (λ (y : SendExit slots.Sender). bytes_sent y.answer y.out) f)
      | chunk_sent x ↦ false_true (sym e ∙ c.is_done ∙ ap is_sent x.answered)
    ]

  -- an ACK
  module _ (p : ProtocolType) (s : E.Sender) (m : SenderState) (h : Is s m) (raw : List ℕ) (r : AckExit E.Sender) (a : AckOutcome p selective view s raw r)
      (octets : Octets (view r.after).store) (size : (view r.after).window.window_size ≡ (view s).window.window_size) (refused : is_handled r.answer ≡ false → r.after ≡ s) where
    unchanged : r.after ≡ s → SenderKept E Is (by_acknowledging r) m
    unchanged e = record { after = rw e h; nothing = refl }

    same_number : (n k : ℕ) → IsAck raw n → IsAck raw k → n ≡ k
    same_number n k e f =
        let g : Ok (reading.Valid e.packet) ≡ Ok (reading.Valid f.packet) = sym e.read ∙ f.read in
        let same : e.packet ≡ f.packet = cc in
        sym e.number ∙ ap (λ (q : Packet). q.seq_num) same ∙ f.number

    pub ack_follows : (n : ℕ) → AckBytes raw n → is_handled r.answer ≡ true → SenderKept E Is (by_acknowledging r) (acknowledge p m n)
    ack_follows n b e = elim a [
      | ack_refused t f ↦ false_true (sym (ap (λ (x : AckExit E.Sender). is_handled x.answer) f) ∙ e)
      | ack_ignored t f ↦ absurd (t n (ack_number n raw b))
      | ack_taken k f x ↦ record {
        after = record {
          good = x.good;
          octets = octets;
          size = size ∙ h.size;
          is = x.follows ∙ rw (same_number k n f (ack_number n raw b)) (ap (λ (j : SenderState). acknowledge p j n) h.is);
        };
        nothing = refl;
      }
    ]

    pub ack_not_handled : is_handled r.answer ≡ false → SenderKept E Is (by_acknowledging r) m
    ack_not_handled e = unchanged (refused e)

    pub ack_no_number : NotValid raw → SenderKept E Is (by_acknowledging r) m
    ack_no_number t = elim a [
      | ack_refused u f ↦ unchanged (ap (λ (x : AckExit E.Sender). x.after) f)
      | ack_ignored u f ↦ unchanged (ap (λ (x : AckExit E.Sender). x.after) f)
      | ack_taken k f x ↦ absurd (t f.packet f.read)
    ]

-- the datagrams of k numbers from n on, with their segments
pub each_datagram : (v : slots.Sender) (m : SenderState) (n k : ℕ) → ((i : ℕ) → n ≤ i → i < n + k → DataOf (segment_at m i) (datagram_for v i)) → Each DataBytes (map (datagram_for v) (up_from n k)) (segments_from m n k)
unfolding segments_from
each_datagram v m n zero h = tt
each_datagram v m n (suc k) h = (h n (omega arith) (omega arith), each_datagram v m (suc n) k (λ i f g. h i (omega arith) (omega arith)))

-- a call of the sender as a resending of its window
pub record ResentAs (E : Ends) (view : E.Sender → slots.Sender) (d : Done E.Sender) (y : TimeoutExit slots.Sender) : Type 0 where
  pub after : view d.after ≡ y.after
  pub written : d.written ≡ bytes_resent y.answer y.out
  pub is_done : d.is_done ≡ is_resent y.answer

module _ (E : Ends) (view : E.Sender → slots.Sender) (selective : Bool) (w : ℕ) (s : E.Sender) (m : SenderState) (h : SenderIs selective w (view s) m) (n k : ℕ) (out : List ℕ)
    (d : Done E.Sender) (y : TimeoutExit slots.Sender) (c : ResentAs E view d y) (r : ResendOutcome selective (view s) n k out y)
    (octets : Octets y.after.store) (size : y.after.window.window_size ≡ (view s).window.window_size) where
  pub timeout_follows : d.is_done ≡ true → SentAgain E (λ s m. SenderIs selective w (view s) m) d m
  timeout_follows e = elim r [
    | timeout_refused t f ↦ false_true (sym (ap (λ (x : TimeoutExit slots.Sender). is_resent x.answer) f) ∙ sym c.is_done ∙ e)
    | nothing_sent z f ↦ false_true (sym (ap (λ (x : TimeoutExit slots.Sender). is_resent x.answer) f) ∙ sym c.is_done ∙ e)
    | sent_again_lem x ↦ record {
      after = rw c.after (record { good = x.good; octets = octets; size = size ∙ h.size; is = x.follows ∙ h.is });
      first = n;
      count = k;
      some = x.some;
      low = rw (← h.is) x.from;
      high = rw (← h.is, next_number_lem selective (view s) h.good) x.below;
      packets = map (datagram_for y.after) (up_from n k);
      wrote = c.written ∙ rw (x.answered, x.front) (take-append_seam (flatten (map (datagram_for y.after) (up_from n k))) _);
      each = rw (← h.is) (each_datagram y.after (sender_of (view s)) n k (x.datagrams h.octets));
    }
  ]

  pub timeout_kept : d.is_done ≡ false → SenderKept E (λ s m. SenderIs selective w (view s) m) d m
  timeout_kept e = elim r [
    | timeout_refused t f ↦ record {
      after = rw (c.after ∙ ap (λ (x : TimeoutExit slots.Sender). x.after) f) h;
      nothing = c.written ∙ ap (λ (x : TimeoutExit slots.Sender). bytes_resent x.answer x.out) f;
    }
    | nothing_sent z f ↦ record {
      after = rw (c.after ∙ ap (λ (x : TimeoutExit slots.Sender). x.after) f) h;
      nothing = c.written ∙ ap (λ (x : TimeoutExit slots.Sender). bytes_resent x.answer x.out) f;
    }
    | sent_again_lem x ↦ false_true (sym e ∙ c.is_done ∙ ap is_resent x.answered)
  ]

-- a refused ACK changes nothing
pub not_handled : {S : Type 0} (d : Result AckDecision Refusal) (v : S) (accept : ℕ → S) → is_handled (by_decision d v accept).answer ≡ false → (by_decision d v accept).after ≡ v
unfolding by_decision
not_handled (Ok (decision.Accept n base)) v accept e = false_true (sym e)
not_handled (Ok decision.NotAccepted) v accept e = refl
not_handled (Err r) v accept e = refl
