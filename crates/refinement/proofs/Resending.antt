-- Numbers sent again: the sender stays what it was, and the datagrams are the machine's segments.
use Rattle.std.specs.Prelude.{Err, None, Ok, Some}
use Prim.Native.Nat.{ℕ, zero, suc, ◌+◌, ◌-◌, ◌%◌, ◌≤◌, ◌<◌, min}
use mathlib.Core.Path.{◌≡◌, refl, sym, ap, ◌∙◌}
use mathlib.Core.Bool.{Bool, true, false, cond}
use mathlib.Core.List.{List, [], ◌∷◌, ◌++◌, map, flatten}
use native.Mathlib.Omega.{arith}
use borrow.Author.Tests.{eqb-true, eqb-false}
use lib.ListN.{length, get_or, drop}
use lib.Dec.{ltb, eqb}
use Rattle.protocol.specs.Runs.{up_from}
use Rattle.protocol.specs.Machine.{SenderState, segment_at}
use Rattle.octets.specs.Octets.{Octets}
use Rattle.refusal.specs.declared.Refusal.{Refusal}
use Rattle.refusal.specs.declared.Refusal.TheVariants.{State, Counts, Full}
use Rattle.refusal.specs.Order.{check}
use Rattle.refusal.proofs.Laws.{decided}
use Rattle.packet.specs.Format.{made}
use Rattle.store.specs.Slot.{slot_at, slot_payload}
use Rattle.store.proofs.Laws.{slot_in, slot_payload_length}
use Rattle.window.specs.Slots.{Sender, slot_for, mark_retransmitted, packet_for, datagram_for}
use Rattle.window.specs.Resending.{datagrams_from, mark_from, sent_again, TimeoutExit, timeout_exit, resend, resend_outstanding}
use Rattle.window.specs.State.{outstanding, state_broken, counts_broken}
use Rattle.window.proofs.Laws.{sound, slot_low}
use Rattle.go_back_n.specs.Sender.{handle_timeout}
use Rattle.refinement.specs.Follows.{sender_of}
use Rattle.refinement.specs.Good.{Good}
use Rattle.refinement.specs.Copies.{DataOf}
use Rattle.refinement.proofs.Rows.{read_at}
use Rattle.refinement.proofs.Good.{mark_good}
use Rattle.refinement.proofs.Senders.{mark_follows}
use Rattle.refinement.proofs.Octets.{payload_octets, mark_octets, flags_octet}

-- k numbers from n on marked as sent again
pub marks_good : (selective : Bool) (v : Sender) (n k : ℕ) → Good selective v → Good selective (mark_from v n k)
unfolding mark_from
marks_good selective v n zero g = g
marks_good selective v n (suc k) g = marks_good selective (mark_retransmitted v n) (n + 1) k (mark_good selective v n g)

pub marks_follow : (selective : Bool) (v : Sender) (n k : ℕ) → Good selective v → sender_of (mark_from v n k) ≡ sender_of v
unfolding mark_from
marks_follow selective v n zero g = refl
marks_follow selective v n (suc k) g = marks_follow selective (mark_retransmitted v n) (n + 1) k (mark_good selective v n g) ∙ mark_follows selective v n g

pub marks_octets : (v : Sender) (n k : ℕ) → Octets v.store → Octets (mark_from v n k).store
unfolding mark_from
marks_octets v n zero o = o
marks_octets v n (suc k) o = marks_octets (mark_retransmitted v n) (n + 1) k (mark_octets v n o)

marks_next : (v : Sender) (n k : ℕ) → (mark_from v n k).window.next_seq_num ≡ v.window.next_seq_num
unfolding mark_from mark_retransmitted
marks_next v n zero = refl
marks_next v n (suc k) = marks_next (mark_retransmitted v n) (n + 1) k

-- the datagrams one after another
pub datagrams_are : (v : Sender) (n k : ℕ) → datagrams_from v n k ≡ flatten (map (datagram_for v) (up_from n k))
unfolding datagrams_from flatten
datagrams_are v n zero = refl
datagrams_are v n (suc k) =
    let e : n + 1 ≡ suc n = omega arith in
    ap (λ (l : List ℕ). datagram_for v n ++ l) (datagrams_are v (n + 1) k ∙ ap (λ (m : ℕ). flatten (map (datagram_for v) (up_from m k))) e)

-- the datagram of an outstanding number
module _ (selective : Bool) (v : Sender) (g : Good selective v) (n : ℕ) (from : v.window.send_base ≤ n) (below : n < v.window.next_seq_num) where
  payload_is : get_or (sender_of v).chunks (n - v.window.send_base) [] ≡ slot_payload (slot_at v.store (slot_for v.window n))
  payload_is =
      let e : v.window.send_base + (n - v.window.send_base) ≡ n = omega arith in
      read_at slot_payload v.store v.window.window_size v.window.send_base (outstanding v.window) [] (n - v.window.send_base) (omega arith)
      ∙ ap (λ (m : ℕ). slot_payload (slot_at v.store (m % v.window.window_size))) e

  payload_short : length (slot_payload (slot_at v.store (slot_for v.window n))) ≤ 1400
  payload_short =
      let s = sound selective v.window v.store g in
      let few = s.few in
      let e : v.window.send_base + (n - v.window.send_base) ≡ n = omega arith in
      let low = rw e at (slot_low selective v.window v.store s (n - v.window.send_base) (omega arith)) in
      rw (slot_payload_length v.store (slot_for v.window n) (slot_in v.store n v.window.window_size s.positive s.room) low) low

  pub datagram_of : Octets v.store → DataOf (segment_at (sender_of v) n) (datagram_for v n)
  unfolding datagram_for
  datagram_of o =
      let low = (sound selective v.window v.store g).low in
      record {
        packet = packet_for v n;
        is = ap (made (packet_for v n)) (sym payload_is);
        kind = refl;
        number = refl;
        flags = flags_octet v.store (slot_for v.window n) o;
        low = omega arith;
        octets = rw payload_is (payload_octets v.store (slot_for v.window n) o);
        short = rw payload_is payload_short;
      }

of_same : {s t : SenderState} {n : ℕ} {raw : List ℕ} → s ≡ t → DataOf (segment_at s n) raw → DataOf (segment_at t n) raw
of_same e d = rw e at d

-- the numbers that were sent again
pub record SentAgain (selective : Bool) (v : Sender) (n k : ℕ) (out : List ℕ) (r : TimeoutExit Sender) : Type 0 where
  pub some : 0 < k
  pub answered : r.answer ≡ Ok (Some (length (flatten (map (datagram_for r.after) (up_from n k)))))
  pub marked : r.after ≡ mark_from v n k
  pub follows : sender_of r.after ≡ sender_of v
  pub good : Good selective r.after
  pub from : v.window.send_base ≤ n
  pub below : n + k ≤ v.window.next_seq_num
  pub front : r.out ≡ flatten (map (datagram_for r.after) (up_from n k)) ++ drop (length (flatten (map (datagram_for r.after) (up_from n k)))) out
  pub datagrams : Octets v.store → (m : ℕ) → n ≤ m → m < n + k → DataOf (segment_at (sender_of v) m) (datagram_for r.after m)

pub data ResendOutcome (selective : Bool) (v : Sender) (n k : ℕ) (out : List ℕ) (r : TimeoutExit Sender) : Type 0 where
  timeout_refused : (s : Refusal) → r ≡ timeout_exit (Err s) v out → ResendOutcome selective v n k out r
  nothing_sent : k ≡ 0 → r ≡ timeout_exit (Ok None) v out → ResendOutcome selective v n k out r
  sent_again_lem : SentAgain selective v n k out r → ResendOutcome selective v n k out r

module _ (selective : Bool) (v : Sender) (n k : ℕ) (out : List ℕ)
    (in_window : Good selective v → 0 < k → (v.window.send_base ≤ n) × (n + k ≤ v.window.next_seq_num)) where
  abbrev result : TimeoutExit Sender
  result = resend (state_broken selective v.window v.store) (counts_broken v.window) v n k out

  written : result ≡ timeout_exit (Ok (Some (length (sent_again v n k)))) (mark_from v n k) (sent_again v n k ++ drop (length (sent_again v n k)) out) → Good selective v → 0 < k → SentAgain selective v n k out result
  written is g some =
      let after = mark_from v n k in
      let same = marks_follow selective v n k g in
      let are = datagrams_are after n k in
      let range = in_window g some in
      let good = marks_good selective v n k g in
      let base : after.window.send_base ≡ v.window.send_base = ap (λ (s : SenderState). s.base) same in
      let next : after.window.next_seq_num ≡ v.window.next_seq_num = marks_next v n k in
      rw is (record {
        some = some;
        answered = ap (λ (l : List ℕ). Ok (Some (length l))) are;
        marked = refl;
        follows = same;
        good = good;
        from = range.0;
        below = range.1;
        front = ap (λ (l : List ℕ). l ++ drop (length l) out) are;
        datagrams = λ o m h l. of_same same (datagram_of selective after good m (rw base (omega arith)) (rw next (omega arith)) (marks_octets v n k o));
      })

  pub resend_outcome : ResendOutcome selective v n k out result
  unfolding resend
  resend_outcome =
      decided (λ (r : TimeoutExit Sender). result ≡ r → ResendOutcome selective v n k out result)
      (check (state_broken selective v.window v.store) State ∷ check (counts_broken v.window) Counts ∷ check (ltb (length out) (length (sent_again v n k))) Full ∷ []) _ _
      (λ s. timeout_refused s) (λ none e. by_count none.0 e (eqb k 0) refl) refl
    where
      by_count : Good selective v → result ≡ cond (eqb k 0) (timeout_exit (Ok None) v out) (timeout_exit (Ok (Some (length (sent_again v n k)))) (mark_from v n k) (sent_again v n k ++ drop (length (sent_again v n k)) out))
          → (b : Bool) → eqb k 0 ≡ b → ResendOutcome selective v n k out result
      by_count g is true e = nothing_sent (eqb-true k 0 e) (is ∙ rw e)
      by_count g is false e = let ne = eqb-false k 0 e in sent_again_lem (written (is ∙ rw e) g (omega arith))

  pub resend_good : Good selective v → Good selective result.after
  resend_good g = elim resend_outcome [
    | timeout_refused s e ↦ rw e g
    | nothing_sent z e ↦ rw e g
    | sent_again_lem s ↦ s.good
  ]

-- Go-Back-N: all outstanding numbers, or the lowest
pub go_back_n_timeout : (v : Sender) (out : List ℕ) → ResendOutcome false v v.window.send_base (outstanding v.window) out (handle_timeout v out)
go_back_n_timeout v out =
    resend_outcome false v v.window.send_base (outstanding v.window) out
    (λ g h. let o = (sound false v.window v.store g).ordered in (omega arith, omega arith))

-- the lowest outstanding numbers, at most so many
pub lowest_sent_again : (v : Sender) (most : ℕ) (out : List ℕ)
    → ResendOutcome false v v.window.send_base (min most (outstanding v.window)) out (resend_outstanding v most out)
lowest_sent_again v most out =
    resend_outcome false v v.window.send_base (min most (outstanding v.window)) out
    (λ g h. let o = (sound false v.window v.store g).ordered in (omega arith, omega arith))
