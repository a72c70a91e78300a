-- A call whose checks are all false is done, or at least not refused: what the theorem over lists doesn't say.
use Rattle.std.specs.Prelude.{Err, Ok, Result}
use Prim.Native.Nat.{ℕ, zero, suc, ◌+◌, ◌*◌, ◌≤◌}
use mathlib.Core.Path.{◌≡◌, refl, sym, ap, ◌∙◌}
use mathlib.Core.List.{List}
use mathlib.Core.Bool.{Bool, true, false, cond}
use native.Mathlib.Omega.{arith}
use borrow.Author.Tests.{le-ltb}
use lib.ListN.{length, length-append}
use lib.Dec.{ltb, eqb}
use Rattle.refusal.specs.declared.Refusal.{Refusal}
use Rattle.refusal.proofs.Laws.{NoneTrue, none_true_accepted, on_accepted}
use Rattle.bounds.specs.Bounds.{max_datagram}
use Rattle.window.specs.State.{state_broken, counts_broken}
use Rattle.window.specs.Slots as slots
use Rattle.window.specs.Sending.{SendExit, window_free, send_checks, send_chunk}
use Rattle.window.specs.Resending.{TimeoutExit, datagrams_from, mark_from, sent_again, resend, Resendable}
use Rattle.window.proofs.Laws.{sound, resendable, ack_read}
use Rattle.window.proofs.Resending.{mark_from_lem, length_low, datagram_length, same_lengths}
use Rattle.window.specs.Acknowledgement.{is_in_window, by_type, by_reading, ack_decision, by_decision}
use Rattle.window.specs.declared.SendWindow.{SendWindow}
use Rattle.window.specs.declared.AckDecision.{AckDecision}
use Rattle.window.specs.declared.AckDecision.TheVariants as decision
use Rattle.packet.specs.Reading.{read_datagram}
use Rattle.packet.specs.declared.PacketType.{PacketType}
use Rattle.packet.specs.declared.PacketType.TheVariants as packetType
use Rattle.packet.specs.declared.DatagramReading.{DatagramReading}
use Rattle.packet.specs.declared.DatagramReading.TheVariants as reading
use Rattle.packet.proofs.Laws.{Taken, valid_taken}
use Rattle.receiver.specs.Reading.{number_high}
use Rattle.receiver.specs.Receive.{ReceiveExit, Reception, no_room, received_exit, receive, receive_unchecked}
use Rattle.receiver.proofs.Laws.{receive_unchecked_lem}
use Rattle.protocol.specs.Machine.{Segment}
use Rattle.refinement.specs.Copies.{DataOf, AckOf}
use Rattle.refinement.proofs.Laws.{data_accepted, ack_number}
use Rattle.delivery.proofs.ReceiverFollows.{answered}
use Rattle.delivery.specs.Ends.{is_sent, is_send_refused, is_resent, is_timeout_refused, is_handled, is_received}

pub send_done : (selective : Bool) (v : slots.Sender) (payload out : List ℕ) → NoneTrue (send_checks selective v payload out) → window_free v.window ≡ true
    → is_sent (send_chunk selective v payload out).answer ≡ true
unfolding send_chunk
send_done selective v payload out h free = ap (λ (x : SendExit slots.Sender). is_sent x.answer) (on_accepted _ _ (none_true_accepted _ h)) ∙ rw free refl

-- a full window, and a timeout after which nothing is sent, are no refusals
either : {X : Type 0} (refused : X → Bool) (test : Bool) (a b : X) → refused a ≡ false → refused b ≡ false → refused (cond test a b) ≡ false
either refused true a b h k = h
either refused false a b h k = k

pub send_accepted : (selective : Bool) (v : slots.Sender) (payload out : List ℕ) → NoneTrue (send_checks selective v payload out) → is_send_refused (send_chunk selective v payload out).answer ≡ false
unfolding send_chunk
send_accepted selective v payload out h =
    ap (λ (x : SendExit slots.Sender). is_send_refused x.answer) (on_accepted _ _ (none_true_accepted _ h)) ∙ either (λ (x : SendExit slots.Sender). is_send_refused x.answer) (window_free v.window) _ _ refl refl

pub timeout_accepted : (broken counts : Bool) (v : slots.Sender) (n k : ℕ) (out : List ℕ) → broken ≡ false → counts ≡ false → length (sent_again v n k) ≤ length out
    → is_timeout_refused (resend broken counts v n k out).answer ≡ false
unfolding resend
timeout_accepted broken counts v n k out b c room =
    ap (λ (x : TimeoutExit slots.Sender). is_timeout_refused x.answer) (on_accepted _ _ (none_true_accepted _ (b, (c, (le-ltb _ _ room, tt)))))
    ∙ either (λ (x : TimeoutExit slots.Sender). is_timeout_refused x.answer) (eqb k 0) _ _ refl refl

-- the datagrams of k outstanding numbers from n on are at most so long
lengths_within : (v : slots.Sender) (first count n k : ℕ) → Resendable v.window v.store first count → first ≤ n → n + k ≤ first + count → length (datagrams_from v n k) ≤ k * max_datagram
unfolding datagrams_from
lengths_within v first count n zero h from below = omega arith
lengths_within v first count n (suc k) h from below =
    let one = datagram_length v first count n h from (omega arith) in
    let low = length_low v.window v.store first count n h from (omega arith) in
    let rest = lengths_within v first count (n + 1) k h (omega arith) (omega arith) in
    simp length-append (omega (arith, one, low, rest))

pub again_within : (selective : Bool) (v : slots.Sender) (n k : ℕ) → state_broken selective v.window v.store ≡ false → v.window.send_base ≤ n → n + k ≤ v.window.next_seq_num
    → length (sent_again v n k) ≤ k * max_datagram
again_within selective v n k good from below =
    let h = resendable selective v.window v.store n k (sound selective v.window v.store good) from below in
    let same = same_lengths v (mark_from v n k) n k (mark_from_lem v n k) h in
    let few = lengths_within v n k n k h (omega arith) (omega arith) in
    omega arith

pub timeout_done : (broken counts : Bool) (v : slots.Sender) (n k : ℕ) (out : List ℕ) → broken ≡ false → counts ≡ false → ltb (length out) (length (sent_again v n k)) ≡ false → eqb k 0 ≡ false
    → is_resent (resend broken counts v n k out).answer ≡ true
unfolding resend
timeout_done broken counts v n k out b c room some =
    ap (λ (x : TimeoutExit slots.Sender). is_resent x.answer) (on_accepted _ _ (none_true_accepted _ (b, (c, (room, tt))))) ∙ rw some refl

handled : {S : Type 0} (s : SendWindow) (x : Result DatagramReading Refusal) (v : S) (accept : ℕ → S) → ((r : Refusal) → x ≡ Err r → ⊥)
    → is_handled (by_decision (by_reading s x) v accept).answer ≡ true
unfolding by_decision
handled s (Ok (reading.Valid p)) v accept t = by_type_lem p.pkt_type (is_in_window s p.seq_num)
  where
    by_test_lem : (b : Bool) → is_handled (by_decision (cond b (Ok (decision.Accept p.seq_num (p.seq_num + 1))) (Ok decision.NotAccepted)) v accept).answer ≡ true
    by_test_lem true = refl
    by_test_lem false = refl

    by_type_lem : (k : PacketType) (b : Bool) → is_handled (by_decision (by_type s k p.seq_num) v accept).answer ≡ true
    by_type_lem packetType.Data b = refl
    by_type_lem packetType.Ack b = by_test_lem (is_in_window s p.seq_num)
    by_type_lem packetType.Fin b = refl
handled s (Ok (reading.Corrupted p)) v accept t = refl
handled s (Err r) v accept t = absurd (t r refl)

pub ack_done : {S : Type 0} (selective : Bool) (s : SendWindow) (store raw : List ℕ) (v : S) (accept : ℕ → S) → state_broken selective s store ≡ false → counts_broken s ≡ false → Taken raw
    → is_handled (by_decision (ack_decision selective s store raw) v accept).answer ≡ true
ack_done selective s store raw v accept b c t =
    ap (λ (d : Result AckDecision Refusal). is_handled (by_decision d v accept).answer) (ack_read selective s store raw b c) ∙ handled s (read_datagram raw) v accept t

module _ {R : Type 0} (x : Reception R) (raw output ack : List ℕ) (b : x.state_broken ≡ false) (c : x.counts_broken ≡ false) (room : no_room x output ack ≡ false) where
  applied : Taken raw → number_high (read_datagram raw) ≡ false → receive x raw output ack ≡ received_exit x output ack
  unfolding receive_unchecked
  applied t low = sym (receive_unchecked_lem x raw output ack b c t low) ∙ rw room

  pub packet_done : Taken raw → number_high (read_datagram raw) ≡ false → is_received (receive x raw output ack).answer ≡ true
  packet_done t low = ap (λ (y : ReceiveExit R). is_received y.answer) (applied t low) ∙ answered x.decision.reply

  -- Data that was made is taken, where there is room
  module _ (q : Segment) (made : DataOf q raw) where
    pub data_received : is_received (receive x raw output ack).answer ≡ true
    data_received = let a = data_accepted q raw made in packet_done a.0 a.1

    pub data_applied : receive x raw output ack ≡ received_exit x output ack
    data_applied = let a = data_accepted q raw made in applied a.0 a.1

-- an ACK that was made is handled
pub ack_handled : {S : Type 0} (selective : Bool) (s : SendWindow) (store raw : List ℕ) (v : S) (accept : ℕ → S) (n : ℕ) → state_broken selective s store ≡ false → counts_broken s ≡ false → AckOf n raw
    → is_handled (by_decision (ack_decision selective s store raw) v accept).answer ≡ true
ack_handled selective s store raw v accept n b c a = ack_done selective s store raw v accept b c (valid_taken raw (ack_number n raw a).read)
