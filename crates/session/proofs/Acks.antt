-- A datagram given to a session's sender as an ACK, by what it is read as.
use Rattle.std.specs.Prelude.{Err, Ok, Result}
use Prim.Native.Nat.{ℕ, ◌+◌}
use mathlib.Core.Path.{◌≡◌, refl, ap, ◌∙◌}
use mathlib.Core.Bool.{Bool, true, false, cond}
use mathlib.Core.List.{List}
use Rattle.refusal.specs.declared.Refusal.{Refusal}
use Rattle.packet.specs.Reading.{read_datagram}
use Rattle.packet.specs.declared.Packet.{Packet}
use Rattle.packet.specs.declared.PacketType.{PacketType}
use Rattle.packet.specs.declared.PacketType.TheVariants as packetType
use Rattle.packet.specs.declared.DatagramReading.{DatagramReading}
use Rattle.packet.specs.declared.DatagramReading.TheVariants as reading
use Rattle.window.specs.Slots as slots
use Rattle.window.specs.Acknowledgement.{is_in_window, by_type, by_reading, ack_decision, ack_exit, by_decision}
use Rattle.window.specs.declared.AckDecision.{AckDecision}
use Rattle.window.specs.declared.AckDecision.TheVariants as decision
use Rattle.window.proofs.Laws.{ack_read}
use Rattle.stop_and_wait.specs.Sender as stop_and_wait
use Rattle.go_back_n.specs.Sender as go_back_n
use Rattle.selective_repeat.specs.Sender as selective_repeat
use Rattle.session.specs.declared.SenderState.{SenderState}
use Rattle.session.specs.declared.SenderState.TheVariants as senderState
use Rattle.session.specs.Sending.{SenderEnd, sender_in, stop_and_wait_end, go_back_nEnd, selective_repeat_end, window_in, window_of, acknowledged_as, handle_ack_in, handle_ack, acknowledged_in, acknowledged, ack_answer_of, handle_ack_unchecked}
use Rattle.session.specs.GoodSender.{is_selective, SenderUnbroken}

decided_as : {S : Type 0} (end : S → SenderEnd) (d : Result AckDecision Refusal) (v : S) (accept : ℕ → S) → acknowledged_as end (by_decision d v accept) ≡ by_decision d (end v) (λ n. end (accept n))
unfolding by_decision
decided_as end (Ok (decision.Accept n base)) v accept = refl
decided_as end (Ok decision.NotAccepted) v accept = refl
decided_as end (Err r) v accept = refl

pub ack_decided : (s : SenderState) (store raw : List ℕ) → handle_ack_in s store raw ≡ by_decision (ack_decision (is_selective s) (window_in s) store raw) (sender_in s store) (acknowledged_in s store)
ack_decided (senderState.StopAndWait s) store raw = decided_as stop_and_wait_end _ (stop_and_wait.end_of s store) (stop_and_wait.acknowledged (stop_and_wait.end_of s store))
ack_decided (senderState.GoBackN s) store raw = decided_as go_back_nEnd _ (slots.sender s.window store) (go_back_n.acknowledged (slots.sender s.window store))
ack_decided (senderState.SelectiveRepeat s) store raw = decided_as selective_repeat_end _ (slots.sender s.window store) (selective_repeat.acknowledge_one (slots.sender s.window store))

module _ (v : SenderEnd) (raw : List ℕ) (h : SenderUnbroken v) where
  by_reading_lem : (x : Result DatagramReading Refusal) → read_datagram raw ≡ x → handle_ack v raw ≡ by_decision (by_reading (window_of v.sender) x) v (acknowledged v)
  unfolding handle_ack acknowledged
  by_reading_lem x e =
      ack_decided v.sender.state v.store raw
      ∙ ap (λ (d : Result AckDecision Refusal). by_decision d v (acknowledged_in v.sender.state v.store)) (ack_read (is_selective v.sender.state) (window_of v.sender) v.store raw h.state h.counts)
      ∙ ap (λ (y : Result DatagramReading Refusal). by_decision (by_reading (window_of v.sender) y) v (acknowledged_in v.sender.state v.store)) e

  by_type_lem : (k : PacketType) (n : ℕ) → k ≡ packetType.Ack → by_decision (by_type (window_of v.sender) k n) v (acknowledged v) ≡ handle_ack_unchecked v n
  unfolding by_decision handle_ack_unchecked
  by_type_lem k n e = rw e (by_test_lem (is_in_window (window_of v.sender) n))
    where
      by_test_lem : (b : Bool) → by_decision (cond b (Ok (decision.Accept n (n + 1))) (Ok decision.NotAccepted)) v (acknowledged v) ≡ ack_exit (ack_answer_of b) (cond b (acknowledged v n) v)
      by_test_lem true = refl
      by_test_lem false = refl

  -- a valid ACK
  pub ack_of_number : (p : Packet) → read_datagram raw ≡ Ok (reading.Valid p) → p.pkt_type ≡ packetType.Ack → handle_ack v raw ≡ handle_ack_unchecked v p.seq_num
  ack_of_number p e k = by_reading_lem (Ok (reading.Valid p)) e ∙ by_type_lem p.pkt_type p.seq_num k

  -- anything else changes nothing
  not_ack : (k : PacketType) (n : ℕ) → (k ≡ packetType.Ack → ⊥) → by_decision (by_type (window_of v.sender) k n) v (acknowledged v) ≡ ack_exit (Ok false) v
  unfolding by_decision
  not_ack packetType.Data n e = refl
  not_ack packetType.Ack n e = absurd (e refl)
  not_ack packetType.Fin n e = refl

  pub ack_of_other : (p : Packet) → read_datagram raw ≡ Ok (reading.Valid p) → (p.pkt_type ≡ packetType.Ack → ⊥) → handle_ack v raw ≡ ack_exit (Ok false) v
  ack_of_other p e k = by_reading_lem (Ok (reading.Valid p)) e ∙ not_ack p.pkt_type p.seq_num k

  pub ack_of_corrupted : (p : Packet) → read_datagram raw ≡ Ok (reading.Corrupted p) → handle_ack v raw ≡ ack_exit (Ok false) v
  unfolding by_decision
  ack_of_corrupted p e = by_reading_lem (Ok (reading.Corrupted p)) e

  pub ack_of_refused : (r : Refusal) → read_datagram raw ≡ Err r → handle_ack v raw ≡ ack_exit (Err r) v
  unfolding by_decision
  ack_of_refused r e = by_reading_lem (Err r) e
