-- What a session's call of a receiver is below the entry point.
use Rattle.std.specs.Prelude.{Err, Ok, Result}
use Prim.Native.Nat.{ℕ, ◌*◌, ◌≤◌}
use mathlib.Core.Path.{◌≡◌, refl, sym, ap, ◌∙◌, subst}
use mathlib.Core.Bool.{Bool, true, false, cond, ◌&&◌}
use native.Mathlib.Omega.{arith}
use mathlib.Core.List.{List, ◌++◌}
use lib.ListN.{length, drop, replicate}
use lib.Dec.{ltb}
use Rattle.bounds.specs.Bounds.{slot_size}
use Rattle.protocol.specs.declared.ProtocolType.{ProtocolType}
use Rattle.protocol.specs.declared.ProtocolType.TheVariants as protocol
use Rattle.refusal.specs.declared.Refusal.TheVariants.{Numbers}
use Rattle.refusal.proofs.Laws.{held_none, on_accepted}
use Rattle.packet.specs.Reading.{payload_of, read_datagram}
use Rattle.packet.specs.declared.Packet.{Packet}
use Rattle.packet.specs.declared.DatagramReading.{DatagramReading}
use Rattle.packet.specs.declared.DatagramReading.TheVariants as datagram
use Rattle.packet.proofs.Laws.{Taken, valid_taken, corrupted_taken}
use Rattle.receiver.specs.Reading.{packet_reading, is_number_high, number_high, reading_of, read_packet, reading_answer, read_after}
use Rattle.receiver.specs.Receive.{ReceiveExit, receive_exit, Reception, refused_exit, receive, receive_unchecked}
use Rattle.receiver.specs.declared.PacketReading.{PacketReading}
use Rattle.receiver.proofs.Laws.{receive_refused, receive_unchecked_lem}
use Rattle.stop_and_wait.specs.Receiver as stop_and_wait
use Rattle.stop_and_wait.specs.declared.StopAndWaitReceiver.{StopAndWaitReceiver}
use Rattle.go_back_n.specs.Receiver as go_back_n
use Rattle.go_back_n.specs.declared.GoBackNReceiver.{GoBackNReceiver}
use Rattle.selective_repeat.specs.Receiver as selective_repeat
use Rattle.session.specs.declared.Receiver.{Receiver}
use Rattle.session.specs.declared.ReceiverState.{ReceiverState}
use Rattle.session.specs.declared.ReceiverState.TheVariants as receiverState
use Rattle.session.specs.Receiving.{ReceiverEnd, receiver_in, stop_and_wait_receiver_end, go_back_nReceiver_end, selective_repeat_receiver_end, receiver_slot_count, new_receiver, base, is_cumulative, gbn_already_delivered, received_as, handle_packet_in, handle_packet, handle_reading_in, handle_reading, is_high, handle_packet_unchecked}
use Rattle.session.specs.GoodReceiver.{ReceiverUnbroken, CanHandlePacket}
use Rattle.refusal.specs.declared.Refusal.{Refusal}

-- ---- making
pub receiver_made_in : (p q : ProtocolType) (w : ℕ) (store : List ℕ) → p ≡ q → {r : ReceiverEnd} → r ≡ new_receiver q w store → r ≡ new_receiver p w store
receiver_made_in p q w store e f = f ∙ ap (λ (z : ProtocolType). new_receiver z w store) (sym e)

pub receiver_slots_in : (p q : ProtocolType) (w : ℕ) (store : List ℕ) → p ≡ q → receiver_slot_count p w * slot_size ≤ length store → receiver_slot_count q w * slot_size ≤ length store
receiver_slots_in p q w store e h = subst (λ (z : ProtocolType). receiver_slot_count z w * slot_size ≤ length store) e h

module _ (w : ℕ) (store : List ℕ) where
  pub stop_and_wait_receiver_made : {r : StopAndWaitReceiver} → r ≡ stop_and_wait.new_receiver → stop_and_wait_receiver_end store r ≡ new_receiver protocol.StopAndWait w store
  unfolding new_receiver
  stop_and_wait_receiver_made e = ap (stop_and_wait_receiver_end store) e

  pub go_back_n_receiver_made : {r : GoBackNReceiver} → r ≡ go_back_n.new_receiver → go_back_nReceiver_end store r ≡ new_receiver protocol.GoBackN w store
  unfolding new_receiver
  go_back_n_receiver_made e = ap (go_back_nReceiver_end store) e

  pub selective_repeat_receiver_made : {zeroed : List ℕ} → zeroed ≡ replicate (w * slot_size) 0 ++ drop (w * slot_size) store
      → receiver_in (receiverState.SelectiveRepeat (selective_repeat.new_receiver w)) zeroed ≡ new_receiver protocol.SelectiveRepeat w store
  unfolding new_receiver
  selective_repeat_receiver_made e = ap (receiver_in (receiverState.SelectiveRepeat (selective_repeat.new_receiver w))) e

-- ---- what it tells
pub delivered_already : (r : Receiver) (n : ℕ) {b : ℕ} {c : Bool} → c ≡ is_cumulative r → c ≡ true → b ≡ base r → ltb n b ≡ gbn_already_delivered r n
delivered_already r n e t f = ap (ltb n) f ∙ ap (λ (c : Bool). c && ltb n (base r)) (sym t ∙ e)

pub delivered_never : (r : Receiver) (n : ℕ) {c : Bool} → c ≡ is_cumulative r → c ≡ false → false ≡ gbn_already_delivered r n
delivered_never r n e t = ap (λ (c : Bool). c && ltb n (base r)) (sym t ∙ e)

pub high_valid : (p : Packet) (valid : Bool) {b : Bool} → valid ≡ true → b ≡ is_number_high p → b ≡ is_high p valid
high_valid p valid t e = e ∙ ap (is_high p) (sym t)

pub high_corrupted : (p : Packet) (valid : Bool) → valid ≡ false → false ≡ is_high p valid
high_corrupted p valid t = ap (is_high p) (sym t)

-- ---- a packet, by the protocol y that the state x has
module _ (x y : ReceiverState) (store : List ℕ) (e : x ≡ y) where
  pub can_receive_in : (payload output : List ℕ) → CanHandlePacket (receiver_in x store) payload output → CanHandlePacket (receiver_in y store) payload output
  can_receive_in payload output h = subst (λ (z : ReceiverState). CanHandlePacket (receiver_in z store) payload output) e h

  pub read_in : (h : PacketReading) (payload output ack : List ℕ) {r : ReceiveExit ReceiverEnd} → r ≡ handle_reading_in y store h payload output ack → r ≡ handle_reading (receiver_in x store) h payload output ack
  unfolding handle_reading
  read_in h payload output ack f = f ∙ ap (λ (z : ReceiverState). handle_reading_in z store h payload output ack) (sym e)

module _ (v : ReceiverEnd) (p : Packet) (valid : Bool) (payload output ack : List ℕ) where
  pub packet_high : {b : Bool} → b ≡ is_high p valid → b ≡ true → receive_exit (Err Numbers) v output ack ≡ handle_packet_unchecked v p valid payload output ack
  unfolding handle_packet_unchecked
  packet_high e t = ap (λ (b : Bool). cond b (receive_exit (Err Numbers) v output ack) (handle_reading v (packet_reading p valid) payload output ack)) (sym t ∙ e)

  pub packet_low : {b : Bool} {h : PacketReading} {r : ReceiveExit ReceiverEnd} → b ≡ is_high p valid → b ≡ false → h ≡ packet_reading p valid → r ≡ handle_reading v h payload output ack
      → r ≡ handle_packet_unchecked v p valid payload output ack
  unfolding handle_packet_unchecked
  packet_low e t f g =
      g ∙ ap (λ (k : PacketReading). handle_reading v k payload output ack) f
      ∙ ap (λ (b : Bool). cond b (receive_exit (Err Numbers) v output ack) (handle_reading v (packet_reading p valid) payload output ack)) (sym t ∙ e)

-- ---- of a datagram that reads as the packet: the entry point's call
abbrev pub read_as : Packet → Bool → Result DatagramReading Refusal
read_as p true = Ok (datagram.Valid p)
read_as p false = Ok (datagram.Corrupted p)

read_as_lem : (p : Packet) (valid : Bool) → reading_of (read_as p valid) ≡ packet_reading p valid
read_as_lem p true = refl
read_as_lem p false = refl

high_as : (p : Packet) (valid : Bool) → number_high (read_as p valid) ≡ is_high p valid
high_as p true = refl
high_as p false = refl

pub taken_as : (raw : List ℕ) (p : Packet) (valid : Bool) → read_datagram raw ≡ read_as p valid → Taken raw
taken_as raw p true e = valid_taken raw e
taken_as raw p false e = corrupted_taken raw e

answer_high : (p : Packet) (valid : Bool) → is_high p valid ≡ true → reading_answer (read_as p valid) ≡ Err Numbers
answer_high p true h = rw h
answer_high p false h = let z : ◌≡◌ {A = ℕ} 0 1 = cc in absurd (omega arith)

module _ {R : Type 0} (x : Reception R) (raw output ack : List ℕ) (p : Packet) (valid : Bool) (e : read_datagram raw ≡ read_as p valid) (state : x.state_broken ≡ false) (counts : x.counts_broken ≡ false) where
  refused_high : is_high p valid ≡ true → receive x raw output ack ≡ refused_exit x output ack (Err Numbers)
  unfolding read_after
  refused_high h =
      sym (receive_refused x raw output ack Numbers
      (rw (state, counts) (on_accepted Err (reading_answer (read_datagram raw)) held_none ∙ ap reading_answer e ∙ answer_high p valid h)))

  received_low : is_high p valid ≡ false → receive x raw output ack ≡ receive_unchecked x output ack
  received_low h = sym (receive_unchecked_lem x raw output ack state counts (taken_as raw p valid e) (ap number_high e ∙ high_as p valid ∙ h))

  read_received : receive x raw output ack ≡ cond (is_high p valid) (refused_exit x output ack (Err Numbers)) (receive_unchecked x output ack)
  read_received = by_test_lem (is_high p valid) refl
    where
      by_test_lem : (b : Bool) → is_high p valid ≡ b → receive x raw output ack ≡ cond (is_high p valid) (refused_exit x output ack (Err Numbers)) (receive_unchecked x output ack)
      by_test_lem true h = rw h (refused_high h)
      by_test_lem false h = rw h (received_low h)

-- an exit as a session's, under a test
as_either : {R : Type 0} (end : R → ReceiverEnd) (b : Bool) (x y : ReceiveExit R) → received_as end (cond b x y) ≡ cond b (received_as end x) (received_as end y)
as_either end true x y = refl
as_either end false x y = refl

module _ (raw output ack : List ℕ) (p : Packet) (valid : Bool) (e : read_datagram raw ≡ read_as p valid) where
  reading_is : read_packet raw ≡ packet_reading p valid
  reading_is = ap reading_of e ∙ read_as_lem p valid

  by_state : (s : ReceiverState) (store : List ℕ) → ReceiverUnbroken (receiver_in s store) output
      → handle_packet_in s store raw output ack
      ≡ cond (is_high p valid) (receive_exit (Err Numbers) (receiver_in s store) output ack) (handle_reading_in s store (packet_reading p valid) (payload_of raw) output ack)
  by_state (receiverState.StopAndWait r) store g =
      ap (λ (k : PacketReading). received_as (stop_and_wait_receiver_end store) (receive (stop_and_wait.reception r k (payload_of raw) output) raw output ack)) reading_is
      ∙ ap (received_as (stop_and_wait_receiver_end store)) (read_received (stop_and_wait.reception r (packet_reading p valid) (payload_of raw) output) raw output ack p valid e g.state g.counts)
      ∙ as_either (stop_and_wait_receiver_end store) (is_high p valid) _ _
  by_state (receiverState.GoBackN r) store g =
      ap (λ (k : PacketReading). received_as (go_back_nReceiver_end store) (receive (go_back_n.reception r k (payload_of raw) output) raw output ack)) reading_is
      ∙ ap (received_as (go_back_nReceiver_end store)) (read_received (go_back_n.reception r (packet_reading p valid) (payload_of raw) output) raw output ack p valid e g.state g.counts)
      ∙ as_either (go_back_nReceiver_end store) (is_high p valid) _ _
  by_state (receiverState.SelectiveRepeat r) store g =
      ap (λ (k : PacketReading). received_as selective_repeat_receiver_end (receive (selective_repeat.reception (selective_repeat.receiver r store) k (payload_of raw) output) raw output ack)) reading_is
      ∙ ap (received_as selective_repeat_receiver_end) (read_received (selective_repeat.reception (selective_repeat.receiver r store) (packet_reading p valid) (payload_of raw) output) raw output ack p valid e g.state g.counts)
      ∙ as_either selective_repeat_receiver_end (is_high p valid) _ _

  pub packet_read : (v : ReceiverEnd) → ReceiverUnbroken v output → handle_packet_unchecked v p valid (payload_of raw) output ack ≡ handle_packet v raw output ack
  unfolding handle_packet_unchecked handle_reading handle_packet
  packet_read v g = sym (by_state v.receiver.state v.store g)
