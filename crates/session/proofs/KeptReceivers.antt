-- A session's receiver is as good after a packet as before it.
use Prim.Native.Nat.{ℕ, ◌+◌, ◌-◌, ◌≤◌, ◌<◌}
use mathlib.Core.Path.{◌≡◌}
use mathlib.Core.Bool.{Bool, true, false, cond, ◌&&◌}
use mathlib.Core.List.{List}
use native.Mathlib.Omega.{arith}
use borrow.Author.Tests.{lt-leb}
use lib.ListN.{length}
use lib.Dec.{ltb, leb, eqb}
use Rattle.bounds.specs.Bounds.{count_limit, max_payload}
use Rattle.refusal.proofs.Laws.{any_of_none}
use Rattle.protocol.specs.declared.ProtocolType.{ProtocolType}
use Rattle.protocol.specs.declared.ProtocolType.TheVariants.{StopAndWait, GoBackN, SelectiveRepeat}
use Rattle.packet.specs.Reading.{payload_of}
use Rattle.window.specs.State.{window_broken, store_short}
use Rattle.receiver.specs.Reading.{read_packet}
use Rattle.receiver.specs.State.{counts_broken}
use Rattle.receiver.specs.Receive.{ReceiveExit, Reception, receive}
use Rattle.receiver.specs.declared.PacketReading.{PacketReading}
use Rattle.receiver.specs.declared.PacketReading.TheVariants as reading
use Rattle.receiver.proofs.Laws.{receive_either}
use Rattle.stop_and_wait.specs.Receiver as stop_and_wait
use Rattle.stop_and_wait.specs.declared.StopAndWaitReceiver.{StopAndWaitReceiver}
use Rattle.stop_and_wait.specs.declared.StopAndWaitDecision.{StopAndWaitDecision}
use Rattle.go_back_n.specs.Receiver as go_back_n
use Rattle.go_back_n.specs.declared.GoBackNReceiver.{GoBackNReceiver}
use Rattle.go_back_n.specs.declared.GoBackNDecision.{GoBackNDecision}
use Rattle.selective_repeat.specs.Receiver as selective_repeat
use Rattle.refinement.specs.Good.{GoodSelectiveReceiver}
use Rattle.refinement.proofs.Laws.{state_good, fresh_receiver_good, stop_and_wait_receiver_good, go_back_n_receiver_good, selective_receiver_good}
use Rattle.session.specs.declared.ReceiverState.{ReceiverState}
use Rattle.session.specs.declared.ReceiverState.TheVariants as receiverState
use Rattle.session.specs.Receiving.{ReceiverEnd, receiver_in, receiver_slot_count, new_receiver, handle_packet_in, handle_packet}
use Rattle.session.specs.GoodReceiver.{counts_broken_in, ReceiverUnbroken, CountersWithin, GoodReceiver, CanHandlePacket}

-- ---- what is asked
counts_not_broken : (a b c : ℕ) → a < count_limit → b < count_limit → c < count_limit → counts_broken a b c ≡ false
unfolding counts_broken
counts_not_broken a b c h k l = any_of_none _ (lt-leb count_limit a h, (lt-leb count_limit b k, (lt-leb count_limit c l, tt)))

within_counts : (s : ReceiverState) (k : ℕ) → CountersWithin k s → k < count_limit → counts_broken_in s ≡ false
within_counts (receiverState.StopAndWait r) k h few = counts_not_broken _ _ _ (omega (arith, h.0)) (omega (arith, h.1)) (omega (arith, h.2))
within_counts (receiverState.GoBackN r) k h few = counts_not_broken _ _ _ (omega (arith, h.0)) (omega (arith, h.1)) (omega (arith, h.2))
within_counts (receiverState.SelectiveRepeat r) k h few = counts_not_broken _ _ _ (omega (arith, h.0)) (omega (arith, h.1)) (omega (arith, h.2))

within_more : (s : ReceiverState) (k n : ℕ) → k ≤ n → CountersWithin k s → CountersWithin n s
within_more (receiverState.StopAndWait r) k n l h = (omega (arith, h.0), omega (arith, h.1), omega (arith, h.2))
within_more (receiverState.GoBackN r) k n l h = (omega (arith, h.0), omega (arith, h.1), omega (arith, h.2))
within_more (receiverState.SelectiveRepeat r) k n l h = (omega (arith, h.0), omega (arith, h.1), omega (arith, h.2))

module _ {v : ReceiverEnd} {output : List ℕ} {k : ℕ} (g : GoodReceiver v output k) where
  pub receiver_unbroken : k < count_limit → ReceiverUnbroken v output
  receiver_unbroken few = record { state = g.state; counts = within_counts v.receiver.state k g.counters few }

  pub good_can_receive : (payload : List ℕ) → k < count_limit → length payload ≤ max_payload → CanHandlePacket v payload output
  good_can_receive payload few short = record { unbroken = receiver_unbroken few; short = short }

  pub receiver_more : (n : ℕ) → k ≤ n → GoodReceiver v output n
  receiver_more n h = record { state = g.state; none_high = g.none_high; counters = within_more v.receiver.state k n h g.counters }

-- ---- making
pub new_receiver_good : (p : ProtocolType) (w : ℕ) (store output : List ℕ) → window_broken w ≡ false → store_short store (receiver_slot_count p w) ≡ false → GoodReceiver (new_receiver p w store) output 0
unfolding new_receiver
new_receiver_good StopAndWait w store output e f = record { state = state_good 0 0 output (omega arith) (omega arith); none_high = tt; counters = (omega arith, omega arith, omega arith) }
new_receiver_good GoBackN w store output e f = record { state = state_good 0 0 output (omega arith) (omega arith); none_high = tt; counters = (omega arith, omega arith, omega arith) }
new_receiver_good SelectiveRepeat w store output e f =
    let g = fresh_receiver_good w store output e f in
    record { state = g.sound; none_high = g.none_high; counters = (omega arith, omega arith, omega arith) }

-- ---- a packet raises a counter by one at most
pub either : {D : Type 0} (P : D → Type 0) (a : Bool) (x y : D) → P x → P y → P (cond a x y)
either P true x y h k = h
either P false x y h k = k

stop_and_wait_counts : (r : StopAndWaitReceiver) (h : PacketReading) (k : ℕ) → CountersWithin k (receiverState.StopAndWait r) → CountersWithin (k + 1) (receiverState.StopAndWait (stop_and_wait.decision r h).receiver)
unfolding stop_and_wait.decision stop_and_wait.data_decision
stop_and_wait_counts r (reading.Data n) k g =
    let P : StopAndWaitDecision → Type 0 = λ d. CountersWithin (k + 1) (receiverState.StopAndWait d.receiver) in
    either P (eqb n r.expected_seq) _ _ (omega (arith, g.0), omega (arith, g.1), omega (arith, g.2)) (either P (ltb n r.expected_seq) _ _ (omega (arith, g.0), omega (arith, g.1), omega (arith, g.2)) (omega (arith, g.0), omega (arith, g.1), omega (arith, g.2)))
stop_and_wait_counts r (reading.Fin n) k g = (omega (arith, g.0), omega (arith, g.1), omega (arith, g.2))
stop_and_wait_counts r reading.Ack k g = (omega (arith, g.0), omega (arith, g.1), omega (arith, g.2))
stop_and_wait_counts r reading.Corrupted k g = (omega (arith, g.0), omega (arith, g.1), omega (arith, g.2))

go_back_n_counts : (r : GoBackNReceiver) (h : PacketReading) (k : ℕ) → CountersWithin k (receiverState.GoBackN r) → CountersWithin (k + 1) (receiverState.GoBackN (go_back_n.decision r h).receiver)
unfolding go_back_n.decision go_back_n.data_decision
go_back_n_counts r (reading.Data n) k g =
    let P : GoBackNDecision → Type 0 = λ d. CountersWithin (k + 1) (receiverState.GoBackN d.receiver) in
    either P (eqb n r.expected_seq) _ _ (omega (arith, g.0), omega (arith, g.1), omega (arith, g.2)) (either P (eqb r.expected_seq 0) _ _ (omega (arith, g.0), omega (arith, g.1), omega (arith, g.2)) (omega (arith, g.0), omega (arith, g.1), omega (arith, g.2)))
go_back_n_counts r (reading.Fin n) k g = (omega (arith, g.0), omega (arith, g.1), omega (arith, g.2))
go_back_n_counts r reading.Ack k g = (omega (arith, g.0), omega (arith, g.1), omega (arith, g.2))
go_back_n_counts r reading.Corrupted k g = (omega (arith, g.0), omega (arith, g.1), omega (arith, g.2))

data_counts : (v : selective_repeat.Receiver) (n k : ℕ) → CountersWithin k (receiverState.SelectiveRepeat v.state) → (a b c t : Bool)
    → CountersWithin (k + 1) (receiverState.SelectiveRepeat (cond a (selective_repeat.in_order (selective_repeat.counted v) n) (cond b (cond t (selective_repeat.duplicate (selective_repeat.counted v) n) (selective_repeat.out_of_order (selective_repeat.counted v) n)) (cond c (selective_repeat.duplicate (selective_repeat.counted v) n) (selective_repeat.unanswered (selective_repeat.counted v).state)))).receiver)
data_counts v n k g true b c t = (omega (arith, g.0), omega (arith, g.1), omega (arith, g.2))
data_counts v n k g false true c true = (omega (arith, g.0), omega (arith, g.1), omega (arith, g.2))
data_counts v n k g false true c false = (omega (arith, g.0), omega (arith, g.1), omega (arith, g.2))
data_counts v n k g false false true t = (omega (arith, g.0), omega (arith, g.1), omega (arith, g.2))
data_counts v n k g false false false t = (omega (arith, g.0), omega (arith, g.1), omega (arith, g.2))

selective_repeat_counts : (v : selective_repeat.Receiver) (h : PacketReading) (k : ℕ) → CountersWithin k (receiverState.SelectiveRepeat v.state) → CountersWithin (k + 1) (receiverState.SelectiveRepeat (selective_repeat.decision v h).receiver)
unfolding selective_repeat.decision selective_repeat.data_decision
selective_repeat_counts v (reading.Data n) k g =
    let base = v.state.recv_base in
    let window = v.state.window_size in
    data_counts v n k g (eqb n base) (ltb base n && ltb n (base + window)) (leb (base - window) n && ltb n base) (selective_repeat.held v n)
selective_repeat_counts v (reading.Fin n) k g = (omega (arith, g.0), omega (arith, g.1), omega (arith, g.2))
selective_repeat_counts v reading.Ack k g = (omega (arith, g.0), omega (arith, g.1), omega (arith, g.2))
selective_repeat_counts v reading.Corrupted k g = (omega (arith, g.0), omega (arith, g.1), omega (arith, g.2))

-- refused, or received
received_counts : {R : Type 0} (x : Reception R) (raw output ack : List ℕ) (state : R → ReceiverState) (k : ℕ) → CountersWithin k (state x.state) → ((n : ℕ) → CountersWithin (k + 1) (state (x.after n)))
    → CountersWithin (k + 1) (state (receive x raw output ack).receiver)
received_counts {R} x raw output ack state k g more =
    receive_either x raw output ack (λ (y : ReceiveExit R). CountersWithin (k + 1) (state y.receiver)) (λ s. within_more (state x.state) k (k + 1) (omega arith) g) (λ known. more _)

pub packet_good : (v : ReceiverEnd) (raw output ack : List ℕ) (k : ℕ) → GoodReceiver v output k → GoodReceiver (handle_packet v raw output ack).receiver (handle_packet v raw output ack).output (k + 1)
unfolding handle_packet
packet_good v raw output ack k g = by_state v.receiver.state v.store g
  where
    by_state : (s : ReceiverState) (store : List ℕ) → GoodReceiver (receiver_in s store) output k → GoodReceiver (handle_packet_in s store raw output ack).receiver (handle_packet_in s store raw output ack).output (k + 1)
    by_state (receiverState.StopAndWait r) store g =
        record {
          state = stop_and_wait_receiver_good 1 r raw output ack g.state;
          none_high = tt;
          counters = received_counts (stop_and_wait.reception r (read_packet raw) (payload_of raw) output) raw output ack receiverState.StopAndWait k g.counters (λ n. stop_and_wait_counts r (read_packet raw) k g.counters);
        }
    by_state (receiverState.GoBackN r) store g =
        record {
          state = go_back_n_receiver_good 1 r raw output ack g.state;
          none_high = tt;
          counters = received_counts (go_back_n.reception r (read_packet raw) (payload_of raw) output) raw output ack receiverState.GoBackN k g.counters (λ n. go_back_n_counts r (read_packet raw) k g.counters);
        }
    by_state (receiverState.SelectiveRepeat r) store g =
        let u = selective_repeat.receiver r store in
        let good : GoodSelectiveReceiver u output = record { sound = g.state; none_high = g.none_high } in
        let after = selective_receiver_good u raw output ack good in
        record {
          state = after.sound;
          none_high = after.none_high;
          counters = received_counts (selective_repeat.reception u (read_packet raw) (payload_of raw) output) raw output ack (λ w. receiverState.SelectiveRepeat w.state) k g.counters (λ n. selective_repeat_counts u (read_packet raw) k g.counters);
        }
