-- What a packet changes of a session's receiver: its base never falls, and it counts one duplicate at most.
use Prim.Native.Nat.{ℕ, ◌+◌, ◌-◌, ◌≤◌}
use mathlib.Core.Path.{◌≡◌, refl}
use mathlib.Core.Bool.{Bool, true, false, cond, ◌&&◌}
use mathlib.Core.List.{List}
use native.Mathlib.Omega.{arith}
use lib.Dec.{ltb, leb, eqb}
use Rattle.packet.specs.Reading.{payload_of}
use Rattle.receiver.specs.Reading.{read_packet}
use Rattle.receiver.specs.Receive.{ReceiveExit, Reception, receive}
use Rattle.receiver.specs.declared.PacketReading.{PacketReading}
use Rattle.receiver.specs.declared.PacketReading.TheVariants as reading
use Rattle.receiver.proofs.Laws.{receive_either}
use Rattle.stop_and_wait.specs.Receiver as stop_and_wait
use Rattle.stop_and_wait.specs.declared.StopAndWaitReceiver.{StopAndWaitReceiver}
use Rattle.stop_and_wait.specs.declared.StopAndWaitDecision.{StopAndWaitDecision}
use Rattle.go_back_n.specs.Receiver as go_back_n
use Rattle.go_back_n.specs.declared.GoBackNReceiver.{GoBackNReceiver}
use Rattle.go_back_n.specs.declared.GoBackNDecision.{GoBackNDecision}
use Rattle.selective_repeat.specs.Receiver as selective_repeat
use Rattle.session.specs.declared.Receiver.{Receiver}
use Rattle.session.specs.declared.ReceiverState.{ReceiverState}
use Rattle.session.specs.declared.ReceiverState.TheVariants as receiverState
use Rattle.session.specs.Receiving.{ReceiverEnd, base_in, base, is_cumulative_in, is_cumulative, duplicate_count_in, duplicate_count, handle_packet_in, handle_packet}
use Rattle.session.proofs.KeptReceivers.{either}

pub record Rises (r after : Receiver) : Type 0 where
  pub cumulative : is_cumulative after ≡ is_cumulative r
  pub higher : base r ≤ base after
  pub duplicates : duplicate_count after ≤ duplicate_count r + 1

abbrev RisesIn : ReceiverState → ReceiverState → Type 0
RisesIn s t = (is_cumulative_in t ≡ is_cumulative_in s) × (base_in s ≤ base_in t) × (duplicate_count_in t ≤ duplicate_count_in s + 1)

stays : (s : ReceiverState) → RisesIn s s
stays s = (refl, omega arith, omega arith)

stop_and_wait_rises : (r : StopAndWaitReceiver) (h : PacketReading) → RisesIn (receiverState.StopAndWait r) (receiverState.StopAndWait (stop_and_wait.decision r h).receiver)
unfolding stop_and_wait.decision stop_and_wait.data_decision
stop_and_wait_rises r (reading.Data n) =
    let P : StopAndWaitDecision → Type 0 = λ d. RisesIn (receiverState.StopAndWait r) (receiverState.StopAndWait d.receiver) in
    either P (eqb n r.expected_seq) _ _ (refl, omega arith, omega arith) (either P (ltb n r.expected_seq) _ _ (refl, omega arith, omega arith) (refl, omega arith, omega arith))
stop_and_wait_rises r (reading.Fin n) = (refl, omega arith, omega arith)
stop_and_wait_rises r reading.Ack = (refl, omega arith, omega arith)
stop_and_wait_rises r reading.Corrupted = (refl, omega arith, omega arith)

go_back_n_rises : (r : GoBackNReceiver) (h : PacketReading) → RisesIn (receiverState.GoBackN r) (receiverState.GoBackN (go_back_n.decision r h).receiver)
unfolding go_back_n.decision go_back_n.data_decision
go_back_n_rises r (reading.Data n) =
    let P : GoBackNDecision → Type 0 = λ d. RisesIn (receiverState.GoBackN r) (receiverState.GoBackN d.receiver) in
    either P (eqb n r.expected_seq) _ _ (refl, omega arith, omega arith) (either P (eqb r.expected_seq 0) _ _ (refl, omega arith, omega arith) (refl, omega arith, omega arith))
go_back_n_rises r (reading.Fin n) = (refl, omega arith, omega arith)
go_back_n_rises r reading.Ack = (refl, omega arith, omega arith)
go_back_n_rises r reading.Corrupted = (refl, omega arith, omega arith)

data_rises : (v : selective_repeat.Receiver) (n : ℕ) (a b c t : Bool)
    → RisesIn (receiverState.SelectiveRepeat v.state) (receiverState.SelectiveRepeat (cond a (selective_repeat.in_order (selective_repeat.counted v) n) (cond b (cond t (selective_repeat.duplicate (selective_repeat.counted v) n) (selective_repeat.out_of_order (selective_repeat.counted v) n)) (cond c (selective_repeat.duplicate (selective_repeat.counted v) n) (selective_repeat.unanswered (selective_repeat.counted v).state)))).receiver)
data_rises v n true b c t = (refl, omega arith, omega arith)
data_rises v n false true c true = (refl, omega arith, omega arith)
data_rises v n false true c false = (refl, omega arith, omega arith)
data_rises v n false false true t = (refl, omega arith, omega arith)
data_rises v n false false false t = (refl, omega arith, omega arith)

selective_repeat_rises : (v : selective_repeat.Receiver) (h : PacketReading) → RisesIn (receiverState.SelectiveRepeat v.state) (receiverState.SelectiveRepeat (selective_repeat.decision v h).receiver)
unfolding selective_repeat.decision selective_repeat.data_decision
selective_repeat_rises v (reading.Data n) =
    let first = v.state.recv_base in
    let window = v.state.window_size in
    data_rises v n (eqb n first) (ltb first n && ltb n (first + window)) (leb (first - window) n && ltb n first) (selective_repeat.held v n)
selective_repeat_rises v (reading.Fin n) = (refl, omega arith, omega arith)
selective_repeat_rises v reading.Ack = (refl, omega arith, omega arith)
selective_repeat_rises v reading.Corrupted = (refl, omega arith, omega arith)

-- refused, or received
received_rises : {R : Type 0} (x : Reception R) (raw output ack : List ℕ) (state : R → ReceiverState) → ((n : ℕ) → RisesIn (state x.state) (state (x.after n))) → RisesIn (state x.state) (state (receive x raw output ack).receiver)
received_rises {R} x raw output ack state more = receive_either x raw output ack (λ (y : ReceiveExit R). RisesIn (state x.state) (state y.receiver)) (λ s. stays (state x.state)) (λ known. more _)

pub packet_rises : (v : ReceiverEnd) (raw output ack : List ℕ) → Rises v.receiver (handle_packet v raw output ack).receiver.receiver
unfolding handle_packet
packet_rises v raw output ack = let m = by_state v.receiver.state v.store in record { cumulative = m.0; higher = m.1; duplicates = m.2 }
  where
    by_state : (s : ReceiverState) (store : List ℕ) → RisesIn s (handle_packet_in s store raw output ack).receiver.receiver.state
    by_state (receiverState.StopAndWait r) store = received_rises (stop_and_wait.reception r (read_packet raw) (payload_of raw) output) raw output ack receiverState.StopAndWait (λ n. stop_and_wait_rises r (read_packet raw))
    by_state (receiverState.GoBackN r) store = received_rises (go_back_n.reception r (read_packet raw) (payload_of raw) output) raw output ack receiverState.GoBackN (λ n. go_back_n_rises r (read_packet raw))
    by_state (receiverState.SelectiveRepeat r) store =
        let u = selective_repeat.receiver r store in
        received_rises (selective_repeat.reception u (read_packet raw) (payload_of raw) output) raw output ack (λ w. receiverState.SelectiveRepeat w.state) (λ n. selective_repeat_rises u (read_packet raw))

-- a receiver whose ACKs are cumulative counts no duplicates
pub cumulative_none : (r : Receiver) → is_cumulative r ≡ true → duplicate_count r ≡ 0
cumulative_none r = by_state r.state
  where
    by_state : (s : ReceiverState) → is_cumulative_in s ≡ true → duplicate_count_in s ≡ 0
    by_state (receiverState.StopAndWait x) e = let z : ◌≡◌ {A = ℕ} 0 1 = cc in absurd (omega arith)
    by_state (receiverState.GoBackN x) e = refl
    by_state (receiverState.SelectiveRepeat x) e = let z : ◌≡◌ {A = ℕ} 0 1 = cc in absurd (omega arith)
