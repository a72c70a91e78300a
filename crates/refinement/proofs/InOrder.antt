-- The Stop-and-Wait and Go-Back-N receivers: their decisions are the machine's.
use Prim.Native.Nat.{ℕ, ◌+◌, ◌≤◌, ◌<◌}
use mathlib.Core.Path.{◌≡◌, refl, sym, ap, ◌∙◌}
use mathlib.Core.Bool.{Bool, true, false, cond}
use mathlib.Core.List.{List, [], ◌∷◌, append-nil, flatten}
use native.Mathlib.Omega.{arith}
use borrow.Author.Tests.{eqb-true, le-ltb}
use lib.ListN.{length}
use lib.Dec.{ltb, eqb}
use Rattle.protocol.specs.Machine.{Segment, ReceiverState}
use Rattle.protocol.specs.Machine
use Rattle.protocol.specs.declared.ProtocolType.{ProtocolType}
use Rattle.refusal.proofs.Laws.{any_of_none}
use Rattle.protocol.specs.declared.ProtocolType.TheVariants.{StopAndWait, GoBackN}
use Rattle.packet.specs.Reading.{payload_of}
use Rattle.receiver.specs.State.{state_broken}
use Rattle.receiver.specs.Reading.{read_packet}
use Rattle.receiver.specs.Reply.{answer_of}
use Rattle.receiver.specs.Receive.{ReceiveExit, receive}
use Rattle.receiver.specs.declared.Decision.{Decision}
use Rattle.receiver.specs.declared.PacketReading.{PacketReading}
use Rattle.receiver.specs.declared.PacketReading.TheVariants as reading
use Rattle.receiver.proofs.Laws.{state_low}
use Rattle.stop_and_wait.specs.Receiver as stop_and_wait
use Rattle.stop_and_wait.specs.declared.StopAndWaitReceiver.{StopAndWaitReceiver}
use Rattle.go_back_n.specs.Receiver as go_back_n
use Rattle.go_back_n.specs.declared.GoBackNReceiver.{GoBackNReceiver}
use Rattle.refinement.specs.Follows.{in_order_receiver_of, acks_of}
use Rattle.refinement.proofs.Receiving.{Follows, Leaves, left, fin_valid, other_kind, ReceiveOutcome, packet_refused, not_data, data_taken, receive_outcome, outcome_mark}

-- base and fill mark stay in bounds
base_low : (p : ProtocolType) (r : ReceiverState) (q : Segment) (limit : ℕ) → r.base ≤ limit → q.number < limit → (Machine.receive_in_order p r q).after.base ≤ limit
base_low p r q limit h k = by_test_lem (eqb q.number r.base) refl
  where
    by_test_lem : (b : Bool) → eqb q.number r.base ≡ b → (Machine.receive_in_order p r q).after.base ≤ limit
    by_test_lem true e = let f = eqb-true q.number r.base e in rw e (omega arith)
    by_test_lem false e = rw e h

pub state_good : (base filled : ℕ) (output : List ℕ) → base ≤ 4294901760 → filled ≤ length output → state_broken base filled output ≡ false
unfolding state_broken
state_good base filled output h k = any_of_none _ (le-ltb 4294901760 base h, (le-ltb (length output) filled k, tt))

module _ {R : Type 0} (p : ProtocolType) (w : ℕ) (in_order_lem : (r : ReceiverState) (q : Segment) → Machine.receive p w r q ≡ Machine.receive_in_order p r q)
    (expectedOf filledOf : R → ℕ) (r : R) (raw output ack : List ℕ) (result : ReceiveExit R)
    (outcome : ReceiveOutcome p w (λ s. in_order_receiver_of (expectedOf s)) filledOf r raw output ack result) (good : state_broken (expectedOf r) (filledOf r) output ≡ false) where
  next_base : expectedOf result.receiver ≤ 4294901760
  next_base =
      let low = (state_low (expectedOf r) (filledOf r) output good).0 in
      elim outcome [
        | packet_refused s e ↦ rw e low
        | not_data n i ↦ rw (ap (λ (s : ReceiverState). s.base) i.follows) low
        | data_taken n e l t ↦ rw (ap (λ (s : ReceiverState). s.base) (t.follows ∙ ap (λ (m : Machine.Received). m.after) (in_order_lem _ _))) (base_low p _ _ 4294901760 low l)
      ]

  pub in_order_good : state_broken (expectedOf result.receiver) (filledOf result.receiver) result.output ≡ false
  in_order_good =
      state_good _ _ result.output next_base (outcome_mark p w _ filledOf r raw output ack result outcome (state_low (expectedOf r) (filledOf r) output good).1)

-- a decision on Data, by whether it is in order: delivered and acknowledged, or answered late
record DecidesData (same : Bool) (late : List ℕ) (expected n : ℕ) (next : ℕ → ℕ) (d : Decision) : Type 0 where
  pub moves : (filled : ℕ) → next filled ≡ cond same (expected + 1) expected
  pub delivers : d.deliver ≡ same
  pub acks : acks_of (answer_of d.reply) ≡ cond same (n ∷ []) late

-- a receiver that holds nothing, by its decisions d and the states after them
module _ {R : Type 0} (p : ProtocolType) (w : ℕ) (in_order_lem : (r : ReceiverState) (q : Segment) → Machine.receive p w r q ≡ Machine.receive_in_order p r q)
    (expectedOf filledOf : R → ℕ) (r : R) (after : PacketReading → ℕ → R) (d : PacketReading → Decision) where
  abbrev view : R → ReceiverState
  view s = in_order_receiver_of (expectedOf s)

  data_follows : (n : ℕ) (payload : List ℕ) → DecidesData (eqb n (expectedOf r)) (Machine.late_acks p (expectedOf r) n) (expectedOf r) n (λ filled. expectedOf (after (reading.Data n) filled)) (d (reading.Data n))
      → Follows view (after (reading.Data n)) (d (reading.Data n)) payload (Machine.receive_in_order p (view r) (record { number = n; payload = payload }))
  unfolding flatten
  data_follows n payload h = by_test_lem (eqb n (expectedOf r)) refl
    where
      by_test_lem : (b : Bool) → eqb n (expectedOf r) ≡ b → Follows view (after (reading.Data n)) (d (reading.Data n)) payload (Machine.receive_in_order p (view r) (record { number = n; payload = payload }))
      by_test_lem true e = rw e (record { state = λ filled. ap in_order_receiver_of (h.moves filled ∙ rw e); delivered = rw (h.delivers, e) (sym (append-nil payload)); acks = h.acks ∙ rw e })
      by_test_lem false e = rw e (record { state = λ filled. ap in_order_receiver_of (h.moves filled ∙ rw e); delivered = rw (h.delivers, e); acks = h.acks ∙ rw e })

  in_order_receives : (counts : Bool) (raw output ack : List ℕ) → ((h : PacketReading) (filled : ℕ) → filledOf (after h filled) ≡ filled)
      → ((n : ℕ) → DecidesData (eqb n (expectedOf r)) (Machine.late_acks p (expectedOf r) n) (expectedOf r) n (λ filled. expectedOf (after (reading.Data n) filled)) (d (reading.Data n)))
      → ((h : PacketReading) → ((n : ℕ) → h ≡ reading.Data n → ⊥) → Leaves view (after h) r (d h) h)
      → ReceiveOutcome p w view filledOf r raw output ack
      (receive (record { state = r; state_broken = state_broken (expectedOf r) (filledOf r) output; counts_broken = counts; filled = filledOf r; decision = d (read_packet raw); delivered = payload_of raw; after = after (read_packet raw) }) raw output ack)
  in_order_receives counts raw output ack marked on_data on_other =
      receive_outcome p w view filledOf _ raw output ack refl
      (record {
        mark = λ e. (state_low _ _ output e).1;
        base_low = λ e. (state_low _ _ output e).0;
        with_mark = marked (read_packet raw);
        on_data = λ sound n e short. rw (e, in_order_lem (view r) (record { number = n; payload = payload_of raw })) (data_follows n (payload_of raw) (on_data n));
        on_other = on_other (read_packet raw);
      })

-- Stop-and-Wait
abbrev pub stop_and_wait_view : StopAndWaitReceiver → ReceiverState
stop_and_wait_view r = in_order_receiver_of r.expected_seq

stop_and_wait_data : (r : StopAndWaitReceiver) (n : ℕ) (b : Bool) → eqb n r.expected_seq ≡ b → (c : Bool) → ltb n r.expected_seq ≡ c
    → DecidesData (eqb n r.expected_seq) (Machine.late_acks StopAndWait r.expected_seq n) r.expected_seq n (λ filled. (stop_and_wait.with_mark (stop_and_wait.decision r (reading.Data n)).receiver filled).expected_seq) (stop_and_wait.decision r (reading.Data n)).decision
unfolding stop_and_wait.decision stop_and_wait.data_decision
stop_and_wait_data r n true e c f = rw e (record { moves = λ filled. refl; delivers = refl; acks = refl })
stop_and_wait_data r n false e true f = rw (e, f) (record { moves = λ filled. refl; delivers = refl; acks = refl })
stop_and_wait_data r n false e false f = rw (e, f) (record { moves = λ filled. refl; delivers = refl; acks = refl })

pub stop_and_wait_receives : (w : ℕ) (r : StopAndWaitReceiver) (raw output ack : List ℕ) → ReceiveOutcome StopAndWait w stop_and_wait_view (λ s. s.filled) r raw output ack (stop_and_wait.handle_packet r raw output ack)
unfolding Machine.receive stop_and_wait.decision
stop_and_wait_receives w r raw output ack =
    in_order_receives StopAndWait w (λ s q. refl) (λ s. s.expected_seq) (λ s. s.filled) r (λ h. stop_and_wait.with_mark (stop_and_wait.decision r h).receiver) (λ h. (stop_and_wait.decision r h).decision)
    _ raw output ack (λ h filled. refl) (λ n. stop_and_wait_data r n _ refl _ refl)
    (other_kind (λ h. Leaves stop_and_wait_view (stop_and_wait.with_mark (stop_and_wait.decision r h).receiver) r (stop_and_wait.decision r h).decision h)
    (λ n. left (λ filled. refl) refl (fin_valid n)) (left (λ filled. refl) refl (λ e. refl)) (left (λ filled. refl) refl (λ e. refl)))

-- Go-Back-N
abbrev pub go_back_nView : GoBackNReceiver → ReceiverState
go_back_nView r = in_order_receiver_of r.expected_seq

go_back_n_data : (r : GoBackNReceiver) (n : ℕ) (b : Bool) → eqb n r.expected_seq ≡ b → (c : Bool) → eqb r.expected_seq 0 ≡ c
    → DecidesData (eqb n r.expected_seq) (Machine.late_acks GoBackN r.expected_seq n) r.expected_seq n (λ filled. (go_back_n.with_mark (go_back_n.decision r (reading.Data n)).receiver filled).expected_seq) (go_back_n.decision r (reading.Data n)).decision
unfolding go_back_n.decision go_back_n.data_decision
go_back_n_data r n true e c f = rw e (record { moves = λ filled. refl; delivers = refl; acks = refl })
go_back_n_data r n false e true f = rw (e, f) (record { moves = λ filled. refl; delivers = refl; acks = refl })
go_back_n_data r n false e false f = rw (e, f) (record { moves = λ filled. refl; delivers = refl; acks = refl })

pub go_back_n_receives : (w : ℕ) (r : GoBackNReceiver) (raw output ack : List ℕ) → ReceiveOutcome GoBackN w go_back_nView (λ s. s.filled) r raw output ack (go_back_n.handle_packet r raw output ack)
unfolding Machine.receive go_back_n.decision
go_back_n_receives w r raw output ack =
    in_order_receives GoBackN w (λ s q. refl) (λ s. s.expected_seq) (λ s. s.filled) r (λ h. go_back_n.with_mark (go_back_n.decision r h).receiver) (λ h. (go_back_n.decision r h).decision)
    _ raw output ack (λ h filled. refl) (λ n. go_back_n_data r n _ refl _ refl)
    (other_kind (λ h. Leaves go_back_nView (go_back_n.with_mark (go_back_n.decision r h).receiver) r (go_back_n.decision r h).decision h)
    (λ n. left (λ filled. refl) refl (fin_valid n)) (left (λ filled. refl) refl (λ e. refl)) (left (λ filled. refl) refl (λ e. refl)))

-- their states stay good
pub stop_and_wait_receiver_good : (w : ℕ) (r : StopAndWaitReceiver) (raw output ack : List ℕ) → state_broken r.expected_seq r.filled output ≡ false
    → state_broken (stop_and_wait.handle_packet r raw output ack).receiver.expected_seq (stop_and_wait.handle_packet r raw output ack).receiver.filled (stop_and_wait.handle_packet r raw output ack).output ≡ false
unfolding Machine.receive
stop_and_wait_receiver_good w r raw output ack good =
    in_order_good StopAndWait w (λ s q. refl) (λ s. s.expected_seq) (λ s. s.filled) r raw output ack (stop_and_wait.handle_packet r raw output ack) (stop_and_wait_receives w r raw output ack) good

pub go_back_n_receiver_good : (w : ℕ) (r : GoBackNReceiver) (raw output ack : List ℕ) → state_broken r.expected_seq r.filled output ≡ false
    → state_broken (go_back_n.handle_packet r raw output ack).receiver.expected_seq (go_back_n.handle_packet r raw output ack).receiver.filled (go_back_n.handle_packet r raw output ack).output ≡ false
unfolding Machine.receive
go_back_n_receiver_good w r raw output ack good =
    in_order_good GoBackN w (λ s q. refl) (λ s. s.expected_seq) (λ s. s.filled) r raw output ack (go_back_n.handle_packet r raw output ack) (go_back_n_receives w r raw output ack) good
