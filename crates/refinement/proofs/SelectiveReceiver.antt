-- The Selective Repeat receiver: its decisions are the machine's.
use Prim.Native.Nat.{ℕ, ◌+◌, ◌-◌, ◌%◌, ◌≤◌, ◌<◌}
use mathlib.Core.Path.{◌≡◌, refl, sym, ap, ◌∙◌}
use mathlib.Core.Bool.{false}
use mathlib.Core.List.{List, [], ◌∷◌, ◌++◌, flatten}
use native.Mathlib.Omega.{arith}
use native.Mathlib.Decide.{ℕ_discrete, dec_lt}
use borrow.Author.Tests.{lt-ltb, le-ltb, le-leb, lt-leb, eq-eqb, ne_eqb}
use lib.ListN.{length}
use lib.Dec.{eqb}
use Rattle.protocol.specs.Machine.{ReceiverState, Received}
use Rattle.protocol.specs.Machine
use Rattle.protocol.specs.declared.ProtocolType.TheVariants.{SelectiveRepeat}
use Rattle.packet.specs.Reading.{payload_of}
use Rattle.store.specs.Slot.{slot_at, slot_mark}
use Rattle.store.specs.Sound.{receiver_test, receiver_slots_broken, slot_of}
use Rattle.store.proofs.Laws.{none_found}
use Rattle.receiver.specs.Reading.{read_packet}
use Rattle.receiver.specs.Reply.{answer_of}
use Rattle.receiver.specs.declared.PacketReading.{PacketReading}
use Rattle.receiver.specs.declared.PacketReading.TheVariants as reading
use Rattle.selective_repeat.specs.Receiver.{Receiver, in_order, out_of_order, duplicate, unanswered, data_decision, decision, counted, delivered_bytes, after_packet, handle_packet, Ready}
use Rattle.selective_repeat.specs.declared.SelectiveRepeatDecision.{SelectiveRepeatDecision}
use Rattle.selective_repeat.proofs.States.{ready, receiving_sound}
use Rattle.refinement.specs.Follows.{receiver_of, acks_of}
use Rattle.refinement.proofs.Receiving.{Follows, Leaves, left, fin_valid, other_kind, ReceiveOutcome, receive_outcome}
use Rattle.refinement.proofs.Held.{slot_broken, marks_low, run_after_base}
use Rattle.refinement.proofs.Selective.{at_base, held_again, held_new, delivered_before, too_old, too_high}

abbrev pub selective_view : Receiver → ReceiverState
selective_view v = receiver_of v.state.window_size v.state.recv_base v.store

pub each_slot : (v : Receiver) → Ready v.state v.store → (k : ℕ) → k < v.state.window_size → slot_broken (eqb k 0) (slot_of v.store v.state.window_size v.state.recv_base k) ≡ false
unfolding receiver_slots_broken
each_slot v r k h = none_found v.state.window_size k (receiver_test v.store v.state.window_size v.state.recv_base) h r.slots

-- what is decided on Data, by its number
pub data DataCase (v : Receiver) (n : ℕ) : Type 0 where
  in_order_lem : n ≡ v.state.recv_base → decision v (reading.Data n) ≡ in_order (counted v) n → DataCase v n
  held_already : v.state.recv_base < n → n < v.state.recv_base + v.state.window_size → slot_mark (slot_at v.store (n % v.state.window_size)) ≡ 1
      → decision v (reading.Data n) ≡ duplicate (counted v) n → DataCase v n
  to_be_held : v.state.recv_base < n → n < v.state.recv_base + v.state.window_size → (slot_mark (slot_at v.store (n % v.state.window_size)) ≡ 1 → ⊥)
      → decision v (reading.Data n) ≡ out_of_order (counted v) n → DataCase v n
  delivered_already : n < v.state.recv_base → v.state.recv_base ≤ n + v.state.window_size → decision v (reading.Data n) ≡ duplicate (counted v) n → DataCase v n
  old : n + v.state.window_size < v.state.recv_base → decision v (reading.Data n) ≡ unanswered (counted v).state → DataCase v n
  high : v.state.recv_base + v.state.window_size ≤ n → decision v (reading.Data n) ≡ unanswered (counted v).state → DataCase v n

module _ (v : Receiver) (n : ℕ) (positive : 0 < v.state.window_size) where
  case_above : v.state.recv_base < n → n < v.state.recv_base + v.state.window_size → Dec (slot_mark (slot_at v.store (n % v.state.window_size)) ≡ 1) → DataCase v n
  unfolding decision data_decision
  case_above h k (yes m) =
      held_already h k m (rw (ne_eqb n v.state.recv_base (λ e. omega arith), lt-ltb v.state.recv_base n h, lt-ltb n (v.state.recv_base + v.state.window_size) k, eq-eqb (slot_mark (slot_at v.store (n % v.state.window_size))) 1 m))
  case_above h k (no m) =
      to_be_held h k m (rw (ne_eqb n v.state.recv_base (λ e. omega arith), lt-ltb v.state.recv_base n h, lt-ltb n (v.state.recv_base + v.state.window_size) k, ne_eqb (slot_mark (slot_at v.store (n % v.state.window_size))) 1 m))

  case_below : n < v.state.recv_base → Dec (n + v.state.window_size < v.state.recv_base) → DataCase v n
  unfolding decision data_decision
  case_below h (no k) =
      delivered_already h (omega arith)
      (rw (ne_eqb n v.state.recv_base (λ e. omega arith), le-ltb v.state.recv_base n (omega arith), le-leb (v.state.recv_base - v.state.window_size) n (omega arith), lt-ltb n v.state.recv_base h))
  case_below h (yes k) =
      old k (rw (ne_eqb n v.state.recv_base (λ e. omega arith), le-ltb v.state.recv_base n (omega arith), lt-leb (v.state.recv_base - v.state.window_size) n (omega arith)))

  case_from : v.state.recv_base ≤ n → (n ≡ v.state.recv_base → ⊥) → Dec (n < v.state.recv_base + v.state.window_size) → DataCase v n
  unfolding decision data_decision
  case_from h ne (yes k) = case_above (omega arith) k (ℕ_discrete (slot_mark (slot_at v.store (n % v.state.window_size))) 1)
  case_from h ne (no k) =
      high (omega arith)
      (rw (ne_eqb n v.state.recv_base ne, lt-ltb v.state.recv_base n (omega arith), le-ltb n (v.state.recv_base + v.state.window_size) (omega arith), le-leb (v.state.recv_base - v.state.window_size) n (omega arith), le-ltb n v.state.recv_base (omega arith)))

  pub data_case : DataCase v n
  unfolding decision data_decision
  data_case = elim (ℕ_discrete n v.state.recv_base) [
    | yes e ↦ in_order_lem e (rw (eq-eqb n v.state.recv_base e))
    | no e ↦ elim (dec_lt n v.state.recv_base) [
      | yes l ↦ case_below l (dec_lt (n + v.state.window_size) v.state.recv_base)
      | no l ↦ case_from (omega arith) e (dec_lt n (v.state.recv_base + v.state.window_size))
    ]
  ]

module _ (v : Receiver) (payload : List ℕ) where
  -- a decision carried out, as the machine's step
  abbrev FollowsBy : SelectiveRepeatDecision → Received → Type 0
  FollowsBy x m = Follows selective_view (after_packet v payload x) x.decision (delivered_bytes v payload x.change) m

  by_decision_lem : {x y : SelectiveRepeatDecision} {m m' : Received} → x ≡ y → m ≡ m' → FollowsBy y m' → FollowsBy x m
  by_decision_lem e f h = rw (e, f) h

  nothing_delivered : (x : SelectiveRepeatDecision) (acks : List ℕ) → x.decision.deliver ≡ false → acks_of (answer_of x.decision.reply) ≡ acks
      → (after : ReceiverState) → ((filled : ℕ) → selective_view (after_packet v payload x filled) ≡ after) → FollowsBy x (Machine.received after [] acks)
  unfolding flatten
  nothing_delivered x acks e f after g = record { state = g; delivered = rw e; acks = f }

  module _ (r : Ready v.state v.store) (short : length payload ≤ 1400) (n : ℕ) where
    abbrev w : ℕ
    w = v.state.window_size

    abbrev base : ℕ
    base = v.state.recv_base

    slots : (k : ℕ) → k < w → slot_broken (eqb k 0) (slot_of v.store w base k) ≡ false
    slots = each_slot v r

    abbrev machine : Received
    machine = Machine.receive_selective w (selective_view v) (record { number = n; payload = payload })

    data_in_order : n ≡ base → decision v (reading.Data n) ≡ in_order (counted v) n → FollowsBy (decision v (reading.Data n)) machine
    unfolding delivered_bytes flatten
    data_in_order e d =
        by_decision_lem d (ap (λ (k : ℕ). Machine.receive_selective w (selective_view v) (record { number = k; payload = payload })) e ∙ at_base v.store w base r.positive r.room slots payload)
        (record {
          state = λ filled. refl;
          delivered = ap (λ (l : List ℕ). payload ++ l) (sym (run_after_base v.store w base r.positive r.room slots).bytes);
          acks = ap (λ (k : ℕ). k ∷ []) e;
        })

    low_mark : base < n → n < base + w → slot_mark (slot_at v.store (n % w)) < 2
    low_mark h k = let z : base + (n - base) ≡ n = omega arith in rw z at (marks_low v.store w base r.positive r.room slots (n - base) (omega arith))

    selective_data : FollowsBy (decision v (reading.Data n)) (Machine.receive SelectiveRepeat w (selective_view v) (record { number = n; payload = payload }))
    unfolding Machine.receive
    selective_data = elim (data_case v n r.positive) [
      | in_order_lem e d ↦ data_in_order e d
      | held_already h k m d ↦ by_decision_lem d (held_again v.store w base r.positive r.room slots n payload h k m) (nothing_delivered (duplicate (counted v) n) (n ∷ []) refl refl _ (λ filled. refl))
      | to_be_held h k m d ↦ let l = low_mark h k in
          by_decision_lem d (held_new v.store w base r.positive r.room slots n payload h k (omega arith) short) (nothing_delivered (out_of_order (counted v) n) (n ∷ []) refl refl _ (λ filled. refl))
      | delivered_already h k d ↦ by_decision_lem d (delivered_before v.store w base r.positive r.room slots n payload h k) (nothing_delivered (duplicate (counted v) n) (n ∷ []) refl refl _ (λ filled. refl))
      | old h d ↦ by_decision_lem d (too_old v.store w base r.positive r.room slots n payload h) (nothing_delivered (unanswered (counted v).state) [] refl refl _ (λ filled. refl))
      | high h d ↦ by_decision_lem d (too_high v.store w base r.positive r.room slots n payload h) (nothing_delivered (unanswered (counted v).state) [] refl refl _ (λ filled. refl))
    ]

  selective_other : (h : PacketReading) → ((n : ℕ) → h ≡ reading.Data n → ⊥) → Leaves selective_view (after_packet v payload (decision v h)) v (decision v h).decision h
  unfolding decision
  selective_other =
      other_kind (λ h. Leaves selective_view (after_packet v payload (decision v h)) v (decision v h).decision h)
      (λ n. left (λ filled. refl) refl (fin_valid n)) (left (λ filled. refl) refl (λ e. refl)) (left (λ filled. refl) refl (λ e. refl))

pub selective_receives : (v : Receiver) (raw output ack : List ℕ)
    → ReceiveOutcome SelectiveRepeat v.state.window_size selective_view (λ u. u.state.filled) v raw output ack (handle_packet v raw output ack)
selective_receives v raw output ack =
    receive_outcome SelectiveRepeat v.state.window_size selective_view (λ u. u.state.filled) _ raw output ack refl
    (record {
      mark = λ e. (receiving_sound v.state v.store output e).1;
      base_low = λ e. (ready v.state v.store (receiving_sound v.state v.store output e).0).low;
      with_mark = λ filled. refl;
      on_data = λ sound n e short. rw e (selective_data v (payload_of raw) (ready v.state v.store (receiving_sound v.state v.store output sound).0) short n);
      on_other = selective_other v (payload_of raw) (read_packet raw);
    })
