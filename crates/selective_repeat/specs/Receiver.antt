-- arq/sr.rs, `SelectiveRepeatReceiver`, and document 01, "Turned away": Data in the window from base on is acknowledged
-- and held once, Data of the window before base is acknowledged and counted as a duplicate, any other is not answered.
use Rattle.std.specs.Prelude.{ℕ, ◌+◌, ◌-◌, ◌*◌, ◌%◌, ◌≤◌, ◌<◌, List, [], ◌∷◌, ◌++◌, Bool, true, false, cond, ◌&&◌}
use Rattle.std.specs.Prelude.{◌≡◌, length, drop, replicate, ltb, leb, eqb, Err, None, Ok, Option, Result, Some}
use Rattle.bounds.specs.Bounds.{max_window, seq_num_limit, slot_size}
use Rattle.refusal.specs.declared.Refusal.TheVariants.{State, Setup}
use Rattle.refusal.specs.Clauses.{any_of}
use Rattle.refusal.specs.Order.{check, verdict, decide, held_checks}
use Rattle.packet.specs.Reading.{payload_of}
use Rattle.store.specs.Slot.{fill_slot}
use Rattle.store.specs.Sound.{receiver_slots_broken}
use Rattle.store.specs.Numbers.{marked, marked_run, marked_count, payloads_from}
use Rattle.window.specs.State.{window_broken, store_short}
use Rattle.window.specs.Slots.{empty_from}
use Rattle.window.specs.Sending.{MakeExit, make_exit}
use Rattle.receiver.specs.State.{counts_broken}
use Rattle.receiver.specs.Reading.{read_packet}
use Rattle.receiver.specs.Receive.{ReceiveExit, Reception, receive, receive_unchecked}
use Rattle.receiver.specs.declared.PacketReading.{PacketReading}
use Rattle.receiver.specs.declared.PacketReading.TheVariants as reading
use Rattle.selective_repeat.specs.declared.SelectiveRepeatReceiver.{SelectiveRepeatReceiver}
use Rattle.selective_repeat.specs.declared.SelectiveRepeatDecision.{SelectiveRepeatDecision}
use Rattle.selective_repeat.specs.declared.SlotChange.{SlotChange}
use Rattle.selective_repeat.specs.declared.SlotChange.TheVariants as slotChange
use Rattle.refusal.specs.declared.Refusal.{Refusal}

-- nothing received
abbrev pub new_receiver : ℕ → SelectiveRepeatReceiver
new_receiver w =
    record {
      window_size = w;
      recv_base = 0;
      filled = 0;
      total_received = 0;
      buffered_out_of_order = 0;
      duplicates_count = 0;
    }

-- a state with one field changed
abbrev pub with_base : SelectiveRepeatReceiver → ℕ → SelectiveRepeatReceiver
with_base r base =
    record {
      window_size = r.window_size;
      recv_base = base;
      filled = r.filled;
      total_received = r.total_received;
      buffered_out_of_order = r.buffered_out_of_order;
      duplicates_count = r.duplicates_count;
    }

abbrev pub with_filled : SelectiveRepeatReceiver → ℕ → SelectiveRepeatReceiver
with_filled r filled =
    record {
      window_size = r.window_size;
      recv_base = r.recv_base;
      filled = filled;
      total_received = r.total_received;
      buffered_out_of_order = r.buffered_out_of_order;
      duplicates_count = r.duplicates_count;
    }

-- a state with one counter raised
abbrev pub count_received : SelectiveRepeatReceiver → SelectiveRepeatReceiver
count_received r =
    record {
      window_size = r.window_size;
      recv_base = r.recv_base;
      filled = r.filled;
      total_received = r.total_received + 1;
      buffered_out_of_order = r.buffered_out_of_order;
      duplicates_count = r.duplicates_count;
    }

abbrev pub count_buffered : SelectiveRepeatReceiver → SelectiveRepeatReceiver
count_buffered r =
    record {
      window_size = r.window_size;
      recv_base = r.recv_base;
      filled = r.filled;
      total_received = r.total_received;
      buffered_out_of_order = r.buffered_out_of_order + 1;
      duplicates_count = r.duplicates_count;
    }

abbrev pub count_duplicate : SelectiveRepeatReceiver → SelectiveRepeatReceiver
count_duplicate r =
    record {
      window_size = r.window_size;
      recv_base = r.recv_base;
      filled = r.filled;
      total_received = r.total_received;
      buffered_out_of_order = r.buffered_out_of_order;
      duplicates_count = r.duplicates_count + 1;
    }

-- a state and its store
pub record Receiver : Type 0 where
  pub state : SelectiveRepeatReceiver
  pub store : List ℕ

abbrev pub receiver : SelectiveRepeatReceiver → List ℕ → Receiver
receiver r store = record { state = r; store = store }

-- making: nothing received, all slots empty
unfoldable pub make_receiver : ℕ → List ℕ → MakeExit (Result SelectiveRepeatReceiver Refusal)
make_receiver w store =
    decide (verdict (check (store_short store w) State ∷ check (window_broken w) Setup ∷ []))
    (λ r. make_exit (Err r) store)
    (make_exit (Ok (new_receiver w)) (replicate (w * slot_size) 0 ++ drop (w * slot_size) store))

-- 9, but for the fill mark
unfoldable pub state_broken : SelectiveRepeatReceiver → List ℕ → Bool
state_broken r store =
    any_of
    (window_broken r.window_size
    ∷ store_short store r.window_size
    ∷ ltb seq_num_limit r.recv_base
    ∷ receiver_slots_broken store r.window_size r.recv_base
    ∷ [])

-- 9, of a call that is lent the output
unfoldable pub receiving_broken : SelectiveRepeatReceiver → List ℕ → List ℕ → Bool
receiving_broken r store output = any_of (state_broken r store ∷ ltb (length output) r.filled ∷ [])

-- 8: one of its counters stands at 2^60 or more
abbrev pub counters_broken : SelectiveRepeatReceiver → Bool
counters_broken r = counts_broken r.total_received r.buffered_out_of_order r.duplicates_count

-- a number is held; how many of the numbers after base are, without a gap
abbrev pub held : Receiver → ℕ → Bool
held v n = marked 1 v.store v.state.window_size n

abbrev pub held_run : Receiver → ℕ
held_run v =
    marked_run 1 v.store v.state.window_size (v.state.recv_base + 1) (v.state.window_size - 1)

-- how many payloads are held
unfoldable pub buffered_count : Receiver → Result ℕ Refusal
buffered_count v =
    let window = v.state.window_size in
    decide (verdict (held_checks (state_broken v.state v.store) (counters_broken v.state)))
    Err
    (Ok (marked_count 1 v.store window v.state.recv_base window))

abbrev pub decided : SelectiveRepeatReceiver → Bool → Option ℕ → SlotChange → SelectiveRepeatDecision
decided r deliver reply change =
    record { receiver = r; decision = record { deliver = deliver; reply = reply }; change = change }

-- Data at base: delivered with what is held after it
abbrev pub in_order : Receiver → ℕ → SelectiveRepeatDecision
in_order v n =
    let run = held_run v in
    decided (with_base v.state (v.state.recv_base + 1 + run)) true (Some n) (slotChange.Release run)

-- Data that is to be held
abbrev pub out_of_order : Receiver → ℕ → SelectiveRepeatDecision
out_of_order v n = decided (count_buffered v.state) false (Some n) (slotChange.Hold n)

-- Data that is held or was delivered
abbrev pub duplicate : Receiver → ℕ → SelectiveRepeatDecision
duplicate v n = decided (count_duplicate v.state) false (Some n) slotChange.Unchanged

abbrev pub unanswered : SelectiveRepeatReceiver → SelectiveRepeatDecision
unanswered r = decided r false None slotChange.Unchanged

unfoldable pub data_decision : Receiver → ℕ → SelectiveRepeatDecision
data_decision v n =
    let base = v.state.recv_base in
    let window = v.state.window_size in
    cond (eqb n base)
    (in_order v n)
    (cond (ltb base n && ltb n (base + window))
    (cond (held v n) (duplicate v n) (out_of_order v n))
    (cond (leb (base - window) n && ltb n base) (duplicate v n) (unanswered v.state)))

-- Fin is acknowledged by its own number; an ACK and a corrupted packet are not answered
abbrev pub by_kind : Receiver → PacketReading → SelectiveRepeatDecision
by_kind v (reading.Data n) = data_decision v n
by_kind v (reading.Fin n) = decided v.state false (Some n) slotChange.Unchanged
by_kind v reading.Ack = unanswered v.state
by_kind v reading.Corrupted = unanswered v.state

-- every packet is counted
abbrev pub counted : Receiver → Receiver
counted v = receiver (count_received v.state) v.store

unfoldable pub decision : Receiver → PacketReading → SelectiveRepeatDecision
decision v h = by_kind (counted v) h

-- how many held payloads are delivered
abbrev pub released : SlotChange → ℕ
released slotChange.Unchanged = 0
released (slotChange.Hold n) = 0
released (slotChange.Release k) = k

-- the payload, and the held payloads that are delivered after it
unfoldable pub delivered_bytes : Receiver → List ℕ → SlotChange → List ℕ
delivered_bytes v payload change =
    payload ++ payloads_from v.store v.state.window_size (v.state.recv_base + 1) (released change)

-- the store after a packet
abbrev pub changed_slots : Receiver → List ℕ → SlotChange → List ℕ
changed_slots v payload slotChange.Unchanged = v.store
changed_slots v payload (slotChange.Hold n) = fill_slot v.store (n % v.state.window_size) payload 1 0
changed_slots v payload (slotChange.Release k) =
    empty_from v.store v.state.window_size (v.state.recv_base + 1) k

-- the state after a packet with its fill mark, and the store
abbrev pub after_packet : Receiver → List ℕ → SelectiveRepeatDecision → ℕ → Receiver
after_packet v payload d filled = receiver (with_filled d.receiver filled) (changed_slots v payload d.change)

-- what a packet that was read does, with its payload and the output
abbrev pub reception : Receiver → PacketReading → List ℕ → List ℕ → Reception Receiver
reception v h payload output =
    let d = decision v h in
    record {
      state = v;
      state_broken = receiving_broken v.state v.store output;
      counts_broken = counters_broken v.state;
      filled = v.state.filled;
      decision = d.decision;
      delivered = delivered_bytes v payload d.change;
      after = after_packet v payload d;
    }

-- a datagram, the output and the buffer for the ACK
abbrev pub handle_packet : Receiver → List ℕ → List ℕ → List ℕ → ReceiveExit Receiver
handle_packet v raw output ack = receive (reception v (read_packet raw) (payload_of raw) output) raw output ack

-- a packet that was read, and its payload
abbrev pub handle_packet_unchecked : Receiver → PacketReading → List ℕ → List ℕ → List ℕ → ReceiveExit Receiver
handle_packet_unchecked v h payload output ack = receive_unchecked (reception v h payload output) output ack

-- what the functions below the entry points ask: 9 is false, but for the fill mark
pub record Ready (r : SelectiveRepeatReceiver) (store : List ℕ) : Type 0 where
  pub positive : 0 < r.window_size
  pub small : r.window_size ≤ max_window
  pub room : r.window_size * slot_size ≤ length store
  pub low : r.recv_base ≤ seq_num_limit
  pub slots : receiver_slots_broken store r.window_size r.recv_base ≡ false
