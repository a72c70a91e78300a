-- Document 01, "Turned away" 9 and 8, of a session's receiver, and what the functions below the entry points ask.
use Rattle.std.specs.Prelude.{ℕ, ◌≤◌, ◌≡◌, List, Bool, false, length}
use Rattle.bounds.specs.Bounds.{max_payload, seq_num_limit}
use Rattle.receiver.specs.State.{state_broken, counts_broken}
use Rattle.selective_repeat.specs.Receiver.{receiving_broken, counters_broken}
use Rattle.refinement.specs.Good.{NoneHeldFrom}
use Rattle.session.specs.declared.ReceiverState.{ReceiverState}
use Rattle.session.specs.declared.ReceiverState.TheVariants as receiverState
use Rattle.session.specs.Receiving.{ReceiverEnd}

-- 9
abbrev pub broken_in : ReceiverState → List ℕ → List ℕ → Bool
broken_in (receiverState.StopAndWait r) store output = state_broken r.expected_seq r.filled output
broken_in (receiverState.GoBackN r) store output = state_broken r.expected_seq r.filled output
broken_in (receiverState.SelectiveRepeat r) store output = receiving_broken r store output

-- 8
abbrev pub counts_broken_in : ReceiverState → Bool
counts_broken_in (receiverState.StopAndWait r) =
    counts_broken r.total_received r.duplicates_count r.corrupted_count
counts_broken_in (receiverState.GoBackN r) =
    counts_broken r.total_received r.discarded_out_of_order r.duplicate_acks_sent
counts_broken_in (receiverState.SelectiveRepeat r) = counters_broken r

-- 9 and 8 are false
pub record ReceiverUnbroken (v : ReceiverEnd) (output : List ℕ) : Type 0 where
  pub state : broken_in v.receiver.state v.store output ≡ false
  pub counts : counts_broken_in v.receiver.state ≡ false

-- no counter is above k
abbrev pub CountersWithin : ℕ → ReceiverState → Type 0
CountersWithin k (receiverState.StopAndWait r) =
    (r.total_received ≤ k) × (r.duplicates_count ≤ k) × (r.corrupted_count ≤ k)
CountersWithin k (receiverState.GoBackN r) =
    (r.total_received ≤ k) × (r.discarded_out_of_order ≤ k) × (r.duplicate_acks_sent ≤ k)
CountersWithin k (receiverState.SelectiveRepeat r) =
    (r.total_received ≤ k) × (r.buffered_out_of_order ≤ k) × (r.duplicates_count ≤ k)

-- a Selective Repeat receiver holds no number that would take its base past the bound
abbrev pub NoneHigh : ReceiverState → List ℕ → Type 0
NoneHigh (receiverState.StopAndWait r) store = Unit {0}
NoneHigh (receiverState.GoBackN r) store = Unit {0}
NoneHigh (receiverState.SelectiveRepeat r) store =
    NoneHeldFrom seq_num_limit store r.window_size r.recv_base

-- 9 is false, and stays so; at most k packets were received
pub record GoodReceiver (v : ReceiverEnd) (output : List ℕ) (k : ℕ) : Type 0 where
  pub state : broken_in v.receiver.state v.store output ≡ false
  pub none_high : NoneHigh v.receiver.state v.store
  pub counters : CountersWithin k v.receiver.state

-- a packet with its payload can be received
pub record CanHandlePacket (v : ReceiverEnd) (payload output : List ℕ) : Type 0 where
  pub unbroken : ReceiverUnbroken v output
  pub short : length payload ≤ max_payload
