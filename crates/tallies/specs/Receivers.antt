-- Document 01, "Invented tallies: .. from the history of calls": a receiver's counters after any list of datagrams.
use Rattle.std.specs.Prelude.{ℕ, ◌*◌, List, [], ◌∷◌, ◌++◌, cond, length, drop, replicate}
use Rattle.bounds.specs.Bounds.{slot_size}
use Rattle.receiver.specs.Reading.{read_packet}
use Rattle.receiver.specs.Receive.{ReceiveExit}
use Rattle.receiver.specs.declared.PacketReading.{PacketReading}
use Rattle.stop_and_wait.specs.declared.StopAndWaitReceiver.{StopAndWaitReceiver}
use Rattle.go_back_n.specs.declared.GoBackNReceiver.{GoBackNReceiver}
use Rattle.selective_repeat.specs.Receiver.{Receiver, receiver, new_receiver}
use Rattle.selective_repeat.specs.declared.SelectiveRepeatReceiver.{SelectiveRepeatReceiver}
use Rattle.delivery.specs.Ends.{is_received}
use Rattle.tallies.specs.Readings.{count, is_corrupted, expected, is_older, is_out_of_order, is_answered_again, base}
use Rattle.tallies.specs.Readings.{is_buffered, is_duplicate}

-- a datagram, the output and the buffer for the ACK, with any bytes
pub record Call : Type 0 where
  pub raw : List ℕ
  pub output : List ℕ
  pub ack : List ℕ

-- `handle_packet` of a receiver with a state R
abbrev pub Handling : Type 0 → Type 0
Handling R = R → List ℕ → List ℕ → List ℕ → ReceiveExit R

-- the receiver after a list of calls
unfoldable pub after_calls : {R : Type 0} → Handling R → R → List Call → R
after_calls handle r [] = r
after_calls handle r (c ∷ cs) = after_calls handle (handle r c.raw c.output c.ack).receiver cs

-- with one reading more, unless the call was refused
abbrev pub readings_with : {R : Type 0} → ReceiveExit R → List ℕ → List PacketReading → List PacketReading
readings_with x raw hs = cond (is_received x.answer) (read_packet raw ∷ hs) hs

-- what the datagrams that were not refused read as, the latest first, before those of earlier calls
unfoldable pub readings_after : {R : Type 0} → Handling R → R → List PacketReading → List Call → List PacketReading
readings_after handle r hs [] = hs
readings_after handle r hs (c ∷ cs) =
    let x = handle r c.raw c.output c.ack in
    readings_after handle x.receiver (readings_with x c.raw hs) cs

abbrev pub readings : {R : Type 0} → Handling R → R → List Call → List PacketReading
readings handle r cs = readings_after handle r [] cs

-- the receivers that the readings tell, but for the fill mark
abbrev pub stop_and_wait_after : List PacketReading → ℕ → StopAndWaitReceiver
stop_and_wait_after hs filled = record {
  expected_seq = expected hs;
  filled = filled;
  total_received = length hs;
  duplicates_count = count is_older hs;
  corrupted_count = count (λ earlier. is_corrupted) hs;
}

abbrev pub go_back_nAfter : List PacketReading → ℕ → GoBackNReceiver
go_back_nAfter hs filled = record {
  expected_seq = expected hs;
  filled = filled;
  total_received = length hs;
  discarded_out_of_order = count is_out_of_order hs;
  duplicate_acks_sent = count is_answered_again hs;
}

abbrev pub selective_repeat_after : ℕ → List PacketReading → ℕ → SelectiveRepeatReceiver
selective_repeat_after w hs filled = record {
  window_size = w;
  recv_base = base w hs;
  filled = filled;
  total_received = length hs;
  buffered_out_of_order = count (is_buffered w) hs;
  duplicates_count = count (is_duplicate w) hs;
}

-- a Selective Repeat receiver just made: nothing received, all slots empty
abbrev pub new_selective_repeat : ℕ → List ℕ → Receiver
new_selective_repeat w store = receiver (new_receiver w) (replicate (w * slot_size) 0 ++ drop (w * slot_size) store)
