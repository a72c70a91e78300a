-- arq/sw.rs, `StopAndWaitReceiver`; document 01, "Turned away" and "Every receiver acknowledges any valid Fin by its
-- own number".
use Rattle.std.specs.Prelude.{ℕ, ◌+◌, ◌-◌, List, Bool, true, false, cond, ltb, eqb, None, Option, Some}
use Rattle.packet.specs.Reading.{payload_of}
use Rattle.receiver.specs.State.{state_broken, counts_broken}
use Rattle.receiver.specs.Reading.{read_packet}
use Rattle.receiver.specs.Receive.{ReceiveExit, Reception, receive, receive_unchecked}
use Rattle.receiver.specs.declared.PacketReading.{PacketReading}
use Rattle.receiver.specs.declared.PacketReading.TheVariants as reading
use Rattle.stop_and_wait.specs.declared.StopAndWaitReceiver.{StopAndWaitReceiver}
use Rattle.stop_and_wait.specs.declared.StopAndWaitDecision.{StopAndWaitDecision}

abbrev pub state : ℕ → ℕ → ℕ → ℕ → ℕ → StopAndWaitReceiver
state expected filled received duplicates corrupted =
    record {
      expected_seq = expected;
      filled = filled;
      total_received = received;
      duplicates_count = duplicates;
      corrupted_count = corrupted;
    }

abbrev pub new_receiver : StopAndWaitReceiver
new_receiver = state 0 0 0 0 0

abbrev pub decided : StopAndWaitReceiver → Bool → Option ℕ → StopAndWaitDecision
decided r deliver reply = record { receiver = r; decision = record { deliver = deliver; reply = reply } }

-- Data in order is delivered and acknowledged; an older number is acknowledged again, and counted; a newer one is
-- answered with the last ACK, 0 before the first
unfoldable pub data_decision : StopAndWaitReceiver → ℕ → StopAndWaitDecision
data_decision r n =
    cond (eqb n r.expected_seq)
    (decided (state (r.expected_seq + 1) r.filled r.total_received r.duplicates_count
    r.corrupted_count) true (Some n))
    (cond (ltb n r.expected_seq)
    (decided (state r.expected_seq r.filled r.total_received (r.duplicates_count + 1)
    r.corrupted_count) false (Some n))
    (decided r false (Some (r.expected_seq - 1))))

-- every packet is counted; Fin is acknowledged by its own number; an ACK and a corrupted packet, which is counted
-- apart, are not answered
abbrev pub by_kind : StopAndWaitReceiver → PacketReading → StopAndWaitDecision
by_kind r (reading.Data n) = data_decision r n
by_kind r (reading.Fin n) = decided r false (Some n)
by_kind r reading.Ack = decided r false None
by_kind r reading.Corrupted = decided (state r.expected_seq r.filled r.total_received
    r.duplicates_count (r.corrupted_count + 1)) false None

unfoldable pub decision : StopAndWaitReceiver → PacketReading → StopAndWaitDecision
decision r h = by_kind (state r.expected_seq r.filled (r.total_received + 1) r.duplicates_count
    r.corrupted_count) h

-- the state with its fill mark
abbrev pub with_mark : StopAndWaitReceiver → ℕ → StopAndWaitReceiver
with_mark r filled =
    state r.expected_seq filled r.total_received r.duplicates_count r.corrupted_count

-- what it brings to a packet
abbrev pub reception : StopAndWaitReceiver → PacketReading → List ℕ → List ℕ → Reception StopAndWaitReceiver
reception r h payload output = record {
  state = r;
  state_broken = state_broken r.expected_seq r.filled output;
  counts_broken = counts_broken r.total_received r.duplicates_count r.corrupted_count;
  filled = r.filled;
  decision = (decision r h).decision;
  delivered = payload;
  after = with_mark (decision r h).receiver;
}

abbrev pub handle_packet : StopAndWaitReceiver → List ℕ → List ℕ → List ℕ → ReceiveExit StopAndWaitReceiver
handle_packet r raw output ack = receive (reception r (read_packet raw) (payload_of raw) output) raw output ack

-- a packet that was read
abbrev pub handle_packet_unchecked : StopAndWaitReceiver → PacketReading → List ℕ → List ℕ → List ℕ
    → ReceiveExit StopAndWaitReceiver
handle_packet_unchecked r h payload output ack = receive_unchecked (reception r h payload output) output ack
