-- arq/gbn.rs, `GoBackNReceiver`; document 01, "Turned away" and "Every receiver acknowledges any valid Fin by its own
-- number".
use Rattle.std.specs.Prelude.{ℕ, ◌+◌, ◌-◌, List, Bool, true, false, cond, eqb, None, Option, Some}
use Rattle.packet.specs.Reading.{payload_of}
use Rattle.receiver.specs.State.{state_broken, counts_broken}
use Rattle.receiver.specs.Reading.{read_packet}
use Rattle.receiver.specs.Receive.{ReceiveExit, Reception, receive, receive_unchecked}
use Rattle.receiver.specs.declared.PacketReading.{PacketReading}
use Rattle.receiver.specs.declared.PacketReading.TheVariants as reading
use Rattle.go_back_n.specs.declared.GoBackNReceiver.{GoBackNReceiver}
use Rattle.go_back_n.specs.declared.GoBackNDecision.{GoBackNDecision}

abbrev pub state : ℕ → ℕ → ℕ → ℕ → ℕ → GoBackNReceiver
state expected filled received discarded duplicates =
    record {
      expected_seq = expected;
      filled = filled;
      total_received = received;
      discarded_out_of_order = discarded;
      duplicate_acks_sent = duplicates;
    }

abbrev pub new_receiver : GoBackNReceiver
new_receiver = state 0 0 0 0 0

abbrev pub decided : GoBackNReceiver → Bool → Option ℕ → GoBackNDecision
decided r deliver reply = record { receiver = r; decision = record { deliver = deliver; reply = reply } }

-- Data in order is delivered and acknowledged; other Data is discarded and, once something was delivered, answered with
-- the last ACK
unfoldable pub data_decision : GoBackNReceiver → ℕ → GoBackNDecision
data_decision r n =
    cond (eqb n r.expected_seq)
    (decided (state (r.expected_seq + 1) r.filled r.total_received r.discarded_out_of_order
    r.duplicate_acks_sent) true (Some n))
    (cond (eqb r.expected_seq 0)
    (decided (state r.expected_seq r.filled r.total_received (r.discarded_out_of_order + 1)
    r.duplicate_acks_sent) false None)
    (decided (state r.expected_seq r.filled r.total_received (r.discarded_out_of_order + 1)
    (r.duplicate_acks_sent + 1)) false
    (Some (r.expected_seq - 1))))

-- every packet is counted; Fin is acknowledged by its own number; an ACK and a corrupted packet are not answered
abbrev pub by_kind : GoBackNReceiver → PacketReading → GoBackNDecision
by_kind r (reading.Data n) = data_decision r n
by_kind r (reading.Fin n) = decided r false (Some n)
by_kind r reading.Ack = decided r false None
by_kind r reading.Corrupted = decided r false None

unfoldable pub decision : GoBackNReceiver → PacketReading → GoBackNDecision
decision r h = by_kind (state r.expected_seq r.filled (r.total_received + 1) r.discarded_out_of_order
    r.duplicate_acks_sent) h

-- the state with its fill mark
abbrev pub with_mark : GoBackNReceiver → ℕ → GoBackNReceiver
with_mark r filled =
    state r.expected_seq filled r.total_received r.discarded_out_of_order r.duplicate_acks_sent

-- what it brings to a packet
abbrev pub reception : GoBackNReceiver → PacketReading → List ℕ → List ℕ → Reception GoBackNReceiver
reception r h payload output = record {
  state = r;
  state_broken = state_broken r.expected_seq r.filled output;
  counts_broken = counts_broken r.total_received r.discarded_out_of_order r.duplicate_acks_sent;
  filled = r.filled;
  decision = (decision r h).decision;
  delivered = payload;
  after = with_mark (decision r h).receiver;
}

abbrev pub handle_packet : GoBackNReceiver → List ℕ → List ℕ → List ℕ → ReceiveExit GoBackNReceiver
handle_packet r raw output ack = receive (reception r (read_packet raw) (payload_of raw) output) raw output ack

-- a packet that was read
abbrev pub handle_packet_unchecked : GoBackNReceiver → PacketReading → List ℕ → List ℕ → List ℕ
    → ReceiveExit GoBackNReceiver
handle_packet_unchecked r h payload output ack = receive_unchecked (reception r h payload output) output ack
