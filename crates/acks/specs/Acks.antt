-- The reference's `on_ack` (`app/transfer.rs`): a datagram that the reverse line hands over to the sender, with the
-- sample that it gives and the timer that it sets.
use Rattle.std.specs.Prelude.{ℕ, ◌+◌, Bool, true, false, cond, List, Err, None, Ok, Option, Result, Some}
use Rattle.packet.specs.Reading.{read_datagram}
use Rattle.packet.specs.declared.PacketType.{PacketType}
use Rattle.packet.specs.declared.PacketType.TheVariants as packetType
use Rattle.packet.specs.declared.DatagramReading.{DatagramReading}
use Rattle.packet.specs.declared.DatagramReading.TheVariants as reading
use Rattle.rto.specs.declared.RtoEstimator.{RtoEstimator}
use Rattle.notes.specs.Notes.{SegMetas}
use Rattle.clock.specs.Clock.{ClockState, Accepted, rearm_after_ack, sample_rtt}
use Rattle.clock.specs.declared.Timing.{Timing}
use Rattle.session.specs.Sending.{SenderEnd, handle_ack, oldest_outstanding}
use Rattle.session.specs.declared.SenderState.{SenderState}
use Rattle.session.specs.declared.SenderState.TheVariants as senderState
use Rattle.refusal.specs.declared.Refusal.{Refusal}

-- what an ACK works on: the sender with its store, the estimator, the timers, the notes, and the counts `ack_received`
-- and `duplicate_acks`
pub record AckState : Type 0 where
  pub sender : SenderEnd
  pub estimator : RtoEstimator
  pub clock : ClockState
  pub metas : SegMetas
  pub received : ℕ
  pub duplicates : ℕ

abbrev pub ack_state : SenderEnd → RtoEstimator → ClockState → SegMetas → ℕ → ℕ → AckState
ack_state sender estimator clock metas received duplicates = record {
  sender = sender;
  estimator = estimator;
  clock = clock;
  metas = metas;
  received = received;
  duplicates = duplicates;
}

-- the number of a valid ACK; anything else has none
abbrev pub of_type : PacketType → ℕ → Option ℕ
of_type packetType.Data n = None
of_type packetType.Ack n = Some n
of_type packetType.Fin n = None

abbrev pub ack_number : Result DatagramReading Refusal → Option ℕ
ack_number (Ok (reading.Valid p)) = of_type p.pkt_type p.seq_num
ack_number (Ok (reading.Corrupted p)) = None
ack_number (Err r) = None

-- `sample_seq`, of the sender before the ACK of n: Selective Repeat samples that ACK, the others their oldest segment
abbrev pub sample_seq : SenderState → ℕ → ℕ
sample_seq (senderState.StopAndWait s) n = s.current_seq
sample_seq (senderState.GoBackN s) n = s.window.send_base
sample_seq (senderState.SelectiveRepeat s) n = n

-- an accepted ACK: `sample_rtt` first, then `rearm_after_ack` with the RTO that results
unfoldable pub on_accepted : Timing → ℕ → ℕ → ℕ → AckState → AckState
on_accepted timing now n seq s =
    let x = sample_rtt s.estimator s.metas seq now in
    let oldest = oldest_outstanding s.sender.sender in
    let accepted : Accepted = record { time = now; seq = n; rto = x.estimator.current_rto; oldest = oldest } in
    ack_state s.sender x.estimator (rearm_after_ack timing s.clock x.metas accepted) x.metas
    s.received s.duplicates

-- a valid ACK is counted, with the sender after it; one that isn't accepted is a duplicate
abbrev pub counted : AckState → SenderEnd → AckState
counted s v = ack_state v s.estimator s.clock s.metas (s.received + 1) s.duplicates

abbrev pub duplicate : AckState → AckState
duplicate s = ack_state s.sender s.estimator s.clock s.metas s.received (s.duplicates + 1)

-- `accept_ack`
abbrev pub is_accepted : Result Bool Refusal → Bool
is_accepted (Ok true) = true
is_accepted (Ok false) = false
is_accepted (Err r) = false

abbrev pub by_number : Option ℕ → Timing → ℕ → List ℕ → AckState → AckState
by_number None timing now raw s = s
by_number (Some n) timing now raw s =
    let x = handle_ack s.sender raw in
    let after = counted s x.after in
    cond (is_accepted x.answer) (on_accepted timing now n (sample_seq s.sender.sender.state n) after)
    (duplicate after)

-- anything else than a valid ACK is dropped uncounted
unfoldable pub on_ack : Timing → ℕ → List ℕ → AckState → AckState
on_ack timing now raw s = by_number (ack_number (read_datagram raw)) timing now raw s
