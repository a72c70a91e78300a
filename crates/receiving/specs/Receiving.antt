-- app/transfer.rs, the receiving side of a run: `on_forward` with `deliver_data` and `absorb`, and `submit_ack`; the
-- loop over what is due on the forward line.
use Rattle.std.specs.Prelude.{ℕ, zero, suc, ◌+◌, ◌-◌, Bool, true, false, cond, ◌||◌, List, replicate, ltb, Float, Err}
use Rattle.std.specs.Prelude.{None, Ok, Option, Result, Some}
use Rattle.bounds.specs.Bounds.{header_size}
use Rattle.packet.specs.Reading.{read_datagram}
use Rattle.packet.specs.declared.PacketType.{PacketType}
use Rattle.packet.specs.declared.PacketType.TheVariants as packetType
use Rattle.packet.specs.declared.DatagramReading.{DatagramReading}
use Rattle.packet.specs.declared.DatagramReading.TheVariants as reading
use Rattle.receiver.specs.Receive.{ReceiveExit}
use Rattle.schedule.specs.State.{copies}
use Rattle.rows.specs.Rows.{as_number}
use Rattle.notes.specs.Notes.{SegMetas, mark_ack_scheduled}
use Rattle.path.specs.Direction.{Direction}
use Rattle.path.specs.Path.{left_by_carry, carry, stop_of, is_going}
use Rattle.path.specs.Path.{left_by_take, take_ready, packet_buffer, is_taken, taken_bytes}
use Rattle.path.specs.declared.Stop.{Stop}
use Rattle.path.specs.declared.Stop.TheVariants as stop
use Rattle.session.specs.Receiving.{ReceiverEnd, receiver_end, handle_packet, base, is_cumulative, duplicate_count}
use Rattle.session.specs.Receiving.{gbn_already_delivered}
use Rattle.session.specs.declared.Receiver.{Receiver}
use Rattle.receiving.specs.declared.ReceivingSide.{ReceivingSide}
use Rattle.refusal.specs.declared.Refusal.{Refusal}
use Rattle.schedule.specs.declared.Deliveries.{Deliveries}

-- nothing received
abbrev pub new_side : Receiver → ReceivingSide
new_side r = record {
  receiver = r;
  data_received = 0;
  ack_sent = 0;
  duplicate_data = 0;
  completed = false;
  completed_at = 0;
}

-- the receiving side with the receiver's store and the output, the notes on segments, the reverse direction of the line
pub record Inbound : Type 0 where
  pub side : ReceivingSide
  pub store : List ℕ
  pub output : List ℕ
  pub metas : SegMetas
  pub reverse : Direction

abbrev pub inbound : ReceivingSide → List ℕ → List ℕ → SegMetas → Direction → Inbound
inbound side store output metas reverse =
    record { side = side; store = store; output = output; metas = metas; reverse = reverse }

-- what a call leaves, and whether the run goes on
pub record ForwardExit : Type 0 where
  pub inbound : Inbound
  pub stop : Option Stop

abbrev pub forward_exit : Inbound → Option Stop → ForwardExit
forward_exit b s = record { inbound = b; stop = s }

-- ---- `submit_ack`
abbrev pub ack_counted : ReceivingSide → ReceivingSide
ack_counted x = record {
  receiver = x.receiver;
  data_received = x.data_received;
  ack_sent = x.ack_sent + 1;
  duplicate_data = x.duplicate_data;
  completed = x.completed;
  completed_at = x.completed_at;
}

-- `!deliveries.is_empty()`
abbrev pub any_copies : Result (Deliveries × ℕ) Stop → Bool
any_copies (Ok (ds, fold)) = ltb 0 (copies ds)
any_copies (Err why) = false

-- the ACK of the number goes out as `wire`; a dropped one is not scheduled
unfoldable pub submit_ack : List Float → ℕ → ℕ → List ℕ → Inbound → ForwardExit
submit_ack rolls now seq wire b =
    let x = carry b.reverse rolls true now wire in
    let marked = mark_ack_scheduled b.metas seq (is_cumulative b.side.receiver) in
    forward_exit
    (inbound (ack_counted b.side) b.store b.output (cond (any_copies x.result.answer) marked b.metas)
    (left_by_carry x))
    (stop_of x.result.answer)

-- ---- Data that can be read, whether its checksum matches or not
abbrev pub is_data_type : PacketType → Bool
is_data_type packetType.Data = true
is_data_type packetType.Ack = false
is_data_type packetType.Fin = false

abbrev pub is_data : Result DatagramReading Refusal → Bool
is_data (Ok (reading.Valid p)) = is_data_type p.pkt_type
is_data (Ok (reading.Corrupted p)) = is_data_type p.pkt_type
is_data (Err r) = false

-- ---- its counting: a receiver's own count of duplicates, and for Go-Back-N, which has none, what comes late
abbrev pub gbn_duplicate : Receiver → Result DatagramReading Refusal → Bool
gbn_duplicate r (Ok (reading.Valid p)) = gbn_already_delivered r p.seq_num
gbn_duplicate r (Ok (reading.Corrupted p)) = false
gbn_duplicate r (Err x) = false

abbrev pub new_duplicates : Receiver → Bool → Receiver → ℕ
new_duplicates before late after = (duplicate_count after - duplicate_count before) + as_number late

-- with the receiver after it
abbrev pub delivered : ReceivingSide → Bool → Receiver → ReceivingSide
delivered x late after = record {
  receiver = after;
  data_received = x.data_received + 1;
  ack_sent = x.ack_sent;
  duplicate_data = x.duplicate_data + new_duplicates x.receiver late after;
  completed = x.completed;
  completed_at = x.completed_at;
}

-- ---- `absorb`: completed when all chunks are delivered, at this moment if it was not before
abbrev pub completed_at : ReceivingSide → ℕ → ReceivingSide
completed_at x now = record {
  receiver = x.receiver;
  data_received = x.data_received;
  ack_sent = x.ack_sent;
  duplicate_data = x.duplicate_data;
  completed = true;
  completed_at = now;
}

unfoldable pub absorb : ℕ → ℕ → ReceivingSide → ReceivingSide
absorb total now x = cond (x.completed || ltb (base x.receiver) total) x (completed_at x now)

-- ---- `on_forward`
-- a buffer for an ACK
abbrev pub ack_buffer : List ℕ
ack_buffer = replicate header_size 0

-- `deliver_data`
abbrev pub handled : List ℕ → Inbound → ReceiveExit ReceiverEnd
handled raw b = handle_packet (receiver_end b.side.receiver b.store) raw b.output ack_buffer

-- Data delivered, counted and absorbed
unfoldable pub received : ℕ → ℕ → List ℕ → Inbound → Inbound
received total now raw b =
    let x = handled raw b in
    let late = gbn_duplicate b.side.receiver (read_datagram raw) in
    inbound (absorb total now (delivered b.side late x.receiver.receiver)) x.receiver.store x.output
    b.metas b.reverse

abbrev pub by_reply : Result (Option ℕ) Refusal → List Float → ℕ → List ℕ → Inbound → ForwardExit
by_reply (Ok (Some n)) rolls now ack b = submit_ack rolls now n ack b
by_reply (Ok None) rolls now ack b = forward_exit b (None)
by_reply (Err r) rolls now ack b = forward_exit b (None)

-- what can't be read, or is no Data, is dropped uncounted
unfoldable pub on_forward : List Float → ℕ → ℕ → List ℕ → Inbound → ForwardExit
on_forward rolls total now raw b =
    let x = handled raw b in
    cond (is_data (read_datagram raw)) (by_reply x.answer rolls now x.ack (received total now raw b))
    (forward_exit b (None))

-- ---- what is due on the forward line: `while let Some(bytes) = pop_ready_at(now)`
pub record ServeForwardExit : Type 0 where
  pub forward : Direction
  pub inbound : Inbound
  pub progress : Bool
  pub stop : Option Stop

abbrev pub serve_forward_exit : Direction → Inbound → Bool → Option Stop → ServeForwardExit
serve_forward_exit forward b progress s =
    record { forward = forward; inbound = b; progress = progress; stop = s }

-- something was handed over
abbrev pub progressed : ServeForwardExit → ServeForwardExit
progressed x = serve_forward_exit x.forward x.inbound true x.stop

-- at most n copies; the run may end at the ACK of one
unfoldable pub serve_at_most : ℕ → List Float → ℕ → ℕ → Direction → Inbound → ServeForwardExit
serve_at_most zero rolls total now forward b = serve_forward_exit forward b false (None)
serve_at_most (suc n) rolls total now forward b =
    let t = take_ready forward now packet_buffer in
    let x = on_forward rolls total now (taken_bytes t.result.answer t.out) b in
    cond (is_taken t.result.answer)
    (cond (is_going x.stop) (progressed (serve_at_most n rolls total now (left_by_take t) x.inbound))
    (serve_forward_exit (left_by_take t) x.inbound true x.stop))
    (serve_forward_exit forward b false (None))

-- no more than wait
abbrev pub serve_forward : List Float → ℕ → ℕ → Direction → Inbound → ServeForwardExit
serve_forward rolls total now forward b = serve_at_most forward.path.scheduler.count rolls total now forward b
