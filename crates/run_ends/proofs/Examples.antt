-- Runs computed from the definitions: each end, two of them on either line, the order of the tests, and the limit of time.
use Rattle.std.specs.Prelude.{Err, Ok, Result}
use Prim.Native.Nat.{ℕ, ◌*◌, ◌^◌, ◌<◌}
use native.Mathlib.Omega.{arith}
use mathlib.Core.Path.{◌≡◌, refl}
use mathlib.Core.Bool.{Bool, true, false}
use mathlib.Core.List.{List, [], ◌∷◌, map}
use lib.ListN.{take, replicate, length-replicate, get_or-replicate}
use lib.Ieee.{nan, fits, lt, le, mul, of_int, to_unsigned}
use Rattle.bounds.specs.Bounds.{slot_size, place_size}
use Rattle.refusal.specs.Refusal.{ascii}
use Rattle.protocol.specs.declared.ProtocolType.TheVariants.{StopAndWait}
use Rattle.rtt.specs.Rtt.{zero64, one64, eighth64, quarter64, four64}
use Rattle.path.specs.Rolls.{packet_rolls, Doubles}
use Rattle.clock.specs.Estimator.{Factors}
use Rattle.session.specs.Receiving.{filled}
use Rattle.setup.specs.declared.TransferConfig.{TransferConfig}
use Rattle.setup.specs.declared.ClockChoice.TheVariants.{Source}
use Rattle.step.specs.State.{Given, given, Lent, lent}
use Rattle.transfer.specs.Transfer.{RunExit, run_transfer}
use Rattle.transfer.specs.declared.Ceilings.{Ceilings}
use Rattle.transfer.specs.declared.Outcome.{Outcome}
use Rattle.run_ends.specs.Ends.{word_of, EndsSo}
use Rattle.run_ends.proofs.Transfer.{transfer_ends}
use Rattle.acks.specs.Acks as acks
use Rattle.acks.specs.Reverse as acksReverse
use Rattle.arrivals.specs.Arrivals as arrivals
use Rattle.channel.specs.Bounds as channelBounds
use Rattle.channel.specs.Faults as channelFaults
use Rattle.channel.specs.Process as channelProcess
use Rattle.checksum.specs.Rfc1071 as checksum
use Rattle.chunks.specs.Chunks as chunks
use Rattle.clock.specs.Clock as clock
use Rattle.departures.specs.Departures as departures
use Rattle.multi_timer.specs.MultiTimer as multiTimer
use Rattle.notes.specs.Notes as notes
use Rattle.packet.specs.Format as packetFormat
use Rattle.packet.specs.Reading as packet_reading
use Rattle.path.specs.Path as path
use Rattle.path.specs.Rolls as pathRolls
use Rattle.receiver.specs.Receive as receiverReceive
use Rattle.receiver.specs.Reply as receiverReply
use Rattle.receiver.specs.State as receiverState
use Rattle.receiving.specs.Receiving as receiving
use Rattle.refusal.specs.Clauses as refusalClauses
use Rattle.refusal.specs.Order as refusalOrder
use Rattle.rto.specs.Rto as rto
use Rattle.schedule.specs.Record as scheduleRecord
use Rattle.schedule.specs.Schedule as schedule
use Rattle.sending.specs.Sending as sending
use Rattle.session.specs.Receiving as sessionReceiving
use Rattle.session.specs.Sending as sessionSending
use Rattle.setup.specs.Setup as setup
use Rattle.step.specs.Settle as stepSettle
use Rattle.step.specs.Step as step
use Rattle.stop_and_wait.specs.Receiver as stop_and_wait
use Rattle.store.specs.Slot as storeSlot
use Rattle.store.specs.Sound as storeSound
use Rattle.submission.specs.Submission as submission
use Rattle.timeouts.specs.Timeouts as timeouts
use Rattle.timer.specs.Timer as timer
use Rattle.transfer.specs.Run as transferRun
use Rattle.transfer.specs.Start as transferStart
use Rattle.transfer.specs.Transfer as transfer
use Rattle.window.specs.Acknowledgement as windowAcknowledgement
use Rattle.window.specs.Sending as windowSending
use Rattle.window.specs.Slots as windowSlots
use Rattle.window.specs.State as windowState
use Rattle.refusal.specs.declared.Refusal.{Refusal}

-- one byte over Stop-and-Wait, 5 ms each way, no faults; to a limit of time; three moments, two rounds at each
abbrev config : ℕ → TransferConfig
config limit =
    record {
      protocol = StopAndWait;
      clock = Source;
      window_size = 1;
      chunk_size = 1;
      channel = record { loss = zero64; duplicate = zero64; reorder = zero64; reorder_extra_ms = 0; corrupt = zero64; base_delay_ms = 5; jitter_ms = 0 };
      rto = record { initial_rto = 1000000000; min_rto = 1000000000; max_rto = 60000000000; granularity = 1000000; alpha = eighth64; beta = quarter64; k = four64; rto_multiplier = one64 };
      max_virtual_time = limit;
      max_retransmissions = 10;
    }

abbrev ceilings : Ceilings
ceilings = record { steps = 3; rounds = 2; retries = 10 }

-- with rolls for so many packets each way, so many event entries, and records and places for so many copies each way; to
-- such a limit
record Case : Type 0 where
  forward : ℕ
  reverse : ℕ
  events : ℕ
  copies : ℕ
  replies : ℕ
  limit : ℕ

abbrev case : ℕ → ℕ → ℕ → ℕ → ℕ → Case
case f r e c a = record { forward = f; reverse = r; events = e; copies = c; replies = a; limit = 60000000000 }

-- with enough of all
abbrev to : ℕ → Case
to limit = record { forward = 1; reverse = 1; events = 1; copies = 1; replies = 1; limit = limit }

abbrev memory : Case → Lent
memory x =
    lent (replicate slot_size 0) [] (0 ∷ []) (replicate 7 0 ∷ []) (replicate x.events (replicate 7 0)) (replicate x.copies (replicate 4 0)) (replicate (x.copies * place_size) 0)
    (replicate x.replies (replicate 4 0)) (replicate (x.replies * place_size) 0) [] []

abbrev offered : Case → Given
offered x = given (65 ∷ []) (replicate (x.forward * packet_rolls) zero64) (replicate (x.reverse * packet_rolls) zero64)

abbrev called : Case → RunExit
called x = run_transfer ceilings (config x.limit) (offered x) (memory x)

-- the end, completed, the finishing time, what was written
record Row : Type 0 where
  word : List ℕ
  completed : Bool
  finished : ℕ
  written : List ℕ

abbrev row : List ℕ → Bool → ℕ → List ℕ → Row
row w c t o = record { word = w; completed = c; finished = t; written = o }

abbrev row_of : RunExit → Row
row_of x = by_answer x.answer
  where
    by_answer : Result Outcome Refusal → Row
    by_answer (Ok o) = row (word_of o.end) o.completed o.finished_at (take (filled o.receiver) x.lent.output)
    by_answer (Err r) = row [] false 0 []

ends_table : map (λ x. row_of (called x)) (case 1 1 1 1 1 ∷ case 0 1 1 1 1 ∷ case 1 0 1 1 1 ∷ case 1 1 0 1 1 ∷ case 1 1 1 0 1 ∷ case 1 1 1 1 0 ∷ case 0 1 0 0 1 ∷ case 1 1 0 0 1 ∷ to 4000000 ∷ [])
    ≡ row (ascii "ended") true 5000000 (65 ∷ [])
    ∷ row (ascii "rolls spent") false 0 []
    ∷ row (ascii "rolls spent") true 5000000 (65 ∷ [])
    ∷ row (ascii "events full") false 0 []
    ∷ row (ascii "schedule full") false 0 []
    ∷ row (ascii "schedule full") true 5000000 (65 ∷ [])
    ∷ row (ascii "rolls spent") false 0 []
    ∷ row (ascii "events full") false 0 []
    ∷ row (ascii "ended") false 4000000 []
    ∷ []
unfolding acks.on_accepted acks.on_ack acksReverse.serve_at_most arrivals.serve_arrivals channelBounds.config_broken channelFaults.carried_bytes channelFaults.deliveries_of channelFaults.is_corrupted channelFaults.is_duplicated channelFaults.is_lost channelFaults.is_reordered channelProcess.process_unchecked checksum.checksum checksum.ones_add checksum.ones_sum checksum.words chunks.chunks_of chunks.pieces clock.arm_after_submit clock.arm_oldest clock.due clock.new_clock clock.next_deadline clock.rearm_after_ack departures.send_due multiTimer.new_unchecked notes.expiry notes.new_notes notes.sent notes.set_dropped packetFormat.checksum_of packetFormat.datagram packetFormat.header_bytes packetFormat.matches packet_reading.header_of packet_reading.payload_of packet_reading.payload_part packet_reading.read_checks packet_reading.read_datagram path.carry path.deadline_of path.new_path path.take_ready pathRolls.rolls_at pathRolls.rolls_broken receiverReceive.receive receiverReply.ack_after receiverReply.applied receiverReply.room_missing receiverState.counts_broken receiverState.state_broken receiving.absorb receiving.on_forward receiving.received receiving.serve_at_most receiving.submit_ack refusalClauses.any_of refusalOrder.decide refusalOrder.first_of refusalOrder.numbered refusalOrder.or_else refusalOrder.order refusalOrder.verdict rto.config_in_bounds rto.fresh scheduleRecord.free_from scheduleRecord.inserted scheduleRecord.place_in schedule.pop_unchecked schedule.put_copy schedule.schedule_at_unchecked schedule.without_first sending.pump_most sending.send_one sessionReceiving.handle_packet sessionReceiving.new_receiver sessionSending.handle_ack sessionSending.new_sender sessionSending.send_chunk setup.clock_broken setup.room_missing setup.setup_broken setup.state_broken stepSettle.next_deadline stepSettle.sender_idle stepSettle.settle step.step_for stop_and_wait.data_decision stop_and_wait.decision storeSlot.put_slot storeSlot.slot_at storeSlot.slot_bytes storeSound.any_below storeSound.sender_slot_broken storeSound.sender_slots_broken submission.note_after submission.note_before submission.submit timeouts.fire_timers timer.cancelled_unchecked timer.new_timer timer.started_at_unchecked transferRun.run_for transferRun.run_at_most_for transferStart.new_run transfer.run_transfer windowAcknowledgement.ack_decision windowAcknowledgement.by_decision windowSending.send_checks windowSending.send_chunk windowSlots.fresh windowSlots.hold windowState.counts_broken windowState.numbers_broken windowState.state_broken windowState.store_short windowState.window_broken lt le mul of_int to_unsigned
ends_table = refl

-- ---- what `transfer_ends` asks is met
doubles : (n : ℕ) → n * 8 < 2 ^ 63 → Doubles (replicate n zero64)
unfolding fits
doubles n h = record { each = λ i l. rw (get_or-replicate n i zero64 nan (rw (length-replicate n zero64) at l)) tt; size = rw (length-replicate n zero64) h }

factors : (limit : ℕ) → Factors (config limit).rto
unfolding fits
factors limit = record { alpha = tt; beta = tt; k = tt; multiplier = tt }

ends_so : (x : Case) → x.forward < 100 → x.reverse < 100 → (o : Outcome) → (called x).answer ≡ Ok o → EndsSo (config x.limit) (offered x) o (called x).lent
ends_so x f r o e = transfer_ends ceilings (config x.limit) (offered x) (memory x) (doubles (x.forward * packet_rolls) (omega arith)) (doubles (x.reverse * packet_rolls) (omega arith)) (factors x.limit) o e
