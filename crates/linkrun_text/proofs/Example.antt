-- Document 01's example, by computation of the run.
use Prim.Native.Nat.{ℕ, ◌≤◌}
use native.Mathlib.Omega.{arith}
use mathlib.Core.Path.{◌≡◌, refl, ap, ◌∙◌}
use mathlib.Core.Bool.{Bool, true}
use mathlib.Core.List.{List, [], ◌∷◌}
use lib.Ieee as ieee
use lib.ListN.{length}
use borrow.Author.Tests.{le-ltb}
use Rattle.refusal.specs.Refusal.{ascii}
use Rattle.trace.specs.Text.{events_text}
use Rattle.step.specs.State.{RunState}
use Rattle.step.specs.Settle.{StepExit}
use Rattle.step.specs.declared.Plan.{Plan}
use Rattle.transfer.specs.Start.{plan_for, new_run}
use Rattle.step.specs.declared.End.TheVariants.{Ended}
use Rattle.transfer.specs.Transfer.{default_ceilings, end_of, outcome_of, RunExit, ended}
use Rattle.transfer.specs.Run.{run}
use Rattle.transfer.proofs.Laws.{steps_from, is_going_on, run_steps}
use Rattle.linkrun_text.specs.Linkrun.{max_file, linkrun_setup, linkrun_rolls, linkrun_lent, Completes, run_events, file_events, linkrun_text}
use Rattle.linkrun_text.proofs.Starts.{file_given, linkrun_ends}
use Rattle.acks.specs.Acks as acks
use Rattle.acks.specs.Reverse as acksReverse
use Rattle.arrivals.specs.Arrivals as arrivals
use Rattle.channel.specs.Faults as channelFaults
use Rattle.channel.specs.Process as channelProcess
use Rattle.checksum.specs.Rfc1071 as checksum
use Rattle.chunks.specs.Chunks as chunks
use Rattle.clock.specs.Clock as clock
use Rattle.departures.specs.Departures as departures
use Rattle.events.specs.Events as events
use Rattle.multi_timer.specs.Map as timersMap
use Rattle.multi_timer.specs.MultiTimer as multiTimer
use Rattle.notes.specs.Notes as notes
use Rattle.octets.specs.Fold as octetsFold
use Rattle.packet.specs.Format as packetFormat
use Rattle.packet.specs.Reading as packet_reading
use Rattle.path.specs.Path as path
use Rattle.path.specs.Rolls as pathRolls
use Rattle.receiver.specs.Receive as receiverReceive
use Rattle.receiver.specs.Reply as receiverReply
use Rattle.receiver.specs.State as receiverState
use Rattle.receiving.specs.Receiving as receiving
use Rattle.refusal.specs.Clauses as refusalClauses
use Rattle.refusal.specs.Order as refusalOrder
use Rattle.rto.specs.Rto as rto
use Rattle.schedule.specs.Record as scheduleRecord
use Rattle.schedule.specs.Schedule as schedule
use Rattle.selective_repeat.specs.Receiver as selectiveRepeatReceiver
use Rattle.selective_repeat.specs.Sender as selective_repeat_sender
use Rattle.sending.specs.Sending as sending
use Rattle.session.specs.Receiving as sessionReceiving
use Rattle.session.specs.Sending as sessionSending
use Rattle.step.specs.Settle as stepSettle
use Rattle.step.specs.Step as step
use Rattle.store.specs.Numbers as storeNumbers
use Rattle.store.specs.Slot as storeSlot
use Rattle.store.specs.Sound as storeSound
use Rattle.submission.specs.Submission as submission
use Rattle.text.specs.Decimal as decimal
use Rattle.timeouts.specs.Timeouts as timeouts
use Rattle.timer.specs.Timer as timer
use Rattle.trace.specs.Text as traceText
use Rattle.transfer.specs.Start as transferStart
use Rattle.window.specs.Acknowledgement as windowAcknowledgement
use Rattle.window.specs.Sending as windowSending
use Rattle.window.specs.Slots as windowSlots
use Rattle.window.specs.State as windowState

abbrev plan : List ℕ → Plan
plan file = plan_for default_ceilings linkrun_setup (file_given file)

abbrev first : RunState
first = new_run default_ceilings linkrun_setup linkrun_lent

-- n steps that go on, and one that doesn't
abbrev stepped : ℕ → List ℕ → StepExit
stepped n file = steps_from (plan file) (file_given file) n first

abbrev goes : ℕ → List ℕ → Bool
goes n file = is_going_on (plan file) (file_given file) n first

text_after : (n b : ℕ) (bs : List ℕ) → length (b ∷ bs) ≤ max_file → goes n (b ∷ bs) ≡ true → linkrun_text (b ∷ bs) ≡ events_text (run_events (ended (stepped n (b ∷ bs))))
unfolding linkrun_text file_events
text_after n b bs short e =
    rw (le-ltb max_file (length (b ∷ bs)) short)
    (ap (λ (x : RunExit). events_text (run_events x)) (linkrun_ends (b ∷ bs) short ∙ ap ended (run_steps (plan (b ∷ bs)) (file_given (b ∷ bs)) n first e)))

record Computes (n : ℕ) (file text : List ℕ) : Type 0 where
  goes_on : goes n file ≡ true
  prints : events_text (run_events (ended (stepped n file))) ≡ text
  over : end_of (stepped n file).course ≡ Ended
  done : (stepped n file).state.arrivals.inbound.side.completed ≡ true

abbrev one_text : List ℕ
one_text = ascii "seq\tagain\tdelays\tfolds\n0\t0\t5\t510\n"

abbrev two_text : List ℕ
two_text = ascii "seq\tagain\tdelays\tfolds\n0\t0\t5\t765\n1\t0\t5\t510\n"

computed : Computes 5 (65 ∷ []) one_text × Computes 5 (255 ∷ 65 ∷ []) two_text
unfolding linkrun_setup linkrun_rolls linkrun_lent run_events steps_from is_going_on acks.on_accepted acks.on_ack acksReverse.serve_at_most arrivals.serve_arrivals channelFaults.carried_bytes channelFaults.deliveries_of channelFaults.is_corrupted channelFaults.is_duplicated channelFaults.is_lost channelFaults.is_reordered channelProcess.process_unchecked checksum.checksum checksum.ones_add checksum.ones_sum checksum.words chunks.chunks_of chunks.pieces clock.arm_after_submit clock.cancel_number clock.due clock.new_clock clock.next_deadline clock.rearm_after_ack clock.sample_rtt departures.send_due events.event_of events.events_of events.row_of timersMap.deadlines_of timersMap.earliest timersMap.entries_of timersMap.keep timersMap.keys_of timersMap.lookup timersMap.min_of timersMap.put multiTimer.cancel_timer_unchecked multiTimer.new_unchecked multiTimer.replaced multiTimer.start_timer_at_unchecked notes.mark_ack_scheduled notes.new_notes notes.rto_at_send notes.sent notes.set_dropped notes.take_sample octetsFold.fold_bytes octetsFold.sum packetFormat.checksum_of packetFormat.datagram packetFormat.header_bytes packetFormat.matches packet_reading.header_of packet_reading.payload_of packet_reading.payload_part packet_reading.read_checks packet_reading.read_datagram path.carry path.copy_fold path.deadline_of path.new_path path.take_ready pathRolls.rolls_at receiverReceive.receive receiverReply.ack_after receiverReply.applied receiverReply.room_missing receiverState.counts_broken receiverState.state_broken receiving.absorb receiving.on_forward receiving.received receiving.serve_at_most receiving.submit_ack refusalClauses.any_of refusalOrder.decide refusalOrder.first_of refusalOrder.numbered refusalOrder.or_else refusalOrder.order refusalOrder.verdict rto.fresh scheduleRecord.free_from scheduleRecord.inserted scheduleRecord.place_in schedule.pop_unchecked schedule.put_copy schedule.schedule_at_unchecked schedule.without_first selectiveRepeatReceiver.data_decision selectiveRepeatReceiver.decision selectiveRepeatReceiver.delivered_bytes selectiveRepeatReceiver.receiving_broken selectiveRepeatReceiver.state_broken selective_repeat_sender.acknowledge_one selective_repeat_sender.decide_ack selective_repeat_sender.in_flight_count sending.pump_most sending.send_one sessionReceiving.handle_packet sessionReceiving.new_receiver sessionSending.handle_ack sessionSending.new_sender sessionSending.send_chunk stepSettle.next_deadline stepSettle.sender_idle stepSettle.settle step.step_for storeNumbers.marked_count storeNumbers.marked_run storeNumbers.payloads_from storeSlot.put_slot storeSlot.slot_at storeSlot.slot_bytes storeSlot.slot_payload storeSound.any_below storeSound.receiver_slot_broken storeSound.receiver_slots_broken storeSound.sender_slot_broken storeSound.sender_slots_broken submission.note_after submission.note_before submission.submit decimal.digits decimal.digits_in timeouts.fire_timers timer.new_timer traceText.columns traceText.event_line traceText.event_lines traceText.events_text traceText.head_line traceText.joined traceText.line traceText.parted transferStart.new_run windowAcknowledgement.ack_decision windowAcknowledgement.by_decision windowSending.send_checks windowSending.send_chunk windowSlots.empty_from windowSlots.fresh windowSlots.hold windowSlots.release windowState.counts_broken windowState.numbers_broken windowState.state_broken windowState.store_short windowState.window_broken ieee.le ieee.lt ieee.mul ieee.of_int ieee.to_unsigned
computed = (record { goes_on = refl; prints = refl; over = refl; done = refl }, record { goes_on = refl; prints = refl; over = refl; done = refl })

completes : {n : ℕ} {file text : List ℕ} → length file ≤ max_file → Computes n file text → Completes file
completes {n} {file} short c =
    let same = run_steps (plan file) (file_given file) n first c.goes_on in
    record {
      ran = record { outcome = outcome_of (run (plan file) (file_given file) first); answered = ap (λ (x : RunExit). x.answer) (linkrun_ends file short) };
      ended = ap (λ (x : StepExit). end_of x.course) same ∙ c.over;
      completed = ap (λ (x : StepExit). x.state.arrivals.inbound.side.completed) same ∙ c.done;
    }

-- document 01's, and README's
pub one_byte : linkrun_text (65 ∷ []) ≡ one_text
one_byte = text_after 5 65 [] (omega arith) computed.0.goes_on ∙ computed.0.prints

pub two_bytes : linkrun_text (255 ∷ 65 ∷ []) ≡ two_text
two_bytes = text_after 5 255 (65 ∷ []) (omega arith) computed.1.goes_on ∙ computed.1.prints

pub both_complete : Completes (65 ∷ []) × Completes (255 ∷ 65 ∷ [])
both_complete = (completes (omega arith) computed.0, completes (omega arith) computed.1)
