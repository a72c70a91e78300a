-- What one lost datagram costs Go-Back-N, by computation of the run.
use Rattle.std.specs.Prelude.{Ok}
use Prim.Native.Nat.{ℕ}
use mathlib.Core.Path.{◌≡◌, refl, ap, ◌∙◌}
use mathlib.Core.Bool.{true}
use lib.Ieee as ieee
use Rattle.refusal.specs.Order.{verdict}
use Rattle.setup.specs.Setup.{start_checks}
use Rattle.setup.proofs.Laws.{start_accepted}
use Rattle.setup.specs.declared.ClockChoice.{ClockChoice}
use Rattle.setup.specs.declared.ClockChoice.TheVariants as choice
use Rattle.step.specs.State.{RunState}
use Rattle.step.specs.Settle.{StepExit}
use Rattle.step.specs.declared.Plan.{Plan}
use Rattle.step.specs.declared.Course.TheVariants.{Over}
use Rattle.step.specs.declared.End.TheVariants.{Ended}
use Rattle.transfer.specs.Start.{plan_for, new_run, start_of}
use Rattle.transfer.specs.Run.{run}
use Rattle.transfer.specs.Transfer.{default_ceilings, finished_at, outcome_of, RunExit, run_transfer}
use Rattle.transfer.proofs.Laws.{steps_from, is_going_on, run_steps, accepted_is}
use Rattle.edition_clock.specs.OneLoss.{config, file, memory, Delivers}
use Rattle.notes.specs.Notes as notes
use Rattle.refusal.specs.Clauses as refusalClauses
use Rattle.refusal.specs.Order as refusalOrder
use Rattle.octets.specs.Fold as octetsFold
use Rattle.timer.specs.Timer as timer
use Rattle.multi_timer.specs.MultiTimer as multiTimer
use Rattle.rto.specs.Rto as rto
use Rattle.checksum.specs.Rfc1071 as checksumRfc1071
use Rattle.packet.specs.Format as packetFormat
use Rattle.packet.specs.Reading as packet_reading
use Rattle.store.specs.Slot as storeSlot
use Rattle.store.specs.Sound as storeSound
use Rattle.window.specs.Acknowledgement as windowAcknowledgement
use Rattle.window.specs.Resending as windowResending
use Rattle.window.specs.Sending as windowSending
use Rattle.window.specs.Slots as windowSlots
use Rattle.window.specs.State as windowState
use Rattle.receiver.specs.Receive as receiverReceive
use Rattle.receiver.specs.Reply as receiverReply
use Rattle.receiver.specs.State as receiverState
use Rattle.go_back_n.specs.Receiver as goBackNReceiver
use Rattle.delivery.specs.Calls as deliveryCalls
use Rattle.session.specs.Receiving as sessionReceiving
use Rattle.session.specs.Sending as sessionSending
use Rattle.clock.specs.Clock as clock
use Rattle.clock.specs.EditionClock as clockEditionClock
use Rattle.schedule.specs.Record as scheduleRecord
use Rattle.schedule.specs.Schedule as schedule
use Rattle.schedule.specs.State as scheduleState
use Rattle.events.specs.Events as events
use Rattle.channel.specs.Bounds as channelBounds
use Rattle.channel.specs.Faults as channelFaults
use Rattle.channel.specs.Process as channelProcess
use Rattle.path.specs.Path as path
use Rattle.path.specs.Rolls as pathRolls
use Rattle.submission.specs.Submission as submission
use Rattle.chunks.specs.Chunks as chunks
use Rattle.sending.specs.Retransmit as sendingRetransmit
use Rattle.sending.specs.Sending as sending
use Rattle.timeouts.specs.Timeouts as timeouts
use Rattle.receiving.specs.Receiving as receiving
use Rattle.acks.specs.Acks as acks
use Rattle.acks.specs.Reverse as acksReverse
use Rattle.arrivals.specs.Arrivals as arrivals
use Rattle.departures.specs.Departures as departures
use Rattle.step.specs.Settle as stepSettle
use Rattle.step.specs.Step as step
use Rattle.setup.specs.Setup as setup
use Rattle.transfer.specs.Start as transferStart
use Rattle.refusal.specs.Order.{passed}

-- ---- the smallest input, on either clock
module _ (clock : ClockChoice) where
  abbrev plan : Plan
  plan = plan_for default_ceilings (config clock) file

  abbrev first : RunState
  first = new_run default_ceilings (config clock) memory

  answers : verdict (start_checks (start_of (config clock) file memory)) ≡ passed → (run_transfer default_ceilings (config clock) file memory).answer ≡ Ok (outcome_of (run plan file first))
  answers a = ap (λ (x : RunExit). x.answer) (accepted_is default_ceilings (config clock) file memory (start_accepted (start_of (config clock) file memory) a))

  -- by so many steps
  record Computes (n time : ℕ) : Type 0 where
    starts : verdict (start_checks (start_of (config clock) file memory)) ≡ passed
    goes : is_going_on plan file n first ≡ true
    done : (steps_from plan file n first).state.arrivals.inbound.side.completed ≡ true
    over : (steps_from plan file n first).course ≡ Over Ended time

  delivers : (n time : ℕ) → Computes n time → Delivers clock time
  delivers n time c =
      let same = run_steps plan file n first c.goes in
      record {
        outcome = outcome_of (run plan file first);
        answered = answers c.starts;
        completed = ap (λ (x : StepExit). x.state.arrivals.inbound.side.completed) same ∙ c.done;
        finished = ap (λ (x : StepExit). finished_at x.course) same ∙ ap finished_at c.over;
      }

both : Computes choice.Edition 15 3015000000 × Computes choice.Source 9 1005000000
unfolding config file memory steps_from is_going_on notes.expiry notes.is_premature notes.mark_ack_scheduled notes.marked_below notes.new_notes notes.sent notes.sent_again notes.set_dropped notes.take_sample refusalClauses.any_of refusalOrder.decide refusalOrder.first_of refusalOrder.numbered refusalOrder.or_else refusalOrder.order refusalOrder.verdict octetsFold.fold_bytes octetsFold.sum timer.cancelled_unchecked timer.new_timer timer.started_at_unchecked multiTimer.new_unchecked rto.config_in_bounds rto.counts_full rto.fresh rto.no_stats rto.on_timeout_unchecked rto.reject_sample rto.state_broken rto.timed_out checksumRfc1071.checksum checksumRfc1071.ones_add checksumRfc1071.ones_sum checksumRfc1071.words packetFormat.checksum_of packetFormat.datagram packetFormat.header_bytes packetFormat.matches packet_reading.header_of packet_reading.payload_of packet_reading.payload_part packet_reading.read_checks packet_reading.read_datagram storeSlot.put_slot storeSlot.slot_at storeSlot.slot_bytes storeSlot.slot_payload storeSound.any_below storeSound.receiver_slot_broken storeSound.receiver_slots_broken storeSound.sender_slot_broken storeSound.sender_slots_broken windowAcknowledgement.ack_decision windowAcknowledgement.by_decision windowResending.datagrams_from windowResending.mark_from windowResending.resend windowSending.send_checks windowSending.send_chunk windowSlots.datagram_for windowSlots.empty_from windowSlots.fresh windowSlots.hold windowSlots.mark_retransmitted windowSlots.release windowState.counts_broken windowState.numbers_broken windowState.state_broken windowState.store_short windowState.window_broken receiverReceive.receive receiverReply.ack_after receiverReply.applied receiverReply.room_missing receiverState.counts_broken receiverState.state_broken goBackNReceiver.data_decision goBackNReceiver.decision deliveryCalls.datagrams sessionReceiving.handle_packet sessionReceiving.new_receiver sessionSending.acknowledged sessionSending.handle_ack sessionSending.handle_timeout sessionSending.new_sender sessionSending.resent sessionSending.send_chunk clock.arm_after_submit clock.arm_oldest clock.cancel clock.due clock.new_clock clock.next_deadline clock.rearm_after_ack clock.sample_rtt clockEditionClock.on_ack clockEditionClock.on_send scheduleRecord.free_from scheduleRecord.inserted scheduleRecord.place_in schedule.pop_unchecked schedule.put_copy schedule.schedule_at_unchecked schedule.without_first scheduleState.state_broken events.row_of channelBounds.config_broken channelFaults.carried_bytes channelFaults.deliveries_of channelFaults.is_corrupted channelFaults.is_duplicated channelFaults.is_lost channelFaults.is_reordered channelProcess.counted_stats channelProcess.process_unchecked path.carry path.copy_fold path.deadline_of path.new_path path.take_ready pathRolls.rolls_at pathRolls.rolls_broken submission.note_after submission.note_before submission.submit chunks.chunks_of chunks.pieces sendingRetransmit.retransmit sendingRetransmit.retransmit_all sending.pump_most sending.send_one timeouts.fire_timers timeouts.timed_out receiving.absorb receiving.on_forward receiving.received receiving.serve_at_most receiving.submit_ack acks.on_accepted acks.on_ack acksReverse.serve_at_most arrivals.serve_arrivals departures.send_due stepSettle.next_deadline stepSettle.sender_idle stepSettle.settle step.step_for setup.clock_broken setup.room_missing setup.setup_broken setup.state_broken transferStart.new_run ieee.lt ieee.le ieee.eq ieee.mul ieee.of_int ieee.to_unsigned
both = (record { starts = refl; goes = refl; done = refl; over = refl }, record { starts = refl; goes = refl; done = refl; over = refl })

pub edition_one_loss : Delivers choice.Edition 3015000000
edition_one_loss = delivers choice.Edition 15 3015000000 both.0

pub source_one_loss : Delivers choice.Source 1005000000
source_one_loss = delivers choice.Source 9 1005000000 both.1
