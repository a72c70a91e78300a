-- app/transfer.rs, `Driver::new`: a run at its start.
use Rattle.std.specs.Prelude.{ℕ, ◌-◌, ◌*◌, ◌≤◌, ◌<◌, ◌≡◌, false, List, length, replicate}
use Rattle.bounds.specs.Bounds.{slot_size}
use Rattle.rows.specs.Rows.{vacant}
use Rattle.protocol.specs.declared.ProtocolType.{ProtocolType}
use Rattle.protocol.specs.declared.ProtocolType.TheVariants as protocol
use Rattle.channel.specs.declared.ChannelConfig.{ChannelConfig}
use Rattle.rtt.specs.Rtt.{zero64}
use Rattle.rto.specs.Rto.{fresh}
use Rattle.path.specs.Path.{new_path}
use Rattle.notes.specs.Notes.{new_notes}
use Rattle.chunks.specs.Chunks.{chunks_of}
use Rattle.clock.specs.Clock.{new_clock}
use Rattle.clock.specs.declared.Timing.{Timing}
use Rattle.clock.specs.declared.Timing.TheVariants as timing
use Rattle.session.specs.Sending.{new_sender, slot_count}
use Rattle.session.specs.Receiving.{new_receiver, receiver_slot_count}
use Rattle.receiving.specs.Receiving.{new_side, inbound}
use Rattle.sending.specs.declared.Resends.{Resends}
use Rattle.arrivals.specs.Arrivals.{arrival_state}
use Rattle.step.specs.State.{Given, RunState, run_state, Lent}
use Rattle.step.specs.declared.Plan.{Plan}
use Rattle.setup.specs.Setup.{Start, start}
use Rattle.setup.specs.declared.ClockChoice.{ClockChoice}
use Rattle.setup.specs.declared.ClockChoice.TheVariants as choice
use Rattle.setup.specs.declared.TransferConfig.{TransferConfig}
use Rattle.transfer.specs.declared.Ceilings.{Ceilings}

-- ---- the plan: Selective Repeat has a timer a number, the others a single one, on the clock of the setup
abbrev pub single_timing : ClockChoice → Timing
single_timing choice.Source = timing.Single
single_timing choice.Edition = timing.Edition

abbrev pub timing_of : ProtocolType → ClockChoice → Timing
timing_of protocol.StopAndWait c = single_timing c
timing_of protocol.GoBackN c = single_timing c
timing_of protocol.SelectiveRepeat c = timing.PerNumber

abbrev pub plan_of : TransferConfig → ℕ → ℕ → Plan
plan_of c total rounds = record {
  timing = timing_of c.protocol c.clock;
  total_chunks = total;
  chunk_size = c.chunk_size;
  max_virtual_time = c.max_virtual_time;
  max_retransmissions = c.max_retransmissions;
  rounds = rounds;
}

abbrev pub plan_for : Ceilings → TransferConfig → Given → Plan
plan_for k c g = plan_of c (length (chunks_of c.chunk_size g.file)) k.rounds

-- ---- `reverse_channel_config`: the delays of the forward channel, and no faults
abbrev pub reverse_config : ChannelConfig → ChannelConfig
reverse_config c = record {
  loss = zero64;
  duplicate = zero64;
  reorder = zero64;
  reorder_extra_ms = c.reorder_extra_ms;
  corrupt = zero64;
  base_delay_ms = c.base_delay_ms;
  jitter_ms = c.jitter_ms;
}

abbrev pub no_resends : Resends
no_resends = record { retx_submitted = 0; premature = 0; exhausted = false }

-- both ends, both lines and the clock as made: slots of the window, entries, records, places, notes and events are
-- zeros, the output stays as it is; of a run of so many moments the first is no move, and none runs as one
unfoldable pub new_run : Ceilings → TransferConfig → Lent → RunState
new_run k c l =
    let receiver = new_receiver c.protocol c.window_size l.receiver_store in
    run_state
    (arrival_state (new_path c.channel l.forward_records l.forward_places)
    (inbound (new_side receiver.receiver) receiver.store l.output (new_notes l.rows)
    (new_path (reverse_config c.channel) l.reverse_records l.reverse_places))
    (new_sender c.protocol c.window_size k.retries l.sender_store) (fresh c.rto)
    (new_clock l.keys l.deadlines) 0 0)
    no_resends 0 (replicate (length l.events) vacant) 0 (k.steps - 1) k.rounds

-- what it asks
pub record CanMake (k : Ceilings) (c : TransferConfig) (sender receiver keys deadlines : List ℕ) : Type 0 where
  pub sender_room : slot_count c.protocol c.window_size * slot_size ≤ length sender
  pub receiver_room : receiver_slot_count c.protocol c.window_size * slot_size ≤ length receiver
  pub timers_alike : length keys ≡ length deadlines
  pub some : 0 < k.steps

-- what the checks of a start look at
abbrev pub start_of : TransferConfig → Given → Lent → Start
start_of c g l =
    start c g.file g.forward_rolls g.reverse_rolls l.sender_store l.receiver_store l.output l.rows
    l.keys l.deadlines
