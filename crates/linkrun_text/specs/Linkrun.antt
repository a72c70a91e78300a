-- The program `linkrun` (document 01, at its end): its built-in setup, and what it prints for a file.
use Rattle.std.specs.Prelude.{ℕ, ◌*◌, ◌≡◌, true, cond, List, [], ◌∷◌, ltb, length, replicate, Float, Err, Ok, Result}
use Rattle.bounds.specs.Bounds.{slot_size, place_size}
use Rattle.refusal.specs.Refusal.{ascii}
use Rattle.protocol.specs.declared.ProtocolType.TheVariants.{SelectiveRepeat}
use Rattle.rtt.specs.Rtt.{zero64, one64, eighth64, quarter64, four64}
use Rattle.rows.specs.Rows.{vacant}
use Rattle.schedule.specs.Record as scheduled
use Rattle.events.specs.Events.{ForwardEvent, events_of}
use Rattle.setup.specs.declared.ClockChoice.TheVariants.{Source}
use Rattle.setup.specs.declared.TransferConfig.{TransferConfig}
use Rattle.step.specs.State.{given, Lent, lent}
use Rattle.step.specs.declared.End.TheVariants.{Ended}
use Rattle.transfer.specs.Transfer.{default_ceilings, RunExit, run_transfer}
use Rattle.transfer.specs.declared.Outcome.{Outcome as RunOutcome}
use Rattle.trace.specs.Text.{events_text}
use Rattle.transfer.specs.declared.Outcome.{Outcome}
use Rattle.refusal.specs.declared.Refusal.{Refusal}

-- the longest file that is run
abbrev pub max_file : ℕ
max_file = 256

-- base delay 5 ms, all else in the channel 0; the source's timing with the edition clock's numbers; times in ns
unfoldable pub linkrun_setup : TransferConfig
linkrun_setup =
    record {
      protocol = SelectiveRepeat;
      clock = Source;
      window_size = 4;
      chunk_size = 1;
      channel = record {
        loss = zero64;
        duplicate = zero64;
        reorder = zero64;
        reorder_extra_ms = 0;
        corrupt = zero64;
        base_delay_ms = 5;
        jitter_ms = 0;
      };
      rto = record {
        initial_rto = 1000000000;
        min_rto = 1000000000;
        max_rto = 60000000000;
        granularity = 1000000;
        alpha = eighth64;
        beta = quarter64;
        k = four64;
        rto_multiplier = one64;
      };
      max_virtual_time = 60000000000;
      max_retransmissions = 10;
    }

-- eight rolls a packet, all 0; as many for the ACKs
unfoldable pub linkrun_rolls : List Float
linkrun_rolls = replicate 2048 zero64

-- stores, records and places for a window, a note and an event for each byte; all zeros
unfoldable pub linkrun_lent : Lent
linkrun_lent =
    let slots : List ℕ = replicate (4 * slot_size) 0 in
    let rows : List (List ℕ) = replicate max_file vacant in
    let records : List (List ℕ) = replicate 4 scheduled.vacant in
    let places : List ℕ = replicate (4 * place_size) 0 in
    lent slots slots (replicate max_file 0) rows rows records places records places (replicate 4 0) (replicate 4 0)

unfoldable pub linkrun_run : List ℕ → RunExit
linkrun_run file = run_transfer default_ceilings linkrun_setup (given file linkrun_rolls linkrun_rolls) linkrun_lent

-- the run of a file was not refused
pub record Ran (file : List ℕ) : Type 0 where
  pub outcome : RunOutcome
  pub answered : (linkrun_run file).answer ≡ Ok outcome

-- and ended by itself, with all delivered
pub record Completes (file : List ℕ) : Type 0 where
  pub ran : Ran file
  pub ended : ran.outcome.end ≡ Ended
  pub completed : ran.outcome.completed ≡ true

-- the events of a run; of a refused one none
abbrev pub answered_events : Result Outcome Refusal → List (List ℕ) → List ForwardEvent
answered_events (Ok o) events = events_of o.driver.events events
answered_events (Err r) events = []

unfoldable pub run_events : RunExit → List ForwardEvent
run_events x = answered_events x.answer x.lent.events

-- a file of no bytes is not run
unfoldable pub file_events : List ℕ → List ForwardEvent
file_events [] = []
file_events (b ∷ bs) = run_events (linkrun_run (b ∷ bs))

unfoldable pub linkrun_text : List ℕ → List ℕ
linkrun_text file = cond (ltb max_file (length file)) (ascii "long\n") (events_text (file_events file))
