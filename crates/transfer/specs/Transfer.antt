-- app/transfer.rs, `run_transfer`: a transfer from its start to its end.
use Rattle.std.specs.Prelude.{ℕ, Err, Ok, Result}
use Rattle.refusal.specs.Order.{verdict, decide}
use Rattle.setup.specs.Setup.{start_checks}
use Rattle.setup.specs.declared.TransferConfig.{TransferConfig}
use Rattle.step.specs.State.{Given, RunState, Lent, lent}
use Rattle.step.specs.Settle.{StepExit}
use Rattle.step.specs.declared.End.{End}
use Rattle.step.specs.declared.End.TheVariants.{Ended}
use Rattle.step.specs.declared.Course.{Course}
use Rattle.step.specs.declared.Course.TheVariants.{Going, Over}
use Rattle.transfer.specs.Start.{plan_for, new_run, start_of}
use Rattle.transfer.specs.Run.{run}
use Rattle.transfer.specs.declared.Ceilings.{Ceilings}
use Rattle.transfer.specs.declared.DriverCounts.{DriverCounts}
use Rattle.transfer.specs.declared.Outcome.{Outcome}
use Rattle.refusal.specs.declared.Refusal.{Refusal}

-- MAX_EVENTS, MAX_SAME_TIME_SPINS; the source gives Stop-and-Wait u32::MAX retries
abbrev pub default_ceilings : Ceilings
default_ceilings = record { steps = 1000000; rounds = 100000; retries = 4294967295 }

-- ---- what a run ends with
abbrev pub counts_of : RunState → DriverCounts
counts_of s =
    let a = s.arrivals in
    let side = a.inbound.side in
    record {
      retx_submitted = s.resends.retx_submitted;
      premature = s.resends.premature;
      data_received = side.data_received;
      ack_sent = side.ack_sent;
      ack_received = a.received;
      duplicate_data = side.duplicate_data;
      duplicate_acks = a.duplicates;
      events = s.written;
    }

-- of a course that is over, as every run's is at its end
abbrev pub end_of : Course → End
end_of Going = Ended
end_of (Over e time) = e

abbrev pub finished_at : Course → ℕ
finished_at Going = 0
finished_at (Over e time) = time

abbrev pub outcome_of : StepExit → Outcome
outcome_of x =
    let s = x.state in
    let a = s.arrivals in
    record {
      completed = a.inbound.side.completed;
      finished_at = finished_at x.course;
      end = end_of x.course;
      sender = a.sender.sender;
      receiver = a.inbound.side.receiver;
      driver = counts_of s;
      estimator = a.estimator;
      forward = a.forward.path.channel.stats;
      reverse = a.inbound.reverse.path.channel.stats;
    }

-- the eleven lent slices of a run's state
abbrev pub lent_of : RunState → Lent
lent_of s =
    let a = s.arrivals in
    let b = a.inbound in
    lent a.sender.store b.store b.output b.metas.rows s.events a.forward.records
    a.forward.places b.reverse.records b.reverse.places a.clock.keys a.clock.deadlines

-- ---- `run_transfer`: refused by the four checks of a start, with nothing written; else the outcome, and what every
-- slice holds at the end
pub record RunExit : Type 0 where
  pub answer : Result Outcome Refusal
  pub lent : Lent

abbrev pub run_exit : Result Outcome Refusal → Lent → RunExit
run_exit a l = record { answer = a; lent = l }

abbrev pub ended : StepExit → RunExit
ended x = run_exit (Ok (outcome_of x)) (lent_of x.state)

unfoldable pub run_transfer : Ceilings → TransferConfig → Given → Lent → RunExit
run_transfer k c g l =
    decide (verdict (start_checks (start_of c g l))) (λ r. run_exit (Err r) l)
    (ended (run (plan_for k c g) g (new_run k c l)))
