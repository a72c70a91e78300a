-- The functions' contracts, over plain variables.
use Prim.Native.Nat.{ℕ, ◌-◌}
use mathlib.Core.Path.{◌≡◌, ap}
use mathlib.Core.List.{List}
use lib.ListN.{length, replicate}
use Rattle.rows.specs.Rows.{vacant}
use Rattle.channel.specs.declared.ChannelConfig.{ChannelConfig}
use Rattle.rto.specs.Rto.{fresh}
use Rattle.rto.specs.declared.RtoEstimator.{RtoEstimator}
use Rattle.path.specs.Path.{new_path}
use Rattle.path.specs.Direction.{Direction}
use Rattle.notes.specs.Notes.{SegMetas, new_notes}
use Rattle.clock.specs.Clock.{ClockState, new_clock}
use Rattle.clock.specs.declared.Timing.{Timing}
use Rattle.session.specs.Sending.{SenderEnd, new_sender}
use Rattle.session.specs.Receiving.{ReceiverEnd, new_receiver}
use Rattle.receiving.specs.Receiving.{new_side, inbound}
use Rattle.receiving.specs.declared.ReceivingSide.{ReceivingSide}
use Rattle.arrivals.specs.Arrivals.{arrival_state}
use Rattle.step.specs.State.{RunState, run_state, lent}
use Rattle.step.specs.Settle.{StepExit}
use Rattle.step.specs.declared.Plan.{Plan}
use Rattle.step.specs.declared.End.{End}
use Rattle.setup.specs.declared.TransferConfig.{TransferConfig}
use Rattle.transfer.specs.Start.{timing_of, plan_of, reverse_config, no_resends, new_run}
use Rattle.transfer.specs.Transfer.{counts_of, end_of, finished_at, outcome_of}
use Rattle.transfer.specs.declared.Ceilings.{Ceilings}
use Rattle.transfer.specs.declared.DriverCounts.{DriverCounts}
use Rattle.transfer.specs.declared.Outcome.{Outcome}

abbrev plan_with : TransferConfig → ℕ → ℕ → Timing → Plan
plan_with c total rounds t =
    record { timing = t; total_chunks = total; chunk_size = c.chunk_size; max_virtual_time = c.max_virtual_time; max_retransmissions = c.max_retransmissions; rounds = rounds }

pub plan_is : (c : TransferConfig) (total rounds : ℕ) {t : Timing} → t ≡ timing_of c.protocol c.clock → plan_with c total rounds t ≡ plan_of c total rounds
plan_is c total rounds e = ap (plan_with c total rounds) e

abbrev outcome_with : RunState → ℕ → End → DriverCounts → Outcome
outcome_with s time e d =
    record {
      completed = s.arrivals.inbound.side.completed;
      finished_at = time;
      end = e;
      sender = s.arrivals.sender.sender;
      receiver = s.arrivals.inbound.side.receiver;
      driver = d;
      estimator = s.arrivals.estimator;
      forward = s.arrivals.forward.path.channel.stats;
      reverse = s.arrivals.inbound.reverse.path.channel.stats;
    }

pub outcome_is : (x : StepExit) {e : End} {time : ℕ} {d : DriverCounts} → e ≡ end_of x.course → time ≡ finished_at x.course → d ≡ counts_of x.state → outcome_with x.state time e d ≡ outcome_of x
outcome_is x p q r = rw (p, q, r)

-- what the makers give, one after the other
pub new_run_is : (k : Ceilings) (c : TransferConfig) (ss rs output : List ℕ) (rows events fr : List (List ℕ)) (fp : List ℕ) (rr : List (List ℕ)) (rp ks ds : List ℕ)
    {b : ChannelConfig} {f r : Direction} {v : SenderEnd} {w : ReceiverEnd} {side : ReceivingSide} {m : SegMetas} {e : RtoEstimator} {t : ClockState} {es : List (List ℕ)}
    → b ≡ reverse_config c.channel → f ≡ new_path c.channel fr fp → r ≡ new_path b rr rp → v ≡ new_sender c.protocol c.window_size k.retries ss → w ≡ new_receiver c.protocol c.window_size rs
    → side ≡ new_side w.receiver → m ≡ new_notes rows → e ≡ fresh c.rto → t ≡ new_clock ks ds → es ≡ replicate (length events) vacant
    → run_state (arrival_state f (inbound side w.store output m r) v e t 0 0) no_resends 0 es 0 (k.steps - 1) k.rounds ≡ new_run k c (lent ss rs output rows events fr fp rr rp ks ds)
unfolding new_run
new_run_is k c ss rs output rows events fr fp rr rp ks ds pb pf pr pv pw ps pm pe pt pes = rw (pf, pr, pb, pv, ps, pw, pm, pe, pt, pes)
