-- What every step of a run keeps while the run goes on.
use Rattle.std.specs.Prelude.{◌+◌, ◌≤◌, ◌<◌, ◌≡◌, true, length}
use Rattle.bounds.specs.Bounds.{max_chunks, max_payload, max_duration}
use Rattle.clock.specs.Estimator.{GoodEstimator}
use Rattle.clock.specs.Timers.{GoodTimers}
use Rattle.clock.specs.declared.Timing.TheVariants.{PerNumber}
use Rattle.session.specs.Sending.{window_of}
use Rattle.session.specs.GoodSender.{CleanSender, is_selective}
use Rattle.submission.specs.Submission.{GoodOutgoing}
use Rattle.receiving.specs.Good.{GoodInbound}
use Rattle.timeouts.specs.Good.{Counted}
use Rattle.arrivals.specs.Arrivals.{ArrivalState}
use Rattle.step.specs.State.{Given, chunks_for, RunState, outgoing_of}
use Rattle.step.specs.declared.Plan.{Plan}

-- a plan for a file within bounds
pub record GoodPlan (p : Plan) (g : Given) : Type 0 where
  pub some : 0 < p.chunk_size
  pub short : p.chunk_size ≤ max_payload
  pub whole : p.total_chunks ≡ length (chunks_for p g)
  pub few : p.total_chunks ≤ max_chunks
  pub time : p.max_virtual_time ≤ max_duration

-- no more arrived than was scheduled
pub record Arrived (a : ArrivalState) : Type 0 where
  pub datas : a.inbound.side.data_received + a.forward.path.scheduler.count
      ≤ a.forward.path.scheduler.next_order
  pub replies : a.received + a.inbound.reverse.path.scheduler.count
      ≤ a.inbound.reverse.path.scheduler.next_order

pub record GoodRun (p : Plan) (g : Given) (s : RunState) : Type 0 where
  pub outgoing : GoodOutgoing (outgoing_of s) g.forward_rolls s.time
  pub inbound : GoodInbound s.arrivals.inbound g.reverse_rolls
  pub sender : CleanSender s.arrivals.sender
  pub estimator : GoodEstimator s.arrivals.estimator s.arrivals.received
  pub duplicates : s.arrivals.duplicates ≤ s.arrivals.received
  pub arrived : Arrived s.arrivals
  pub counted : Counted s.arrivals.forward.path.used s.arrivals.sender s.arrivals.estimator s.resends
  pub next : (window_of s.arrivals.sender.sender).next_seq_num ≤ p.total_chunks
  pub rows : p.total_chunks ≤ length s.arrivals.inbound.metas.rows
  pub timers : GoodTimers p.timing s.arrivals.sender s.arrivals.clock
  pub selective : p.timing ≡ PerNumber → is_selective s.arrivals.sender.sender.state ≡ true
