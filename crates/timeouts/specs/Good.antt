-- app/transfer.rs, `fire_timers`: what it asks of a run's state, and keeps while the run goes on.
use Rattle.std.specs.Prelude.{ℕ, ◌*◌, ◌≤◌, ◌<◌, ◌≡◌, true, List, Float, length}
use Rattle.bounds.specs.Bounds.{count_limit}
use Rattle.rto.specs.declared.RtoEstimator.{RtoEstimator}
use Rattle.path.specs.Rolls.{packet_rolls}
use Rattle.clock.specs.Estimator.{GoodEstimator}
use Rattle.clock.specs.declared.Timing.{Timing}
use Rattle.clock.specs.declared.Timing.TheVariants.{PerNumber}
use Rattle.session.specs.Sending.{SenderEnd, window_of}
use Rattle.session.specs.GoodSender.{CleanSender, is_selective}
use Rattle.submission.specs.Submission.{GoodOutgoing}
use Rattle.sending.specs.Good.{TimersWithin}
use Rattle.sending.specs.declared.Resends.{Resends}
use Rattle.timeouts.specs.Timeouts.{FireState}

-- every packet that a counter counts has used its rolls
pub record Counted (used : ℕ) (v : SenderEnd) (e : RtoEstimator) (r : Resends) : Type 0 where
  pub sent : (window_of v.sender).total_sent * packet_rolls ≤ used
  pub again : (window_of v.sender).retransmissions * packet_rolls ≤ used
  pub submitted : r.retx_submitted * packet_rolls ≤ used
  pub premature : r.premature ≤ r.retx_submitted
  pub timeouts : e.stats.timeout_count * packet_rolls ≤ used
  pub backoffs : e.stats.backoff_count * packet_rolls ≤ used

-- of an estimator with at most so many samples: every number has a row for its note, every number of the window an
-- entry for its timer
pub record GoodFire (t : Timing) (rolls : List Float) (samples now : ℕ) (s : FireState) : Type 0 where
  pub outgoing : GoodOutgoing s.outgoing rolls now
  pub sender : CleanSender s.sender
  pub estimator : GoodEstimator s.estimator samples
  pub counted : Counted s.outgoing.forward.path.used s.sender s.estimator s.resends
  pub rows : (window_of s.sender.sender).next_seq_num ≤ length s.outgoing.metas.rows
  pub timers : TimersWithin (window_of s.sender.sender) s.outgoing.clock
  pub entries : t ≡ PerNumber → (window_of s.sender.sender).window_size ≤ length s.outgoing.clock.keys
  pub selective : t ≡ PerNumber → is_selective s.sender.sender.state ≡ true

-- of an estimator whose samples are below a counter's limit
pub record CanFire (t : Timing) (rolls : List Float) (now : ℕ) (s : FireState) : Type 0 where
  pub samples : ℕ
  pub few : samples < count_limit
  pub good : GoodFire t rolls samples now s
