-- What an accepted ACK asks (`app/transfer.rs`, `sample_rtt` and `rearm_after_ack`).
use Rattle.std.specs.Prelude.{ℕ, ◌≤◌, ◌≡◌, false}
use Rattle.bounds.specs.Bounds.{max_duration}
use Rattle.window.specs.State.{numbers_broken}
use Rattle.rto.specs.declared.RtoEstimator.{RtoEstimator}
use Rattle.notes.specs.Notes.{SegMetas, Timely}
use Rattle.clock.specs.Clock.{ClockState, sample_rtt, Held, CanSample}
use Rattle.session.specs.Sending.{window_of}
use Rattle.session.specs.declared.Sender.{Sender}

-- a sample of the segment `seq` can be taken, and the timer set with the RTO that results
pub record CanAccept (s : Sender) (e : RtoEstimator) (c : ClockState) (m : SegMetas) (seq now : ℕ) : Type 0 where
  pub numbers : numbers_broken (window_of s) ≡ false
  pub sample : CanSample e m now
  pub clock : Held c
  pub notes : Timely m now
  pub rto : (sample_rtt e m seq now).estimator.current_rto ≤ max_duration
