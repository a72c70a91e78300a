-- RFC 6298, section 5, and document 01, "The edition clock", along a run.
use Rattle.std.specs.Prelude.{ℕ, ◌+◌, ◌-◌, ◌*◌, ◌≤◌, ◌≡◌, true, List, [], ◌∷◌, ◌++◌, length, Option, Some}
use Rattle.rto.specs.Rto.{limited, estimate_for}
use Rattle.rto.specs.declared.RtoConfig.{RtoConfig}
use Rattle.rto.specs.declared.RtoEstimator.{RtoEstimator}
use Rattle.timer.specs.Timer.{active}
use Rattle.events.specs.Events.{ForwardEvent, events_of}
use Rattle.clock.specs.Clock.{ClockState, timer_of, Submission}
use Rattle.session.specs.Sending.{window_of, has_outstanding}
use Rattle.submission.specs.Submission.{SubmitExit}
use Rattle.timeouts.specs.Timeouts.{FireState}
use Rattle.step.specs.State.{Given, RunState}
use Rattle.step.specs.Settle.{StepExit}
use Rattle.step.specs.Step.{step}
use Rattle.step.specs.declared.Plan.{Plan}
use Rattle.step.specs.declared.Course.TheVariants.{Going}
use Rattle.edition_clock.specs.Section5.{RtoTimer, rto_timer, min_rto, max_rto, Follows}

-- the timer of a clock, with an RTO
abbrev pub timer_with : ClockState → ℕ → RtoTimer
timer_with c rto = rto_timer (timer_of c).deadline rto

-- a run's timer and RTO
abbrev pub timer_in : RunState → RtoTimer
timer_in s = timer_with s.arrivals.clock s.arrivals.estimator.current_rto

-- the ACKs of new data: those that were no duplicates
abbrev pub new_acks : RunState → ℕ
new_acks s = s.arrivals.received - s.arrivals.duplicates

-- Section 2 at the moment `now`, with the setup c, from one SRTT and RTTVAR to others: the RTO of each sample, none
-- older than the run, is that of (2.2) or (2.3), within its limits.
pub data Estimates (now : ℕ) (c : RtoConfig) (srtt rttvar : Option ℕ)
    : Option ℕ → Option ℕ → List ℕ → Type 0 where
  same : Estimates now c srtt rttvar srtt rttvar []
  estimated : {s v : Option ℕ} {rtos : List ℕ} (age : ℕ) → age ≤ now → Estimates now c srtt rttvar s v rtos
      → Estimates now c srtt rttvar (Some (estimate_for c s v age).srtt) (Some (estimate_for c s v age).rttvar)
      (rtos ++ limited c (estimate_for c s v age).rto ∷ [])

abbrev pub estimator_in : RunState → RtoEstimator
estimator_in s = s.arrivals.estimator

-- A step from s to u: timer and RTO change by the rules alone, one for each packet sent and each ACK of new data; the
-- RTOs of samples are section 2's, one for each that the estimator counts.
pub record StepFollows (s u : RunState) : Type 0 where
  pub packets : ℕ
  pub again : ℕ
  pub acks : ℕ
  pub rtos : List ℕ
  pub follows : Follows s.time (timer_in s) (timer_in u) packets again acks rtos
  pub written : u.written ≡ s.written + packets
  pub resent : u.resends.retx_submitted ≡ s.resends.retx_submitted + again
  pub acknowledged : new_acks u ≡ new_acks s + acks
  pub estimates : Estimates s.time (estimator_in s).config (estimator_in s).srtt (estimator_in s).rttvar
      (estimator_in u).srtt (estimator_in u).rttvar rtos
  pub samples : (estimator_in u).stats.sample_count ≡ (estimator_in s).stats.sample_count + length rtos

-- Between steps and at the end: the RTO is within its limits, and at most one packet a second was sent again.
pub record WithinLimits (s : RunState) : Type 0 where
  pub low : min_rto ≤ (timer_in s).rto
  pub high : (timer_in s).rto ≤ max_rto
  pub paced : s.resends.retx_submitted * min_rto ≤ s.time

-- Between steps: the timer runs while something is outstanding, and is neither overdue nor set further ahead than the
-- RTO.
pub record OnTheClock (s : RunState) : Type 0 where
  pub limits : WithinLimits s
  pub runs : has_outstanding s.arrivals.sender.sender ≡ true → active (timer_in s).deadline ≡ true
  pub not_overdue : (d : ℕ) → (timer_in s).deadline ≡ Some d → s.time ≤ d
  pub not_far : (d : ℕ) → (timer_in s).deadline ≡ Some d → d ≤ s.time + (timer_in s).rto

-- ---- an expiry, from s to u. (5.4): one packet more, of the earliest number outstanding, marked as sent again
pub record EarliestAgain (s u : FireState) : Type 0 where
  pub event : ForwardEvent
  pub seq : event.seq ≡ (window_of s.sender.sender).send_base
  pub again : event.retransmission ≡ true
  pub events : events_of u.outgoing.written u.outgoing.events
      ≡ events_of s.outgoing.written s.outgoing.events ++ event ∷ []

-- the same packet sent with another RTO: the same way, event and answer
abbrev pub with_rto : Submission → ℕ → Submission
with_rto x rto =
    record { time = x.time; seq = x.seq; rto = rto; retransmission = x.retransmission; oldest = x.oldest }

pub record SameSending (a b : SubmitExit) : Type 0 where
  pub forward : a.outgoing.forward ≡ b.outgoing.forward
  pub written : a.outgoing.written ≡ b.outgoing.written
  pub events : a.outgoing.events ≡ b.outgoing.events
  pub stop : a.stop ≡ b.stop

-- ---- the states of a run from s before each of its steps
pub data Reached (p : Plan) (g : Given) (s : RunState) : RunState → Type 0 where
  start : Reached p g s s
  next : {u : RunState} → Reached p g s u → (step p g u).course ≡ Going → Reached p g s (step p g u).state

-- each of them went on but the last
pub record LastStep (p : Plan) (g : Given) (s : RunState) (x : StepExit) : Type 0 where
  pub before : RunState
  pub reached : Reached p g s before
  pub last : x ≡ step p g before
