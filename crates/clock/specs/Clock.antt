-- When a run sends again: the reference's `app/transfer.rs`, `arm_after_submit`, `arm_oldest`, `rearm_after_ack`,
-- `due`, `next_deadline` and `sample_rtt`; and the edition clock in their place.
use Rattle.std.specs.Prelude.{ℕ, ◌+◌, ◌-◌, ◌≤◌, ◌≡◌, Bool, true, false, cond, ◌||◌, List, [], ◌∷◌, eqb, length, None}
use Rattle.std.specs.Prelude.{Some, Option}
use Rattle.bounds.specs.Bounds.{max_duration}
use Rattle.timer.specs.Timer.{new_timer, deadline_too_late, expired_at, started_at_unchecked, cancelled_unchecked}
use Rattle.timer.specs.declared.RetransmissionTimer.{RetransmissionTimer}
use Rattle.multi_timer.specs.Map.{deadlines_of, due_keys, earliest}
use Rattle.multi_timer.specs.MultiTimer.{TimersExit, timers_exit, answering, used, broken, held_too_late, start_full}
use Rattle.multi_timer.specs.MultiTimer.{new_unchecked, start_timer_at_unchecked, cancel_timer_unchecked}
use Rattle.multi_timer.specs.declared.MultiTimer.{MultiTimer}
use Rattle.rto.specs.Rto.{state_broken, counts_full, update_rtt_unchecked}
use Rattle.rto.specs.declared.RtoEstimator.{RtoEstimator}
use Rattle.notes.specs.Notes.{SegMetas, rto_at_send, expiry, take_sample, Timely}
use Rattle.clock.specs.EditionClock.{on_send, on_ack, idle_expiry}
use Rattle.clock.specs.declared.Clock.{Clock}
use Rattle.clock.specs.declared.Timing.{Timing}
use Rattle.clock.specs.declared.Timing as timing
use Rattle.clock.specs.declared.Due.{Due}
use Rattle.clock.specs.declared.Due as ran

-- ---- a clock with the slices of its timer set
abbrev pub ClockState : Type 0
ClockState = TimersExit Clock

abbrev pub clock : RetransmissionTimer → MultiTimer → Clock
clock t ts = record { timer = t; timers = ts }

abbrev pub timer_of : ClockState → RetransmissionTimer
timer_of s = s.answer.timer

abbrev pub timers_of : ClockState → MultiTimer
timers_of s = s.answer.timers

abbrev pub with_timer : ClockState → RetransmissionTimer → ClockState
with_timer s t = timers_exit (clock t (timers_of s)) s.keys s.deadlines

abbrev pub with_timers : ClockState → TimersExit MultiTimer → ClockState
with_timers s ts = answering (clock (timer_of s)) ts

unfoldable pub new_clock : List ℕ → List ℕ → ClockState
new_clock ks ds = answering (clock new_timer) (new_unchecked ks ds)

-- ---- the lowest outstanding number
abbrev pub is_oldest : Option ℕ → ℕ → Bool
is_oldest None seq = false
is_oldest (Some n) seq = eqb n seq

abbrev pub is_outstanding : Option ℕ → Bool
is_outstanding None = false
is_outstanding (Some n) = true

-- `arm_oldest`: the oldest outstanding segment's timer runs from its last sending, for the RTO of that time
abbrev pub arm_until : RetransmissionTimer → ℕ → Option ℕ → RetransmissionTimer
arm_until t now None = cancelled_unchecked t
arm_until t now (Some d) = started_at_unchecked t now (d - now)

unfoldable pub arm_oldest : RetransmissionTimer → SegMetas → ℕ → Option ℕ → RetransmissionTimer
arm_oldest t m now None = cancelled_unchecked t
arm_oldest t m now (Some seq) = arm_until t now (expiry m seq)

-- ---- `arm_after_submit`: after the segment `seq` went to the channel; `rto` is the current one
pub record Submission : Type 0 where
  pub time : ℕ
  pub seq : ℕ
  pub rto : ℕ
  pub retransmission : Bool
  pub oldest : Option ℕ

unfoldable pub arm_after_submit : Timing → ClockState → SegMetas → Submission → ClockState
arm_after_submit timing.TheVariants.Single s m x =
    cond (x.retransmission || is_oldest x.oldest x.seq)
    (with_timer s (arm_oldest (timer_of s) m x.time x.oldest))
    s
arm_after_submit timing.TheVariants.PerNumber s m x =
    with_timers s (start_timer_at_unchecked (timers_of s) s.keys s.deadlines x.seq
    (x.time + rto_at_send m x.seq x.rto))
arm_after_submit timing.TheVariants.Edition s m x = with_timer s (on_send (timer_of s) x.time x.rto)

-- ---- `rearm_after_ack`: after an ACK of `seq` was accepted
unfoldable pub cancel_number : ClockState → ℕ → ClockState
cancel_number s seq = with_timers s (cancel_timer_unchecked (timers_of s) s.keys s.deadlines seq)

pub record Accepted : Type 0 where
  pub time : ℕ
  pub seq : ℕ
  pub rto : ℕ
  pub oldest : Option ℕ

unfoldable pub rearm_after_ack : Timing → ClockState → SegMetas → Accepted → ClockState
rearm_after_ack timing.TheVariants.Single s m x = with_timer s (arm_oldest (timer_of s) m x.time x.oldest)
rearm_after_ack timing.TheVariants.PerNumber s m x = cancel_number s x.seq
rearm_after_ack timing.TheVariants.Edition s m x =
    with_timer s (on_ack (is_outstanding x.oldest) (timer_of s) x.time x.rto)

-- `fire_timers` stops the single timer before anything is sent
unfoldable pub cancel : Clock → Clock
cancel c = clock (cancelled_unchecked c.timer) c.timers

-- ---- `due`
abbrev pub numbers_due : List ℕ → Due
numbers_due [] = ran.TheVariants.Nothing
numbers_due (k ∷ ks) = ran.TheVariants.Numbers

-- of one timer; `idle` if it has expired with nothing outstanding
abbrev pub single_due : Bool → Bool → Due → Due
single_due expired outstanding idle =
    cond expired (cond outstanding ran.TheVariants.Single idle) ran.TheVariants.Nothing

unfoldable pub due : Timing → ClockState → ℕ → Bool → Due
due timing.TheVariants.Single s now outstanding =
    single_due (expired_at (timer_of s).deadline now) outstanding ran.TheVariants.Nothing
due timing.TheVariants.PerNumber s now outstanding =
    numbers_due (due_keys now (used (timers_of s) s.keys s.deadlines))
due timing.TheVariants.Edition s now outstanding =
    single_due (expired_at (timer_of s).deadline now) outstanding idle_expiry

-- ---- `next_deadline`, of the timers
abbrev pub as_deadline : Option ℕ → Option ℕ
as_deadline d = d

unfoldable pub next_deadline : Timing → ClockState → Option ℕ
next_deadline timing.TheVariants.Single s = (timer_of s).deadline
next_deadline timing.TheVariants.PerNumber s =
    as_deadline (earliest (deadlines_of (used (timers_of s) s.keys s.deadlines)))
next_deadline timing.TheVariants.Edition s = (timer_of s).deadline

-- ---- `sample_rtt`
pub record SampleRttExit : Type 0 where
  pub metas : SegMetas
  pub estimator : RtoEstimator

abbrev pub sample_rtt_exit : SegMetas → RtoEstimator → SampleRttExit
sample_rtt_exit m e = record { metas = m; estimator = e }

abbrev pub by_sample : RtoEstimator → Option (ℕ × Bool) → RtoEstimator
by_sample e (Some (d, retransmitted)) = update_rtt_unchecked e d retransmitted
by_sample e None = e

unfoldable pub sample_rtt : RtoEstimator → SegMetas → ℕ → ℕ → SampleRttExit
sample_rtt e m seq now =
    let x = take_sample m seq now in
    sample_rtt_exit x.metas (by_sample e x.sample)

-- ---- what the calls take for granted
-- checks 9 and 10 of the timers are false
pub record Held (s : ClockState) : Type 0 where
  pub timer : deadline_too_late (timer_of s).deadline ≡ false
  pub state : broken (timers_of s).count s.keys s.deadlines ≡ false
  pub times : held_too_late (timers_of s).count s.deadlines ≡ false

pub record CanRearm (s : ClockState) (m : SegMetas) (now rto : ℕ) : Type 0 where
  pub held : Held s
  pub notes : Timely m now
  pub short : rto ≤ max_duration

-- and a timer for each number finds an entry
pub record CanArm (t : Timing) (s : ClockState) (m : SegMetas) (now rto seq : ℕ) : Type 0 where
  pub rearm : CanRearm s m now rto
  pub room : t ≡ timing.TheVariants.PerNumber → start_full (timers_of s) s.keys s.deadlines seq ≡ false

pub record CanSample (e : RtoEstimator) (m : SegMetas) (now : ℕ) : Type 0 where
  pub state : state_broken e ≡ false
  pub counts : counts_full e.stats ≡ false
  pub fits : m.notes.count ≤ length m.rows
  pub time : now ≤ max_duration
