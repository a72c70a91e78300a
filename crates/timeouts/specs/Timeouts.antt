-- app/transfer.rs, `fire_timers`: what the timers that have run out send again.
use Rattle.std.specs.Prelude.{ℕ, Bool, true, false, cond, ◌||◌, List, [], ◌∷◌, Float, None, Option}
use Rattle.multi_timer.specs.Map.{due_keys}
use Rattle.multi_timer.specs.MultiTimer.{timers_exit, used}
use Rattle.rto.specs.Rto.{on_timeout_unchecked}
use Rattle.rto.specs.declared.RtoEstimator.{RtoEstimator}
use Rattle.path.specs.Path.{is_going}
use Rattle.path.specs.declared.Stop.{Stop}
use Rattle.path.specs.declared.Stop.TheVariants as stop
use Rattle.clock.specs.Clock.{ClockState, timers_of, cancel, cancel_number, due}
use Rattle.clock.specs.declared.Timing.{Timing}
use Rattle.clock.specs.declared.Timing.TheVariants as timing
use Rattle.clock.specs.declared.Due.{Due}
use Rattle.clock.specs.declared.Due.TheVariants as ran
use Rattle.session.specs.Sending.{SenderEnd, has_outstanding, oldest_outstanding, resent}
use Rattle.session.specs.declared.Sender.{Sender}
use Rattle.session.specs.declared.Timeout.{Timeout}
use Rattle.session.specs.declared.Timeout.TheVariants as timeout
use Rattle.submission.specs.Submission.{Outgoing, outgoing}
use Rattle.sending.specs.Retransmit.{ceiling_met, exhausted, RetransmitExit, retransmit_all}
use Rattle.sending.specs.declared.Resends.{Resends}

-- the sender, the estimator, what was sent again so far, and what a submission works on
pub record FireState : Type 0 where
  pub sender : SenderEnd
  pub estimator : RtoEstimator
  pub resends : Resends
  pub outgoing : Outgoing

abbrev pub fire_state : SenderEnd → RtoEstimator → Resends → Outgoing → FireState
fire_state v e r o = record { sender = v; estimator = e; resends = r; outgoing = o }

-- what a call leaves, whether it did something, and whether the run goes on
pub record FireExit : Type 0 where
  pub state : FireState
  pub progress : Bool
  pub stop : Option Stop

abbrev pub fire_exit : FireState → Bool → Option Stop → FireExit
fire_exit s progress st = record { state = s; progress = progress; stop = st }

abbrev pub with_resends : FireState → Resends → FireState
with_resends s r = fire_state s.sender s.estimator r s.outgoing

abbrev pub with_clock : FireState → ClockState → FireState
with_clock s c =
    let o = s.outgoing in
    fire_state s.sender s.estimator s.resends
    (outgoing o.forward o.metas o.written o.events c)

-- ---- a timeout: if the sender has something to send, the RTO is backed off once, and then it is sent
abbrev pub after_resending : SenderEnd → RtoEstimator → RetransmitExit → FireExit
after_resending v e x = fire_exit (fire_state v e x.resends x.outgoing) true x.stop

abbrev pub resending : ℕ → Timing → List Float → ℕ → List (List ℕ) → FireState → FireExit
resending limit t rolls now [] s = fire_exit s true (None)
resending limit t rolls now (packet ∷ packets) s =
    let e = on_timeout_unchecked s.estimator in
    after_resending s.sender e
    (retransmit_all limit t rolls e.current_rto now (oldest_outstanding s.sender.sender) (packet ∷ packets)
    s.resends s.outgoing)

unfoldable pub timed_out : ℕ → Timing → List Float → ℕ → Timeout → FireState → FireExit
timed_out limit t rolls now of s =
    let x = resent s.sender of in
    resending limit t rolls now x.packets (fire_state x.after s.estimator s.resends s.outgoing)

-- ---- the single timer is stopped before anything is sent; the source's sends all outstanding numbers again, the
-- edition clock's the earliest (RFC 6298, 5.4)
abbrev pub timeout_of : Timing → Timeout
timeout_of timing.Single = timeout.All
timeout_of timing.PerNumber = timeout.All
timeout_of timing.Edition = timeout.Earliest

abbrev pub stopped : ClockState → ClockState
stopped c = timers_exit (cancel c.answer) c.keys c.deadlines

abbrev pub fire_single : ℕ → Timing → List Float → ℕ → FireState → FireExit
fire_single limit t rolls now s = timed_out limit t rolls now (timeout_of t) (with_clock s (stopped s.outgoing.clock))

-- ---- one number's timer
unfoldable pub fire_number : ℕ → List Float → ℕ → ℕ → FireState → FireExit
fire_number limit rolls now n s =
    timed_out limit timing.PerNumber rolls now (timeout.Number n) (with_clock s (cancel_number s.outgoing.clock n))

-- one after the other; the ceiling is looked at before each
unfoldable pub fire_numbers : ℕ → List Float → ℕ → List ℕ → FireState → FireExit
fire_numbers limit rolls now [] s = fire_exit s true (None)
fire_numbers limit rolls now (n ∷ ns) s =
    let x = fire_number limit rolls now n s in
    cond (ceiling_met limit s.resends) (fire_exit (with_resends s (exhausted s.resends)) true (None))
    (cond (is_going x.stop) (fire_numbers limit rolls now ns x.state) x)

-- the numbers whose timers have run out, ascending
abbrev pub expired : ClockState → ℕ → List ℕ
expired c now = due_keys now (used (timers_of c) c.keys c.deadlines)

-- ---- `fire_timers`
abbrev pub by_due : Due → ℕ → Timing → List Float → ℕ → FireState → FireExit
by_due ran.Nothing limit t rolls now s = fire_exit s false (None)
by_due ran.Idle limit t rolls now s = fire_exit (with_clock s (stopped s.outgoing.clock)) true (None)
by_due ran.Single limit t rolls now s = fire_single limit t rolls now s
by_due ran.Numbers limit t rolls now s = fire_numbers limit rolls now (expired s.outgoing.clock now) s

-- exhausted where the ceiling is met, even with nothing due
unfoldable pub fire_timers : ℕ → Timing → List Float → ℕ → FireState → FireExit
fire_timers limit t rolls now s =
    cond (ceiling_met limit s.resends) (fire_exit (with_resends s (exhausted s.resends)) false (None))
    (by_due (due t s.outgoing.clock now (has_outstanding s.sender.sender)) limit t rolls now s)

-- whether it has something to do
abbrev pub has_run : Due → Bool
has_run ran.Nothing = false
has_run ran.Idle = true
has_run ran.Single = true
has_run ran.Numbers = true

abbrev pub timers_due : ℕ → Timing → ℕ → Sender → Resends → ClockState → Bool
timers_due limit t now v r c = ceiling_met limit r || has_run (due t c now (has_outstanding v))
