-- RFC 6298, section 5, of the edition clock, in the RFC's order; and where the source's own timing does the same.
use Rattle.std.specs.Prelude.{None, Some}
use Prim.Native.Nat.{ℕ, ◌+◌, ◌*◌}
use mathlib.Core.Path.{◌≡◌, refl}
use mathlib.Core.Bool.{Bool, true, false}
use Rattle.timer.specs.Timer.{expired_at, started_at_unchecked, cancelled_unchecked}
use Rattle.rto.specs.Rto.{limited, on_timeout_unchecked}
use Rattle.rto.specs.declared.RtoEstimator.{RtoEstimator}
use Rattle.notes.specs.Notes.{SegMetas}
use Rattle.clock.specs.EditionClock.{is_running, on_send, on_ack}
use Rattle.clock.specs.Clock.{ClockState, timer_of, with_timer, arm_oldest, Submission, arm_after_submit, Accepted, rearm_after_ack, cancel, due}
use Rattle.clock.specs.declared.Clock.{Clock}
use Rattle.clock.specs.declared.Timing.TheVariants.{Single, Edition}
use Rattle.clock.specs.declared.Due as ran

module _ (s : ClockState) (m : SegMetas) where
  -- (5.1): a packet that is sent, also again, starts a timer that isn't running, to expire after the RTO
  pub rfc_5_1 : (x : Submission) → is_running (timer_of s) ≡ false → (timer_of (arm_after_submit Edition s m x)).deadline ≡ Some (x.time + x.rto)
  unfolding arm_after_submit on_send started_at_unchecked
  rfc_5_1 x e = rw e

  -- and leaves one that is
  pub rfc_5_1_running : (x : Submission) → is_running (timer_of s) ≡ true → arm_after_submit Edition s m x ≡ s
  unfolding arm_after_submit on_send
  rfc_5_1_running x e = rw e

  -- (5.3): an ACK of new data restarts it, to expire after the current RTO
  pub rfc_5_3 : (x : Accepted) → {seq : ℕ} → x.oldest ≡ Some seq → (timer_of (rearm_after_ack Edition s m x)).deadline ≡ Some (x.time + x.rto)
  unfolding rearm_after_ack on_ack started_at_unchecked
  rfc_5_3 x e = rw e

  -- (5.2), from which document 01 departs: with nothing outstanding it runs on, restarted
  pub departs_5_2 : (x : Accepted) → x.oldest ≡ None → (timer_of (rearm_after_ack Edition s m x)).deadline ≡ Some (x.time + x.rto)
  unfolding rearm_after_ack on_ack started_at_unchecked
  departs_5_2 x e = rw e

  -- the source's own timing follows (5.2)
  pub single_5_2 : (x : Accepted) → x.oldest ≡ None → (timer_of (rearm_after_ack Single s m x)).deadline ≡ None
  unfolding rearm_after_ack arm_oldest cancelled_unchecked
  single_5_2 x e = rw e

-- ---- an expiry
module _ (s : ClockState) (now : ℕ) where
  -- with something outstanding it calls for (5.4) to (5.6)
  pub expiry_due : expired_at (timer_of s).deadline now ≡ true → due Edition s now true ≡ ran.TheVariants.Single
  unfolding due
  expiry_due e = rw e

  -- with nothing outstanding only for a stop: the other half of the departure
  pub expiry_idle : expired_at (timer_of s).deadline now ≡ true → due Edition s now false ≡ ran.TheVariants.Idle
  unfolding due
  expiry_idle e = rw e

  pub not_due : (outstanding : Bool) → expired_at (timer_of s).deadline now ≡ false → due Edition s now outstanding ≡ ran.TheVariants.Nothing
  unfolding due
  not_due outstanding e = rw e

pub stopped : (c : Clock) → (cancel c).timer.deadline ≡ None
unfolding cancel cancelled_unchecked
stopped c = refl

-- (5.4) to (5.6), the clock's part: the timer is stopped, the RTO doubled within its limits, and the packet that is then
-- sent starts the timer with the doubled RTO
pub rfc_5_6 : (s : ClockState) (m : SegMetas) (e : RtoEstimator) (x : Submission) → x.rto ≡ (on_timeout_unchecked e).current_rto
    → (timer_of (arm_after_submit Edition (with_timer s (cancelled_unchecked (timer_of s))) m x)).deadline ≡ Some (x.time + limited e.config (e.current_rto * 2))
unfolding arm_after_submit on_send started_at_unchecked cancelled_unchecked on_timeout_unchecked
rfc_5_6 s m e x p = rw p

-- the RFC sends first, (5.4), then doubles and starts: the timer is the same
pub rfc_5_6_timer : (s : ClockState) (m : SegMetas) (x : Submission)
    → timer_of (arm_after_submit Edition (with_timer s (cancelled_unchecked (timer_of s))) m x) ≡ started_at_unchecked (cancelled_unchecked (timer_of s)) x.time x.rto
unfolding arm_after_submit on_send cancelled_unchecked
rfc_5_6_timer s m x = refl
