-- app/transfer.rs, `arm_after_submit`, `arm_oldest`, `rearm_after_ack`: whatever is outstanding has a timer; on the
-- source's timing nothing else has one.
use Rattle.std.specs.Prelude.{ℕ, ◌+◌, ◌*◌, ◌≤◌, ◌<◌, max, ◌≡◌, true, false, Some, Option}
use Rattle.bounds.specs.Bounds.{max_duration}
use Rattle.protocol.specs.declared.ProtocolType.TheVariants.{StopAndWait}
use Rattle.timer.specs.Timer.{active}
use Rattle.multi_timer.specs.Map.{lookup}
use Rattle.multi_timer.specs.MultiTimer.{used}
use Rattle.rto.specs.declared.RtoConfig.{RtoConfig}
use Rattle.store.specs.Numbers.{marked}
use Rattle.window.specs.declared.SendWindow.{SendWindow}
use Rattle.clock.specs.Clock.{ClockState, timer_of, timers_of}
use Rattle.clock.specs.Timers.{HasTimer}
use Rattle.clock.specs.declared.Timing.TheVariants.{Single, PerNumber}
use Rattle.session.specs.Sending.{window_of}
use Rattle.setup.specs.declared.ClockChoice.{ClockChoice}
use Rattle.setup.specs.declared.ClockChoice.TheVariants.{Source, Edition}
use Rattle.setup.specs.declared.TransferConfig.{TransferConfig}
use Rattle.step.specs.State.{RunState}
use Rattle.step.specs.declared.Plan.{Plan}
use Rattle.transfer.specs.declared.Ceilings.{Ceilings}
use Rattle.edition_clock.specs.Section5.{min_rto}

-- a run's window of numbers that are sent and not released
abbrev pub window_in : RunState → SendWindow
window_in s = window_of s.arrivals.sender.sender

-- Selective Repeat: number n is outstanding, and its slot doesn't have the mark 2 of an acknowledged one
pub record Unacknowledged (s : RunState) (n : ℕ) : Type 0 where
  pub from : (window_in s).send_base ≤ n
  pub below : n < (window_in s).next_seq_num
  pub plain : marked 2 s.arrivals.sender.store (window_in s).window_size n ≡ false

-- the deadline of number n's timer, if it has one
abbrev pub deadline_for : ClockState → ℕ → Option ℕ
deadline_for c n = lookup n (used (timers_of c) c.keys c.deadlines)

-- the largest RTO that a run can come to
abbrev pub largest_rto : RtoConfig → ℕ
largest_rto r = max r.initial_rto r.max_rto

-- Between steps. Stop-and-Wait and Go-Back-N: the timer is set while a number is outstanding, on the source's timing
-- only then. Selective Repeat: exactly the unacknowledged numbers have a timer each. No timer is set further ahead than
-- the largest RTO.
pub record Timed (c : TransferConfig) (p : Plan) (s : RunState) : Type 0 where
  pub set : (p.timing ≡ PerNumber → ⊥) → (window_in s).send_base < (window_in s).next_seq_num
      → active (timer_of s.arrivals.clock).deadline ≡ true
  pub off : p.timing ≡ Single → (window_in s).next_seq_num ≤ (window_in s).send_base
      → active (timer_of s.arrivals.clock).deadline ≡ false
  pub each : p.timing ≡ PerNumber → (n : ℕ) → Unacknowledged s n → HasTimer s.arrivals.clock n
  pub only : p.timing ≡ PerNumber → (n : ℕ) → HasTimer s.arrivals.clock n → Unacknowledged s n
  pub near : (p.timing ≡ PerNumber → ⊥) → (d : ℕ) → (timer_of s.arrivals.clock).deadline ≡ Some d
      → d ≤ s.time + largest_rto c.rto
  pub each_near : p.timing ≡ PerNumber → (n d : ℕ) → deadline_for s.arrivals.clock n ≡ Some d
      → d ≤ s.time + largest_rto c.rto

-- Stop-and-Wait may send a packet again as often as it comes to it: at most as often as a run may send packets again,
-- on the edition clock once a second. Else it would come to wait without a timer, as the source's does.
abbrev pub suffices_on : ClockChoice → Ceilings → TransferConfig → Type 0
suffices_on Source k c = c.protocol ≡ StopAndWait → c.max_retransmissions ≤ k.retries
suffices_on Edition k c = max_duration < k.retries * min_rto

abbrev pub RetriesSuffice : Ceilings → TransferConfig → Type 0
RetriesSuffice k c = suffices_on c.clock k c
