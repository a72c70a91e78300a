-- The timers of a run beside its sender: each number that has one is outstanding and not acknowledged.
use Rattle.std.specs.Prelude.{ℕ, ◌≤◌, ◌<◌, ◌≡◌, true, length}
use Rattle.multi_timer.specs.Map.{lookup, is_some}
use Rattle.multi_timer.specs.MultiTimer.{used}
use Rattle.window.specs.declared.SendWindow.{SendWindow}
use Rattle.session.specs.Sending.{SenderEnd, window_of, is_due}
use Rattle.clock.specs.Clock.{ClockState, timers_of}
use Rattle.clock.specs.declared.Timing.{Timing}
use Rattle.clock.specs.declared.Timing.TheVariants.{PerNumber}

-- the number has a timer
abbrev pub HasTimer : ClockState → ℕ → Type 0
HasTimer c key = is_some (lookup key (used (timers_of c) c.keys c.deadlines)) ≡ true

-- each number that has a timer is outstanding
abbrev pub TimersWithin : SendWindow → ClockState → Type 0
TimersWithin w c = (key : ℕ) → HasTimer c key → (w.send_base ≤ key) × (key < w.next_seq_num)

-- on the timing of a single timer no number has one; else there is an entry for each number of the window
pub record GoodTimers (t : Timing) (v : SenderEnd) (c : ClockState) : Type 0 where
  pub due : (key : ℕ) → HasTimer c key → is_due v key ≡ true
  pub none : (t ≡ PerNumber → ⊥) → (key : ℕ) → HasTimer c key → ⊥
  pub entries : t ≡ PerNumber → (window_of v.sender).window_size ≤ length c.keys
