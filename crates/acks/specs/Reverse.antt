-- What is due on the reverse line: `while let Some(bytes) = pop_ready_at(now)`, each to `on_ack` (`app/transfer.rs`,
-- `run_transfer`).
use Rattle.std.specs.Prelude.{ℕ, zero, suc, ◌+◌, ◌≤◌, ◌≡◌, Bool, true, false, cond}
use Rattle.bounds.specs.Bounds.{count_limit}
use Rattle.schedule.specs.State.{waiting_records, state_broken, held_late, Cleared}
use Rattle.path.specs.Direction.{Direction, schedule_of}
use Rattle.path.specs.Path.{left_by_take, take_ready, packet_buffer, is_taken, taken_bytes}
use Rattle.clock.specs.declared.Timing.{Timing}
use Rattle.acks.specs.Acks.{AckState, on_ack}
use Rattle.acks.specs.Good.{GoodAcks}

-- what is left, and whether a copy was handed over
pub record ServeExit : Type 0 where
  pub reverse : Direction
  pub state : AckState
  pub progress : Bool

abbrev pub serve_exit : Direction → AckState → Bool → ServeExit
serve_exit d s progress = record { reverse = d; state = s; progress = progress }

-- something was handed over
abbrev pub progressed : ServeExit → ServeExit
progressed x = serve_exit x.reverse x.state true

-- at most n copies
unfoldable pub serve_at_most : ℕ → Timing → ℕ → Direction → AckState → ServeExit
serve_at_most zero timing now d s = serve_exit d s false
serve_at_most (suc n) timing now d s =
    let t = take_ready d now packet_buffer in
    let after = on_ack timing now (taken_bytes t.result.answer t.out) s in
    cond (is_taken t.result.answer) (progressed (serve_at_most n timing now (left_by_take t) after))
    (serve_exit d s false)

-- no more than wait
abbrev pub serve_reverse : Timing → ℕ → Direction → AckState → ServeExit
serve_reverse timing now d s = serve_at_most d.path.scheduler.count timing now d s

-- the schedule and its times are within bounds, its places are zeros where no packet lies, and its copies are too few
-- for a count
pub record CanServeReverse (d : Direction) (s : AckState) (now : ℕ) : Type 0 where
  pub sound : state_broken (schedule_of d) ≡ false
  pub times : held_late (waiting_records (schedule_of d)) ≡ false
  pub cleared : Cleared (schedule_of d)
  pub good : GoodAcks s now
  pub few : s.received + d.path.scheduler.count ≤ count_limit
