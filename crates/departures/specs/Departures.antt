-- app/transfer.rs, `run_transfer`: at a moment `fire_timers`, and then `pump_sends`.
use Rattle.std.specs.Prelude.{ℕ, ◌≤◌, ◌<◌, ◌≡◌, Bool, cond, not, ◌&&◌, ◌||◌, List, Float, length}
use Rattle.bounds.specs.Bounds.{max_chunks, max_payload}
use Rattle.chunks.specs.Chunks.{chunks_of}
use Rattle.path.specs.Path.{is_going}
use Rattle.clock.specs.declared.Timing.{Timing}
use Rattle.session.specs.Sending.{window_of}
use Rattle.sending.specs.Sending.{PumpState, pump_state, PumpExit, pump_sends}
use Rattle.timeouts.specs.Timeouts.{FireState, fire_state, FireExit, fire_exit, fire_timers}
use Rattle.timeouts.specs.Good.{CanFire}

abbrev pub pump_of : FireState → PumpState
pump_of s = pump_state s.sender s.outgoing

abbrev pub with_pumped : FireState → PumpState → FireState
with_pumped s x = fire_state x.sender s.estimator s.resends x.outgoing

abbrev pub pumped : FireExit → PumpExit → FireExit
pumped x y = fire_exit (with_pumped x.state y.state) (x.progress || y.progress) y.stop

-- no chunk is sent where a packet of the timers ended the run, or it is exhausted
abbrev pub is_going_on : FireExit → Bool
is_going_on x = is_going x.stop && not x.state.resends.exhausted

unfoldable pub send_due : ℕ → Timing → List Float → List (List ℕ) → ℕ → FireState → FireExit
send_due limit t rolls chunks now s =
    let x = fire_timers limit t rolls now s in
    let rto = x.state.estimator.current_rto in
    cond (is_going_on x) (pumped x (pump_sends t rolls chunks rto now (pump_of x.state))) x

-- what the timers ask, and of a file of `total` chunks: every chunk has a row for its note
pub record CanSendDue (t : Timing) (rolls : List Float) (size : ℕ) (file : List ℕ) (total now : ℕ)
    (s : FireState) : Type 0 where
  pub fire : CanFire t rolls now s
  pub next : (window_of s.sender.sender).next_seq_num ≤ total
  pub few : total ≤ max_chunks
  pub rows : total ≤ length s.outgoing.metas.rows
  pub some : 0 < size
  pub short : size ≤ max_payload
  pub whole : total ≡ length (chunks_of size file)
