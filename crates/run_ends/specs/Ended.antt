-- app/transfer.rs, `run_transfer`: why and when a run ended as the source's does, by its last step.
use Rattle.std.specs.Prelude.{ℕ, ◌≤◌, ◌<◌, ◌≡◌, Bool, true, ◌⊎◌, None, Option, Some}
use Rattle.window.specs.State.{outstanding}
use Rattle.clock.specs.Clock.{timer_of}
use Rattle.clock.specs.declared.Timing.TheVariants.{Single}
use Rattle.session.specs.Sending.{window_of}
use Rattle.step.specs.State.{Given, RunState, exhausted}
use Rattle.step.specs.Settle.{StepExit, finishing_time, sender_idle, next_deadline}
use Rattle.step.specs.declared.Plan.{Plan}
use Rattle.transfer.specs.Transfer.{finished_at}
use Rattle.edition_clock.specs.AlongARun.{LastStep}

-- all chunks sent and acknowledged, nothing on the lines, no number has a timer
abbrev pub is_idle : Plan → RunState → Bool
is_idle p s =
    let a = s.arrivals in
    sender_idle p.total_chunks a.sender.sender a.forward.path a.inbound.reverse.path a.clock.answer

-- the earliest of both lines and of the timers
abbrev pub next_time : Plan → RunState → Option ℕ
next_time p s =
    let a = s.arrivals in
    next_deadline p.timing a.forward a.inbound.reverse a.clock

-- every chunk was sent, or the window has no space
abbrev pub NothingToSend : Plan → RunState → Type 0
NothingToSend p s =
    let w = window_of s.arrivals.sender.sender in
    (p.total_chunks ≤ w.next_seq_num) ⊎ (w.window_size ≤ outstanding w)

-- the source's single timer has run out with nothing outstanding: nothing is sent, and the time doesn't move
pub record TimerPast (p : Plan) (s : RunState) : Type 0 where
  pub single : p.timing ≡ Single
  pub none : (window_of s.arrivals.sender.sender).next_seq_num
      ≤ (window_of s.arrivals.sender.sender).send_base
  pub deadline : ℕ
  pub set : (timer_of s.arrivals.clock).deadline ≡ Some deadline
  pub past : deadline ≤ s.time

-- the next deadline is past the limit
pub record PastLimit (p : Plan) (s : RunState) : Type 0 where
  pub deadline : ℕ
  pub next : next_time p s ≡ Some deadline
  pub past : p.max_virtual_time < deadline

-- The last step was one from u to s, and the run ended at a time: now, but at the limit where the next deadline is past
-- it. Completed with nothing left to do; as many packets sent again as may be; nothing that is due, or only past the
-- limit; no round left at this moment, and nothing done in the step; such a timer; the moments used up, after the move.
-- After every round nothing is left to send.
pub data EndedWhy (p : Plan) (u s : RunState) : ℕ → Type 0 where
  finished : s.arrivals.inbound.side.completed ≡ true → is_idle p s ≡ true → EndedWhy p u s s.time
  resends_used : s.resends.exhausted ≡ true → p.max_retransmissions ≤ s.resends.retx_submitted
      → EndedWhy p u s s.time
  nothing_due : NothingToSend p s → next_time p s ≡ None → EndedWhy p u s s.time
  past_limit : NothingToSend p s → PastLimit p s → EndedWhy p u s p.max_virtual_time
  rounds_used : u.rounds ≡ 0 → s ≡ exhausted u → (0 < p.rounds → NothingToSend p s) → EndedWhy p u s s.time
  timer_past : NothingToSend p s → TimerPast p s → EndedWhy p u s s.time
  moments_used : NothingToSend p s → u.moves ≡ 0 → u.time < s.time → next_time p s ≡ Some s.time
      → EndedWhy p u s s.time

-- of a run from s; it finishes at that time, a completed one at its completion
pub record EndedSo (p : Plan) (g : Given) (s : RunState) (x : StepExit) : Type 0 where
  pub step : LastStep p g s x
  pub time : ℕ
  pub why : EndedWhy p step.before x.state time
  pub finishes : finished_at x.course ≡ finishing_time x.state time
