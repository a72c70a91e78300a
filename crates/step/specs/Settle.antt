-- app/transfer.rs, `run_transfer`: how a run ends, and where nothing is left to do at a moment the move to the next
-- deadline: `sender_idle`, `next_deadline`.
use Rattle.std.specs.Prelude.{ℕ, ◌-◌, min, Bool, cond, not, ◌&&◌, ltb, leb, eqb, None, Option, Some}
use Rattle.path.specs.Path.{is_empty}
use Rattle.path.specs.Path as path
use Rattle.path.specs.Direction.{Direction}
use Rattle.path.specs.declared.Path.{Path}
use Rattle.path.specs.declared.Stop.{Stop}
use Rattle.path.specs.declared.Stop.TheVariants as stop
use Rattle.clock.specs.Clock.{ClockState}
use Rattle.clock.specs.Clock as clock
use Rattle.clock.specs.declared.Clock.{Clock}
use Rattle.clock.specs.declared.Timing.{Timing}
use Rattle.session.specs.Sending.{window_of, has_outstanding}
use Rattle.session.specs.declared.Sender.{Sender}
use Rattle.step.specs.State.{RunState, exhausted, at}
use Rattle.step.specs.declared.Plan.{Plan}
use Rattle.step.specs.declared.End.{End}
use Rattle.step.specs.declared.End.TheVariants as end
use Rattle.step.specs.declared.Course.{Course}
use Rattle.step.specs.declared.Course.TheVariants.{Going, Over}

-- what a step leaves, and whether the run goes on, or how and when it ended
pub record StepExit : Type 0 where
  pub state : RunState
  pub course : Course

abbrev pub step_exit : RunState → Course → StepExit
step_exit s c = record { state = s; course = c }

-- the finishing time: the completion's, if there was one
abbrev pub finishing_time : RunState → ℕ → ℕ
finishing_time s time =
    let x = s.arrivals.inbound.side in
    cond x.completed x.completed_at time

abbrev pub over : RunState → End → ℕ → StepExit
over s e time = step_exit s (Over e (finishing_time s time))

abbrev pub end_by : Stop → End
end_by stop.RollsSpent = end.RollsSpent
end_by stop.EventsFull = end.EventsFull
end_by stop.ScheduleFull = end.ScheduleFull

-- a packet that can't be carried ends the run
abbrev pub unless_stopped : Option Stop → RunState → StepExit → StepExit
unless_stopped None s rest = rest
unless_stopped (Some why) s rest = over s (end_by why) s.time

-- ---- `sender_idle`: all chunks sent and acknowledged, nothing on the lines, no number has a timer
unfoldable pub sender_idle : ℕ → Sender → Path → Path → Clock → Bool
sender_idle total sender forward reverse clock =
    not (ltb (window_of sender).next_seq_num total)
    && (is_empty forward
    && (is_empty reverse && (not (has_outstanding sender) && eqb clock.timers.count 0)))

-- ---- `next_deadline`: the earliest of both directions and of the timers
abbrev pub of_path : Option ℕ → Option ℕ
of_path d = d

abbrev pub earlier : Option ℕ → Option ℕ → Option ℕ
earlier None d = d
earlier (Some t) None = Some t
earlier (Some t) (Some u) = Some (min t u)

unfoldable pub next_deadline : Timing → Direction → Direction → ClockState → Option ℕ
next_deadline t forward reverse c =
    earlier (of_path (path.next_deadline forward.path forward.records))
    (earlier (of_path (path.next_deadline reverse.path reverse.records)) (clock.next_deadline t c))

-- ---- a moment in which nothing is left to do: the end, or the move to the next deadline, with all rounds again
abbrev pub moved : Plan → RunState → ℕ → StepExit
moved p s time =
    cond (eqb s.moves 0) (over (at s time s.moves s.rounds) end.Ended time)
    (step_exit (at s time (s.moves - 1) p.rounds) Going)

-- a deadline that is not later than now ends the run as exhausted, one past the limit at the limit
abbrev pub move_to : Plan → RunState → Option ℕ → StepExit
move_to p s None = over s end.Ended s.time
move_to p s (Some t) =
    cond (leb t s.time) (over (exhausted s) end.Ended s.time)
    (cond (ltb p.max_virtual_time t) (over s end.Ended p.max_virtual_time) (moved p s t))

unfoldable pub settle : Plan → RunState → StepExit
settle p s =
    let a = s.arrivals in
    let forward = a.forward in
    let reverse = a.inbound.reverse in
    let idle = sender_idle p.total_chunks a.sender.sender forward.path reverse.path a.clock.answer in
    cond (a.inbound.side.completed && idle) (over s end.Ended s.time)
    (move_to p s (next_deadline p.timing forward reverse a.clock))
