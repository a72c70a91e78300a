-- The second half of a round, which finish_round does: what the timers and the window send, and how the round ends.
use Rattle.std.specs.Prelude.{Bool, cond, ◌||◌}
use Rattle.timeouts.specs.Timeouts.{FireExit}
use Rattle.departures.specs.Departures.{send_due}
use Rattle.step.specs.State.{Given, chunks_for, RunState, fire_of, with_fired}
use Rattle.step.specs.Settle.{StepExit, step_exit, over, unless_stopped, settle}
use Rattle.step.specs.declared.Plan.{Plan}
use Rattle.step.specs.declared.End.TheVariants as end
use Rattle.step.specs.declared.Course.TheVariants.{Going}

abbrev pub sending : Plan → Given → RunState → FireExit
sending p g u =
    send_due p.max_retransmissions p.timing g.forward_rolls (chunks_for p g) u.time (fire_of u)

-- `some`: whether something arrived
abbrev pub ended : Plan → Bool → RunState → FireExit → StepExit
ended p some u d =
    let v = with_fired u d.state in
    unless_stopped d.stop v
    (cond v.resends.exhausted (over v end.Ended u.time)
    (cond (some || d.progress) (step_exit v Going) (settle p v)))

unfoldable pub finish_round : Plan → Given → Bool → RunState → StepExit
finish_round p g some u = ended p some u (sending p g u)
