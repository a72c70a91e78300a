-- app/transfer.rs, `run_transfer`: one round at one moment, and where nothing happened in it the move to the next
-- deadline.
use Rattle.std.specs.Prelude.{ℕ, ◌-◌, cond, ◌||◌, List, eqb}
use Rattle.arrivals.specs.Arrivals.{serve_arrivals}
use Rattle.departures.specs.Departures.{send_due}
use Rattle.step.specs.State.{Given, chunks_for, RunState, fire_of, with_arrivals, with_fired, exhausted, at}
use Rattle.step.specs.Settle.{StepExit, step_exit, over, unless_stopped, settle}
use Rattle.step.specs.declared.Plan.{Plan}
use Rattle.step.specs.declared.End.TheVariants as end
use Rattle.step.specs.declared.Course.TheVariants.{Going}

abbrev pub round_less : RunState → RunState
round_less s = at s s.time s.moves (s.rounds - 1)

-- of any list of chunks
unfoldable pub step_for : List (List ℕ) → Plan → Given → RunState → StepExit
step_for chunks p g s =
    let now = s.time in
    let a = serve_arrivals p.timing g.reverse_rolls p.total_chunks now s.arrivals in
    let s1 = with_arrivals (round_less s) a.state in
    let d = send_due p.max_retransmissions p.timing g.forward_rolls chunks now (fire_of s1) in
    let s2 = with_fired s1 d.state in
    cond (eqb s.rounds 0) (over (exhausted s) end.Ended now)
    (unless_stopped a.stop s1
    (unless_stopped d.stop s2
    (cond s2.resends.exhausted (over s2 end.Ended now)
    (cond (a.progress || d.progress) (step_exit s2 Going) (settle p s2)))))

-- of the file's
abbrev pub step : Plan → Given → RunState → StepExit
step p g s = step_for (chunks_for p g) p g s
