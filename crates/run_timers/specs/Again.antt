-- app/transfer.rs, `fire_timers`: a packet is sent again where a timer has run out, and only there.
use Rattle.std.specs.Prelude.{ℕ, ◌<◌, ◌≡◌, true, List, ◌∷◌}
use Rattle.timer.specs.Timer.{expired_at}
use Rattle.clock.specs.Clock.{timer_of}
use Rattle.clock.specs.declared.Timing.{Timing}
use Rattle.clock.specs.declared.Timing.TheVariants.{PerNumber}
use Rattle.session.specs.Sending.{has_outstanding}
use Rattle.timeouts.specs.Timeouts.{expired}
use Rattle.arrivals.specs.Arrivals.{ArrivalState, serve_arrivals}
use Rattle.step.specs.State.{Given, RunState}
use Rattle.step.specs.Step.{step}
use Rattle.step.specs.declared.Plan.{Plan}
use Rattle.step.specs.declared.Course.TheVariants.{Going}

-- the single timer with a number outstanding, or the timer of a number
pub data RanOut (t : Timing) (now : ℕ) (a : ArrivalState) : Type 0 where
  single : (t ≡ PerNumber → ⊥) → expired_at (timer_of a.clock).deadline now ≡ true
      → has_outstanding a.sender.sender ≡ true → RanOut t now a
  number : t ≡ PerNumber → (n : ℕ) (more : List ℕ) → expired a.clock now ≡ n ∷ more → RanOut t now a

-- what a step from s finds after the arrivals of its moment
abbrev pub arrived : Plan → Given → RunState → ArrivalState
arrived p g s = (serve_arrivals p.timing g.reverse_rolls p.total_chunks s.time s.arrivals).state

-- of a step from s, however it ends
abbrev pub AgainOnlyDue : Plan → Given → RunState → Type 0
AgainOnlyDue p g s = s.resends.retx_submitted < (step p g s).state.resends.retx_submitted
    → RanOut p.timing s.time (arrived p g s)

-- of a step from s that goes on
abbrev pub AgainWhereDue : Plan → Given → RunState → Type 0
AgainWhereDue p g s = (step p g s).course ≡ Going → RanOut p.timing s.time (arrived p g s)
    → s.resends.retx_submitted < (step p g s).state.resends.retx_submitted
