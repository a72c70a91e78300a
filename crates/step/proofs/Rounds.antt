-- A step as what is left of it after each of its halves.
use Rattle.std.specs.Prelude.{None, Option, Some}
use mathlib.Core.Path.{◌≡◌, refl, sym, ap, ◌∙◌}
use mathlib.Core.Bool.{Bool, true, false, cond, not, ◌||◌, true≢false}
use lib.Dec.{eqb}
use Rattle.path.specs.Path.{is_going}
use Rattle.path.specs.declared.Stop.{Stop}
use Rattle.timeouts.specs.Timeouts.{FireExit}
use Rattle.arrivals.specs.Arrivals.{ArrivalExit, serve_arrivals}
use Rattle.departures.specs.Departures.{send_due}
use Rattle.step.specs.State.{Given, chunks_for, RunState, fire_of, with_arrivals, with_fired, exhausted}
use Rattle.step.specs.Settle.{StepExit, step_exit, over, unless_stopped, settle}
use Rattle.step.specs.Step.{round_less, step_for, step}
use Rattle.step.specs.declared.Plan.{Plan}
use Rattle.step.specs.declared.End.TheVariants as end
use Rattle.step.specs.declared.Course.TheVariants.{Going}

pub going_is : (st : Option Stop) → is_going st ≡ true → st ≡ None
going_is (None) e = refl
going_is (Some why) e = absurd (true≢false (sym e))

pub not_going : (b : Bool) → not b ≡ true → b ≡ false
not_going true n = absurd (true≢false (sym n))
not_going false n = refl

pub is_going_lem : (b : Bool) → not b ≡ false → b ≡ true
is_going_lem true n = refl
is_going_lem false n = absurd (true≢false n)

pub or_false : (b : Bool) → (b || false) ≡ b
or_false true = refl
or_false false = refl

module _ (p : Plan) (g : Given) (s : RunState) where
  -- ---- what is left of a step after each of its parts
  abbrev pub after_sending : Bool → RunState → FireExit → StepExit
  after_sending some u d =
      let v = with_fired u d.state in
      unless_stopped d.stop v (cond v.resends.exhausted (over v end.Ended s.time) (cond (some || d.progress) (step_exit v Going) (settle p v)))

  abbrev pub sends : RunState → FireExit
  sends u = send_due p.max_retransmissions p.timing g.forward_rolls (chunks_for p g) s.time (fire_of u)

  abbrev pub after_arriving : ArrivalExit → StepExit
  after_arriving a =
      let u = with_arrivals (round_less s) a.state in
      unless_stopped a.stop u (after_sending a.progress u (sends u))

  abbrev pub arrives : ArrivalExit
  arrives = serve_arrivals p.timing g.reverse_rolls p.total_chunks s.time s.arrivals

  pub step_is : step p g s ≡ cond (eqb s.rounds 0) (over (exhausted s) end.Ended s.time) (after_arriving arrives)
  unfolding step_for
  step_is = refl

  pub no_round : eqb s.rounds 0 ≡ true → {y : StepExit} → y ≡ over (exhausted s) end.Ended s.time → y ≡ step p g s
  no_round z e = e ∙ sym (step_is ∙ ap (λ (b : Bool). cond b (over (exhausted s) end.Ended s.time) (after_arriving arrives)) z)
