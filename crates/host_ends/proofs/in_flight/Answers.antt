use mathlib.Core.Path.{sym, ◌∙◌}
use Rattle.host_ends.specs.Sender.{in_flight_held}
use Rattle.host_ends.proofs.in_flight.Goals as goal

pub returns-in-Some : goal.returns-in-Some
unfolding in_flight_held
returns-in-Some c = rw ((sym c.held_sender.ensures ∙ c.in-Some.is), c.in_flight_in.ensures)

pub returns-in-None : goal.returns-in-None
unfolding in_flight_held
returns-in-None c = rw ((sym c.held_sender.ensures ∙ c.in-None.is), c.refusal_answer.ensures)
