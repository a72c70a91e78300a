use mathlib.Core.Path.{sym, ◌∙◌}
use Rattle.host_ends.specs.Sender.{can_send_held}
use Rattle.host_ends.proofs.can_send.Goals as goal

pub returns-in-Some : goal.returns-in-Some
unfolding can_send_held
returns-in-Some c = rw ((sym c.held_sender.ensures ∙ c.in-Some.is), c.test_answer.ensures, c.can_send_in.ensures)

pub returns-in-None : goal.returns-in-None
unfolding can_send_held
returns-in-None c = rw ((sym c.held_sender.ensures ∙ c.in-None.is), c.refusal_answer.ensures)
