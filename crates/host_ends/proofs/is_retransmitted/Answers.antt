use mathlib.Core.Path.{sym, ◌∙◌}
use Rattle.host_ends.specs.Sender.{is_retransmitted_held}
use Rattle.host_ends.proofs.is_retransmitted.Goals as goal

pub returns-in-Some : goal.returns-in-Some
unfolding is_retransmitted_held
returns-in-Some c = rw (sym c.held_sender.ensures ∙ c.in-Some.is, c.is_retransmitted_in.ensures)

pub returns-in-None : goal.returns-in-None
unfolding is_retransmitted_held
returns-in-None c = rw (sym c.held_sender.ensures ∙ c.in-None.is, c.refusal_answer.ensures)
