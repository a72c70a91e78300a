use mathlib.Core.Path.{sym, ◌∙◌}
use Rattle.host_ends.specs.Receiver.{buffered_count_held}
use Rattle.host_ends.proofs.buffered_count.Goals as goal

pub returns-in-Some : goal.returns-in-Some
unfolding buffered_count_held
returns-in-Some c = rw (sym c.held_receiver.ensures ∙ c.in-Some.is, c.count_answer.ensures, c.buffered_count_in.ensures)

pub returns-in-None : goal.returns-in-None
unfolding buffered_count_held
returns-in-None c = rw (sym c.held_receiver.ensures ∙ c.in-None.is, c.refusal_answer.ensures)
