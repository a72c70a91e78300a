use mathlib.Core.Path.{sym, ◌∙◌}
use Rattle.host_ends.specs.Sender.{number_in}
use Rattle.host_ends.proofs.number_of.Goals as goal

pub returns-in-Ok : goal.returns-in-Ok
unfolding number_in
returns-in-Ok c = rw (sym c.from_bytes.ensures ∙ c.in-Ok.is)

pub returns-in-Err : goal.returns-in-Err
unfolding number_in
returns-in-Err c = rw (sym c.from_bytes.ensures ∙ c.in-Err.is)
