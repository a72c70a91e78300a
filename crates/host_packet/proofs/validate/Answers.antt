use mathlib.Core.Path.{sym, ◌∙◌}
use Rattle.host_packet.specs.Packet.{validity_code}
use Rattle.refusal.proofs.Laws.{ok_is}
use Rattle.host_packet.proofs.validate.Goals as goal

pub returns-in-Ok-true : goal.returns-in-Ok-true
unfolding validity_code
returns-in-Ok-true c = rw (sym c.is_valid.ensures ∙ ok_is c.in-Ok-true.is c.in-Ok-true.field-0-test, c.pack_unchecked.ensures)

pub returns-in-Ok-false : goal.returns-in-Ok-false
unfolding validity_code
returns-in-Ok-false c = rw (sym c.is_valid.ensures ∙ ok_is c.in-Ok-false.is c.in-Ok-false.field-0-test, c.pack_unchecked-in-Ok-false.ensures)

pub returns-in-Err : goal.returns-in-Err
unfolding validity_code
returns-in-Err c = rw (sym c.is_valid.ensures ∙ c.in-Err.is, c.refusal_answer.ensures)
