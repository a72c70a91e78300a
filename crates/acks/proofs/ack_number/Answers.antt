use mathlib.Core.Path.{sym, ap, ◌∙◌}
use Rattle.acks.specs.Acks.{ack_number}
use Rattle.refusal.proofs.Laws.{ok_is}
use Rattle.acks.proofs.ack_number.Goals as goal

pub returns-in-Ok-Valid : goal.returns-in-Ok-Valid
returns-in-Ok-Valid c = c.number_of.ensures ∙ ap ack_number (sym (ok_is c.in-Ok-Valid.is c.in-Ok-Valid.field-0-is) ∙ c.read_datagram.ensures)

pub returns-in-Ok-Corrupted : goal.returns-in-Ok-Corrupted
returns-in-Ok-Corrupted c = ap ack_number (sym (ok_is c.in-Ok-Corrupted.is c.in-Ok-Corrupted.field-0-is) ∙ c.read_datagram.ensures)

pub returns-in-Err : goal.returns-in-Err
returns-in-Err c = ap ack_number (sym c.in-Err.is ∙ c.read_datagram.ensures)
