use mathlib.Core.Path.{sym, ap, ◌∙◌}
use Rattle.packet.specs.Reading.{try_from}
use Rattle.host_answer.specs.Answer.{count_answer}
use Rattle.host_packet.specs.Packet.{write_of}
use Rattle.host_packet.proofs.write.Goals as goal

pub returns-in-Ok : goal.returns-in-Ok
unfolding write_of
returns-in-Ok c = rw (sym (ap try_from c.min.ensures) ∙ sym c.try_from.ensures ∙ c.in-Ok.is) c.write_packet.ensures

pub returns-in-Err : goal.returns-in-Err
unfolding write_of count_answer
returns-in-Err c = rw (sym (ap try_from c.min.ensures) ∙ sym c.try_from.ensures ∙ c.in-Err.is, c.refusal_answer.ensures)
