use mathlib.Core.Path.{sym, ◌∙◌}
use Rattle.host_packet.specs.Packet.{read_code}
use Rattle.host_packet.proofs.read.Goals as goal

pub returns-in-Ok : goal.returns-in-Ok
unfolding read_code
returns-in-Ok c = rw (sym c.from_bytes.ensures ∙ c.in-Ok.is, c.pack_unchecked.ensures, c.header_value.ensures)

pub returns-in-Err : goal.returns-in-Err
unfolding read_code
returns-in-Err c = rw (sym c.from_bytes.ensures ∙ c.in-Err.is, c.refusal_answer.ensures)
