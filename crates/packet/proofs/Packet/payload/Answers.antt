use mathlib.Core.Path.{sym, ◌∙◌}
use Rattle.packet.proofs.Read.{declared_within, read_packet, read_refused, payload_none}
use Rattle.packet.proofs.Datagrams.{payload_part_lem}
use Rattle.packet.proofs.Packet.payload.Goals as goal

pub payload_unchecked-requires : goal.payload_unchecked-requires
payload_unchecked-requires c = declared_within _ (read_packet _ _ (sym c.from_bytes.ensures ∙ c.in-Ok.is))

pub returns-in-Ok : goal.returns-in-Ok
returns-in-Ok c = c.payload_unchecked.ensures ∙ payload_part_lem _ _ (sym c.from_bytes.ensures ∙ c.in-Ok.is)

pub returns-in-Err : goal.returns-in-Err
returns-in-Err c = sym (payload_none _ (read_refused _ _ (sym c.from_bytes.ensures ∙ c.in-Err.is)))
