use mathlib.Core.Path.{sym, ap}
use Rattle.packet.specs.declared.PacketType.{PacketType}
use Rattle.acks.specs.Acks.{of_type}
use Rattle.acks.proofs.number_of.Goals as goal

pub returns-in-Ack : goal.returns-in-Ack
returns-in-Ack c = ap (λ (t : PacketType). of_type t c.args.packet.seq_num) (sym c.in-Ack.is)
