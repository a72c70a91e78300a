use mathlib.Core.Path.{sym, ap}
use Rattle.packet.specs.declared.PacketType.{PacketType}
use Rattle.receiving.specs.Internal.{data_arrival}
use Rattle.receiving.proofs.data_arrival.Goals as goal

pub returns-in-Data : goal.returns-in-Data
returns-in-Data c = ap (λ (t : PacketType). data_arrival t c.args.packet c.args.valid) (sym c.in-Data.is)
