use Rattle.packet.proofs.Types.{bit_0_is}
use Rattle.packet.proofs.Packet.is_retransmitted.Goals as goal

pub returns : goal.returns
returns c = bit_0_is c.args.self.flags
