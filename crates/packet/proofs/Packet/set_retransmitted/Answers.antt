use Rattle.packet.proofs.Types.{bit_0_set}
use Rattle.packet.proofs.Packet.set_retransmitted.Goals as goal

pub returns : goal.returns
returns c = rw bit_0_set
