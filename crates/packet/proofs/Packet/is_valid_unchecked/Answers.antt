use Rattle.packet.specs.Format.{matches}
use Rattle.packet.proofs.Packet.is_valid_unchecked.Goals as goal

pub returns : goal.returns
unfolding matches
returns c = rw c.compute_checksum_unchecked.ensures
