use Rattle.packet.proofs.Packet.compute_and_set_checksum_unchecked.Goals as goal

pub returns : goal.returns
returns c = rw c.compute_checksum_unchecked.ensures
