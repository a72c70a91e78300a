use mathlib.Core.Path.{refl}
use lib.ListN.{length}
use Rattle.packet.specs.Format.{header_bytes, datagram}
use Rattle.octets.proofs.Laws.{front_written}
use Rattle.packet.proofs.Packet.to_bytes_unchecked.Goals as goal

pub returns : goal.returns
unfolding datagram header_bytes
returns c = let a = c.args in
    front_written (header_bytes a.self (length a.payload.now) a.self.checksum) a.payload.now c.copy_unchecked.new.dst a.out.now _ 10 refl c.put_header.ensures c.copy_unchecked.ensures
