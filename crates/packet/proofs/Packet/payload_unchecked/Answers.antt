use native.Mathlib.Nat.{add-sub_cancel_left}
use Rattle.packet.specs.Reading.{payload_part}
use Rattle.packet.proofs.Packet.payload_unchecked.Goals as goal

pub returns : goal.returns
unfolding payload_part
returns c = simp (c.be16.ensures, add-sub_cancel_left)
