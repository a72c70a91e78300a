use borrow.Author.Tests.{lt-ltb, le-ltb}
use Rattle.refusal.specs.Order.{order, or_else, numbered, first_of, verdict, decide}
use Rattle.packet.specs.Writing.{compute_checksum}
use Rattle.packet.proofs.Packet.compute_checksum.Goals as goal

pub returns-then-payload-gt-MAX_PAYLOAD_SIZE : goal.returns-then-payload-gt-MAX_PAYLOAD_SIZE
unfolding compute_checksum verdict first_of numbered or_else order decide
returns-then-payload-gt-MAX_PAYLOAD_SIZE c = simp (lt-ltb _ _ c.if-payload-gt-MAX_PAYLOAD_SIZE.true)

pub returns : goal.returns
unfolding compute_checksum verdict first_of numbered or_else order decide
returns c = simp (le-ltb _ _ c.if-payload-gt-MAX_PAYLOAD_SIZE.false, c.compute_checksum_unchecked.ensures)
