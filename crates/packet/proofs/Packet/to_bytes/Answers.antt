use borrow.Author.Tests.{lt-ltb, le-ltb}
use Rattle.refusal.specs.Order.{order, or_else, numbered, first_of, verdict, decide}
use Rattle.packet.specs.Writing.{to_bytes}
use Rattle.packet.proofs.Packet.to_bytes.Goals as goal

pub returns-then-n-gt-MAX_PAYLOAD_SIZE : goal.returns-then-n-gt-MAX_PAYLOAD_SIZE
unfolding to_bytes verdict first_of numbered or_else order decide
returns-then-n-gt-MAX_PAYLOAD_SIZE c = simp (lt-ltb _ _ c.if-n-gt-MAX_PAYLOAD_SIZE.true)

pub returns-then-out-n : goal.returns-then-out-n
unfolding to_bytes verdict first_of numbered or_else order decide
returns-then-out-n c = simp (le-ltb _ _ c.if-n-gt-MAX_PAYLOAD_SIZE.false, lt-ltb _ _ c.if-out-n.true)

pub returns : goal.returns
unfolding to_bytes verdict first_of numbered or_else order decide
returns c = simp (le-ltb _ _ c.if-n-gt-MAX_PAYLOAD_SIZE.false, le-ltb _ _ c.if-out-n.false, c.to_bytes_unchecked.ensures)
