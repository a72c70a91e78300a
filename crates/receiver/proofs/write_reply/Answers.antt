use mathlib.Core.Path.{◌∙◌}
use native.Mathlib.Omega.{arith}
use Rattle.receiver.specs.Reply.{ack_after}
use Rattle.receiver.proofs.Replies.{ack_room}
use Rattle.receiver.proofs.write_reply.Goals as goal

pub to_bytes_unchecked-requires : goal.to_bytes_unchecked-requires
to_bytes_unchecked-requires c = let room = ack_room c.args.reply c.in-Some.n c.args.ack.now c.in-Some.is c.requires in
    (omega arith, omega arith)

pub returns-in-Some : goal.returns-in-Some
unfolding ack_after
returns-in-Some c = rw c.in-Some.is (c.to_bytes_unchecked.ensures ∙ rw (c.compute_and_set_checksum_unchecked.ensures, c.new_ack.ensures))

pub returns-in_default : goal.returns-in_default
unfolding ack_after
returns-in_default c = rw c.in_default.is
