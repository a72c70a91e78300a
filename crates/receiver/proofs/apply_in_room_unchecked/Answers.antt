use mathlib.Core.Path.{refl}
use Prim.Native.Nat.{◌+◌}
use native.Mathlib.Omega.{arith}
use lib.ListN.{length}
use Rattle.octets.proofs.Laws.{part_written}
use Rattle.receiver.specs.Reply.{applied}
use Rattle.receiver.proofs.Replies.{room_output, room_ack, replied_is}
use Rattle.receiver.proofs.apply_in_room_unchecked.Goals as goal

pub write_reply-requires : goal.write_reply-requires
write_reply-requires c = room_ack c.args.decision (length c.args.payload.now) c.args.filled c.args.output.now c.args.ack.now c.requires

pub slice_bounds-copy_unchecked-end : goal.slice_bounds-copy_unchecked-end
slice_bounds-copy_unchecked-end c = let room = room_output c.args.decision (length c.args.payload.now) c.args.filled c.args.output.now c.args.ack.now c.requires c.if-decision.true in
    omega arith

pub returns-then-decision : goal.returns-then-decision
unfolding applied
returns-then-decision c = let a = c.args in
    simp c.if-decision.true
    (replied_is (a.filled + length a.payload.now) (part_written a.output.now c.copy_unchecked.new.dst a.payload.now a.filled (length a.payload.now) c.copy_unchecked.ensures) c.write_reply.ensures)

pub returns : goal.returns
unfolding applied
returns c = simp c.if-decision.false (replied_is c.args.filled refl c.write_reply.ensures)
