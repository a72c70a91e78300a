use borrow.Author.Tests.{lt-ltb, le-ltb}
use Rattle.refusal.specs.Clauses.{any_of}
use Rattle.refusal.specs.Order.{order, or_else, numbered, first_of, verdict, decide}
use Rattle.host_packet.proofs.Writing.{on_written}
use Rattle.host_answer.specs.Answer.{count_answer}
use Rattle.host_packet.specs.Packet.{write_of}
use Rattle.host_packet.proofs.write_packet.Goals as goal

pub returns-then-payload-gt-MAX_PAYLOAD_SIZE : goal.returns-then-payload-gt-MAX_PAYLOAD_SIZE
unfolding write_of count_answer any_of verdict first_of numbered or_else order decide
returns-then-payload-gt-MAX_PAYLOAD_SIZE c = simp (lt-ltb _ _ c.if-payload-gt-MAX_PAYLOAD_SIZE.true, c.refusal_answer.ensures)

pub returns-then-seq_num-gt-MAX_U32 : goal.returns-then-seq_num-gt-MAX_U32
unfolding write_of count_answer any_of verdict first_of numbered or_else order decide
returns-then-seq_num-gt-MAX_U32 c = simp (le-ltb _ _ c.if-payload-gt-MAX_PAYLOAD_SIZE.false, lt-ltb _ _ c.if-seq_num-gt-MAX_U32.true, c.refusal_answer-then-seq_num-gt-MAX_U32.ensures)

pub returns-then-flags-gt-MAX_BYTE : goal.returns-then-flags-gt-MAX_BYTE
unfolding write_of count_answer any_of verdict first_of numbered or_else order decide
returns-then-flags-gt-MAX_BYTE c = simp (le-ltb _ _ c.if-payload-gt-MAX_PAYLOAD_SIZE.false, le-ltb _ _ c.if-seq_num-gt-MAX_U32.false, lt-ltb _ _ c.if-flags-gt-MAX_BYTE.true, c.refusal_answer-then-flags-gt-MAX_BYTE.ensures)

pub returns : goal.returns
returns c = on_written c.args.pkt_type c.args.seq_num c.args.flags c.args.payload.now c.args.out.now c.if-payload-gt-MAX_PAYLOAD_SIZE.false c.if-seq_num-gt-MAX_U32.false c.if-flags-gt-MAX_BYTE.false c.count_answer.ensures c.to_bytes.ensures c.compute_and_set_checksum_unchecked-p.ensures
