use native.Mathlib.Omega.{arith}
use Rattle.go_back_n.specs.Receiver.{decision}
use Rattle.receiver.proofs.Laws.{counts_low}
use Rattle.go_back_n.proofs.GoBackNReceiver.decide_unchecked.Goals as goal

pub overflow_add-self : goal.overflow_add-self
overflow_add-self c = let low = counts_low c.args.self.total_received c.args.self.discarded_out_of_order c.args.self.duplicate_acks_sent c.requires.duplicate_acks_sent_value in omega (arith, low.0)

pub decide_data-requires : goal.decide_data-requires
decide_data-requires c = let low = counts_low c.args.self.total_received c.args.self.discarded_out_of_order c.args.self.duplicate_acks_sent c.requires.duplicate_acks_sent_value in (c.requires.expected_seq_bound, low.1, low.2)

pub returns-in-Data : goal.returns-in-Data
unfolding decision
returns-in-Data c = rw c.in-Data.is c.decide_data.ensures

pub returns-in-Fin : goal.returns-in-Fin
unfolding decision
returns-in-Fin c = rw c.in-Fin.is c.decided.ensures

pub returns-in-Ack : goal.returns-in-Ack
unfolding decision
returns-in-Ack c = rw c.in-Ack.is c.decided-in-Ack.ensures

pub returns-in-Corrupted : goal.returns-in-Corrupted
unfolding decision
returns-in-Corrupted c = rw c.in-Corrupted.is c.decided-in-Corrupted.ensures
