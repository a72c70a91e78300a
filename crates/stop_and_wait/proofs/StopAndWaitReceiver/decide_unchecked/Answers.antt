use native.Mathlib.Omega.{arith}
use Rattle.stop_and_wait.specs.Receiver.{decision}
use Rattle.receiver.proofs.Laws.{counts_low}
use Rattle.stop_and_wait.proofs.StopAndWaitReceiver.decide_unchecked.Goals as goal

pub overflow_add-self : goal.overflow_add-self
overflow_add-self c = let low = counts_low c.args.self.total_received c.args.self.duplicates_count c.args.self.corrupted_count c.requires.corrupted_count_value in omega (arith, low.0)

pub decide_data-requires : goal.decide_data-requires
decide_data-requires c = let low = counts_low c.args.self.total_received c.args.self.duplicates_count c.args.self.corrupted_count c.requires.corrupted_count_value in (c.requires.expected_seq_bound, low.1)

pub overflow_add-self-in-Corrupted : goal.overflow_add-self-in-Corrupted
overflow_add-self-in-Corrupted c = let low = counts_low c.args.self.total_received c.args.self.duplicates_count c.args.self.corrupted_count c.requires.corrupted_count_value in omega (arith, low.2)

pub returns-in-Data : goal.returns-in-Data
unfolding decision
returns-in-Data c = rw c.in-Data.is c.decide_data.ensures

pub returns-in-Fin : goal.returns-in-Fin
unfolding decision
returns-in-Fin c = rw c.in-Fin.is c.decided.ensures

pub returns-in-Ack : goal.returns-in-Ack
unfolding decision
returns-in-Ack c = rw c.in-Ack.is c.decided-in-Ack.ensures

pub returns-in-Corrupted : goal.returns-in-Corrupted
unfolding decision
returns-in-Corrupted c = rw c.in-Corrupted.is c.decided-in-Corrupted.ensures
