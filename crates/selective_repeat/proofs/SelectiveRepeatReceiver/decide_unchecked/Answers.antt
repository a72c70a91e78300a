use native.Mathlib.Omega.{arith}
use Rattle.selective_repeat.specs.Receiver.{decision}
use Rattle.selective_repeat.proofs.States.{ready}
use Rattle.receiver.proofs.Laws.{counts_low}
use Rattle.selective_repeat.proofs.SelectiveRepeatReceiver.decide_unchecked.Goals as goal

pub overflow_add-self : goal.overflow_add-self
overflow_add-self c = let low = counts_low c.args.self.total_received c.args.self.buffered_out_of_order c.args.self.duplicates_count c.requires.self_value in omega (arith, low.0)

pub decide_data-requires : goal.decide_data-requires
decide_data-requires c = let s = ready c.args.self c.args.store.now c.requires.store_value in
    let low = counts_low c.args.self.total_received c.args.self.buffered_out_of_order c.args.self.duplicates_count c.requires.self_value in record { ready = record { positive = s.positive; small = s.small; room = s.room; low = s.low; slots = s.slots }; buffered_out_of_order_bound = (low.1, low.2) }

pub returns-in-Data : goal.returns-in-Data
unfolding decision
returns-in-Data c = rw c.in-Data.is c.decide_data.ensures

pub returns-in-Fin : goal.returns-in-Fin
unfolding decision
returns-in-Fin c = rw c.in-Fin.is c.decided.ensures

pub returns-in-Ack : goal.returns-in-Ack
unfolding decision
returns-in-Ack c = rw c.in-Ack.is c.decided-in-Ack.ensures

pub returns-in-Corrupted : goal.returns-in-Corrupted
unfolding decision
returns-in-Corrupted c = rw c.in-Corrupted.is c.decided-in-Corrupted.ensures
