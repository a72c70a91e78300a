use Rattle.sending.proofs.Calls.{pump_test, pump_full}
use Rattle.sending.proofs.can_pump_unchecked.Goals as goal

pub returns-then-can_send_unchecked : goal.returns-then-can_send_unchecked
returns-then-can_send_unchecked c = pump_test c.args.total_chunks c.args.sender c.can_send_unchecked.ensures c.if-can_send_unchecked.true c.next_seq_num_unchecked.ensures

pub returns : goal.returns
returns c = pump_full c.args.total_chunks c.args.sender c.can_send_unchecked.ensures c.if-can_send_unchecked.false
