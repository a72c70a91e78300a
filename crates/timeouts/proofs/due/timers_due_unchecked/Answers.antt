use Rattle.multi_timer.specs.MultiTimer.{timers_exit}
use Rattle.timeouts.proofs.NotDue.{due_met, due_by_timers}
use Rattle.timeouts.proofs.due.timers_due_unchecked.Goals as goal

pub returns-then-met : goal.returns-then-met
returns-then-met c = due_met c.args.max_retransmissions c.args.timing c.args.now c.args.sender c.args.resends (timers_exit c.args.clock c.args.keys.now c.args.deadlines.now) c.ceiling_met-met.ensures c.if-met.true

pub returns-in-Nothing : goal.returns-in-Nothing
returns-in-Nothing c = due_by_timers c.args.max_retransmissions c.args.timing c.args.now c.args.sender c.args.resends (timers_exit c.args.clock c.args.keys.now c.args.deadlines.now) c.ceiling_met-met.ensures c.if-met.false c.has_outstanding_unchecked-outstanding.ensures c.due_unchecked-due.ensures c.in-Nothing.is

pub returns-in-Idle : goal.returns-in-Idle
returns-in-Idle c = due_by_timers c.args.max_retransmissions c.args.timing c.args.now c.args.sender c.args.resends (timers_exit c.args.clock c.args.keys.now c.args.deadlines.now) c.ceiling_met-met.ensures c.if-met.false c.has_outstanding_unchecked-outstanding.ensures c.due_unchecked-due.ensures c.in-Idle.is

pub returns-in-Single : goal.returns-in-Single
returns-in-Single c = due_by_timers c.args.max_retransmissions c.args.timing c.args.now c.args.sender c.args.resends (timers_exit c.args.clock c.args.keys.now c.args.deadlines.now) c.ceiling_met-met.ensures c.if-met.false c.has_outstanding_unchecked-outstanding.ensures c.due_unchecked-due.ensures c.in-Single.is

pub returns-in-Numbers : goal.returns-in-Numbers
returns-in-Numbers c = due_by_timers c.args.max_retransmissions c.args.timing c.args.now c.args.sender c.args.resends (timers_exit c.args.clock c.args.keys.now c.args.deadlines.now) c.ceiling_met-met.ensures c.if-met.false c.has_outstanding_unchecked-outstanding.ensures c.due_unchecked-due.ensures c.in-Numbers.is
