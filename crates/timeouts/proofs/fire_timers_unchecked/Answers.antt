use Rattle.timeouts.proofs.Single.{fire_timer_held}
use Rattle.timeouts.proofs.SingleTimers.{fire_numbers_sound, fire_due_asks, can_fire_numbers, fires_exhausted, fires_nothing, fires_idle, fires_single, fires_numbers}
use Rattle.timeouts.proofs.fire_timers_unchecked.Goals as goal

pub returns-then-met : goal.returns-then-met
returns-then-met c = fires_exhausted c.requires c.args.max_retransmissions c.ceiling_met-met.ensures c.if-met.true c.exhausted-resends.ensures

pub has_outstanding_unchecked-outstanding-requires : goal.has_outstanding_unchecked-outstanding-requires
has_outstanding_unchecked-outstanding-requires c = fire_numbers_sound c.requires

pub due_unchecked-due-requires : goal.due_unchecked-due-requires
due_unchecked-due-requires c = fire_due_asks c.requires

pub cancel_unchecked-clock-requires : goal.cancel_unchecked-clock-requires
cancel_unchecked-clock-requires c = fire_timer_held c.requires

pub fire_single-requires : goal.fire_single-requires
fire_single-requires c = c.requires

pub fire_numbers-requires : goal.fire_numbers-requires
fire_numbers-requires c = can_fire_numbers c.requires c.args.max_retransmissions c.ceiling_met-met.ensures c.if-met.false c.has_outstanding_unchecked-outstanding.ensures c.due_unchecked-due.ensures c.in-Numbers.is

pub returns-in-Nothing : goal.returns-in-Nothing
returns-in-Nothing c = fires_nothing c.requires c.args.max_retransmissions c.ceiling_met-met.ensures c.if-met.false c.has_outstanding_unchecked-outstanding.ensures c.due_unchecked-due.ensures c.in-Nothing.is

pub returns-in-Idle : goal.returns-in-Idle
returns-in-Idle c = fires_idle c.requires c.args.max_retransmissions c.ceiling_met-met.ensures c.if-met.false c.has_outstanding_unchecked-outstanding.ensures c.due_unchecked-due.ensures c.in-Idle.is c.cancel_unchecked-clock.ensures

pub returns-in-Single : goal.returns-in-Single
returns-in-Single c = fires_single c.requires c.args.max_retransmissions c.ceiling_met-met.ensures c.if-met.false c.has_outstanding_unchecked-outstanding.ensures c.due_unchecked-due.ensures c.in-Single.is c.fire_single.ensures

pub returns-in-Numbers : goal.returns-in-Numbers
returns-in-Numbers c = fires_numbers c.requires c.args.max_retransmissions c.ceiling_met-met.ensures c.if-met.false c.has_outstanding_unchecked-outstanding.ensures c.due_unchecked-due.ensures c.in-Numbers.is c.fire_numbers.ensures
