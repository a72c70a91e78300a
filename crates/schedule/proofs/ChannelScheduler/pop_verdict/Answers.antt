use borrow.Author.Tests.{le-leb, lt-leb}
use Rattle.bounds.specs.Bounds.{count_limit}
use Rattle.refusal.specs.Order.{verdict, first_of, numbered, or_else, order}
use Rattle.schedule.specs.State.{schedule, late, held_late, waiting_records}
use Rattle.schedule.proofs.Sound.{test_is}
use Rattle.schedule.proofs.Memory.{in_order_lem, within}
use Rattle.schedule.proofs.Calls.{no_deliveries}
use Rattle.schedule.proofs.ChannelScheduler.pop_verdict.Goals as goal

pub returns-then-state_broken : goal.returns-then-state_broken
unfolding verdict first_of numbered or_else order
returns-then-state_broken c = simp (test_is c.state_broken.ensures c.if-state_broken.true)

pub returns-then-self-ge-COUNT_LIMIT : goal.returns-then-self-ge-COUNT_LIMIT
unfolding verdict first_of numbered or_else order
returns-then-self-ge-COUNT_LIMIT c = simp (test_is c.state_broken.ensures c.if-state_broken.false, le-leb count_limit c.args.self.next_order c.if-self-ge-COUNT_LIMIT.true)

pub time_late-requires : goal.time_late-requires
time_late-requires c = let m = schedule c.args.records.now c.args.places.now c.args.self in let e = test_is c.state_broken.ensures c.if-state_broken.false in (within m e, in_order_lem m e)

pub returns-then-time_late : goal.returns-then-time_late
unfolding verdict first_of numbered or_else order
returns-then-time_late c = simp (test_is c.state_broken.ensures c.if-state_broken.false, lt-leb count_limit c.args.self.next_order c.if-self-ge-COUNT_LIMIT.false, no_deliveries (late c.args.now) (held_late (waiting_records (schedule c.args.records.now c.args.places.now c.args.self))) c.time_late.ensures c.if-time_late.true)

pub out_short-requires : goal.out_short-requires
out_short-requires c = within (schedule c.args.records.now c.args.places.now c.args.self) (test_is c.state_broken.ensures c.if-state_broken.false)

pub returns-then-out_short : goal.returns-then-out_short
unfolding verdict first_of numbered or_else order
returns-then-out_short c = simp (test_is c.state_broken.ensures c.if-state_broken.false, lt-leb count_limit c.args.self.next_order c.if-self-ge-COUNT_LIMIT.false, no_deliveries (late c.args.now) (held_late (waiting_records (schedule c.args.records.now c.args.places.now c.args.self))) c.time_late.ensures c.if-time_late.false, test_is c.out_short.ensures c.if-out_short.true)

pub returns : goal.returns
unfolding verdict first_of numbered or_else order
returns c = simp (test_is c.state_broken.ensures c.if-state_broken.false, lt-leb count_limit c.args.self.next_order c.if-self-ge-COUNT_LIMIT.false, no_deliveries (late c.args.now) (held_late (waiting_records (schedule c.args.records.now c.args.places.now c.args.self))) c.time_late.ensures c.if-time_late.false, test_is c.out_short.ensures c.if-out_short.false)
