use borrow.Author.Tests.{le-leb, lt-leb}
use Rattle.bounds.specs.Bounds.{count_limit}
use Rattle.refusal.specs.Order.{verdict, first_of, numbered, or_else, order}
use Rattle.schedule.specs.State.{schedule}
use Rattle.schedule.proofs.Sound.{test_is}
use Rattle.schedule.proofs.Memory.{in_order_lem, within}
use Rattle.schedule.proofs.ChannelScheduler.read_verdict.Goals as goal

pub returns-then-state_broken : goal.returns-then-state_broken
unfolding verdict first_of numbered or_else order
returns-then-state_broken c = simp (test_is c.state_broken.ensures c.if-state_broken.true)

pub returns-then-self-ge-COUNT_LIMIT : goal.returns-then-self-ge-COUNT_LIMIT
unfolding verdict first_of numbered or_else order
returns-then-self-ge-COUNT_LIMIT c = simp (test_is c.state_broken.ensures c.if-state_broken.false, le-leb count_limit c.args.self.next_order c.if-self-ge-COUNT_LIMIT.true)

pub held_late-requires : goal.held_late-requires
held_late-requires c = let m = schedule c.args.records.now c.args.places.now c.args.self in let e = test_is c.state_broken.ensures c.if-state_broken.false in (within m e, in_order_lem m e)

pub returns-then-held_late : goal.returns-then-held_late
unfolding verdict first_of numbered or_else order
returns-then-held_late c = simp (test_is c.state_broken.ensures c.if-state_broken.false, lt-leb count_limit c.args.self.next_order c.if-self-ge-COUNT_LIMIT.false, test_is c.held_late.ensures c.if-held_late.true)

pub returns : goal.returns
unfolding verdict first_of numbered or_else order
returns c = simp (test_is c.state_broken.ensures c.if-state_broken.false, lt-leb count_limit c.args.self.next_order c.if-self-ge-COUNT_LIMIT.false, test_is c.held_late.ensures c.if-held_late.false)
