use borrow.Author.Tests.{le-leb, lt-leb, le-ltb, lt-ltb}
use Rattle.bounds.specs.Bounds.{count_limit, max_datagram}
use Rattle.refusal.specs.Order.{verdict, first_of, numbered, or_else, order}
use Rattle.schedule.specs.State.{schedule, copies}
use Rattle.schedule.proofs.Sound.{test_is}
use Rattle.schedule.proofs.Memory.{in_order_lem, within}
use Rattle.schedule.proofs.Calls.{lacks, lacks_not}
use Rattle.schedule.proofs.ChannelScheduler.schedule_verdict.Goals as goal

pub returns-then-state_broken : goal.returns-then-state_broken
unfolding verdict first_of numbered or_else order
returns-then-state_broken c = simp (test_is c.state_broken.ensures c.if-state_broken.true)

pub returns-then-self-ge-COUNT_LIMIT : goal.returns-then-self-ge-COUNT_LIMIT
unfolding verdict first_of numbered or_else order
returns-then-self-ge-COUNT_LIMIT c = simp (test_is c.state_broken.ensures c.if-state_broken.false, le-leb count_limit c.args.self.next_order c.if-self-ge-COUNT_LIMIT.true)

pub time_late-requires : goal.time_late-requires
time_late-requires c = let m = schedule c.args.records.now c.args.places.now c.args.self in let e = test_is c.state_broken.ensures c.if-state_broken.false in (within m e, in_order_lem m e)

pub returns-then-time_late : goal.returns-then-time_late
unfolding verdict first_of numbered or_else order
returns-then-time_late c = simp (test_is c.state_broken.ensures c.if-state_broken.false, lt-leb count_limit c.args.self.next_order c.if-self-ge-COUNT_LIMIT.false, test_is c.time_late.ensures c.if-time_late.true)

pub returns-then-size-gt-MAX_DATAGRAM_SIZE : goal.returns-then-size-gt-MAX_DATAGRAM_SIZE
unfolding verdict first_of numbered or_else order
returns-then-size-gt-MAX_DATAGRAM_SIZE c = simp (test_is c.state_broken.ensures c.if-state_broken.false, lt-leb count_limit c.args.self.next_order c.if-self-ge-COUNT_LIMIT.false, test_is c.time_late.ensures c.if-time_late.false, lt-ltb max_datagram c.args.size c.if-size-gt-MAX_DATAGRAM_SIZE.true)

pub room_unchecked-requires : goal.room_unchecked-requires
room_unchecked-requires c = test_is c.state_broken.ensures c.if-state_broken.false

pub returns-then-room_unchecked-copies_of : goal.returns-then-room_unchecked-copies_of
unfolding verdict first_of numbered or_else order
returns-then-room_unchecked-copies_of c = simp (test_is c.state_broken.ensures c.if-state_broken.false, lt-leb count_limit c.args.self.next_order c.if-self-ge-COUNT_LIMIT.false, test_is c.time_late.ensures c.if-time_late.false, le-ltb max_datagram c.args.size c.if-size-gt-MAX_DATAGRAM_SIZE.false, lacks (schedule c.args.records.now c.args.places.now c.args.self) (copies c.args.deliveries) c.room_unchecked.ensures c.copies_of.ensures c.if-room_unchecked-copies_of.true)

pub returns : goal.returns
unfolding verdict first_of numbered or_else order
returns c = simp (test_is c.state_broken.ensures c.if-state_broken.false, lt-leb count_limit c.args.self.next_order c.if-self-ge-COUNT_LIMIT.false, test_is c.time_late.ensures c.if-time_late.false, le-ltb max_datagram c.args.size c.if-size-gt-MAX_DATAGRAM_SIZE.false, lacks_not (schedule c.args.records.now c.args.places.now c.args.self) (copies c.args.deliveries) c.room_unchecked.ensures c.copies_of.ensures c.if-room_unchecked-copies_of.false)
