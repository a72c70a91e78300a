use borrow.Author.Tests.{lt-ltb, le-ltb}
use Rattle.bounds.specs.Bounds.{max_datagram}
use Rattle.refusal.specs.Order.{verdict, first_of, numbered, or_else, order}
use Rattle.schedule.proofs.Laws.{test_is}
use Rattle.channel.proofs.Channel.process_verdict.Goals as goal

pub returns-then-config_broken : goal.returns-then-config_broken
unfolding verdict first_of numbered or_else order
returns-then-config_broken c = simp (test_is c.config_broken.ensures c.if-config_broken.true)

pub returns-then-stats_full : goal.returns-then-stats_full
unfolding verdict first_of numbered or_else order
returns-then-stats_full c = simp (test_is c.config_broken.ensures c.if-config_broken.false, test_is c.stats_full.ensures c.if-stats_full.true)

pub returns-then-rolls_broken : goal.returns-then-rolls_broken
unfolding verdict first_of numbered or_else order
returns-then-rolls_broken c = simp (test_is c.config_broken.ensures c.if-config_broken.false, test_is c.stats_full.ensures c.if-stats_full.false, test_is c.rolls_broken.ensures c.if-rolls_broken.true)

pub returns-then-len-gt-MAX_DATAGRAM_SIZE : goal.returns-then-len-gt-MAX_DATAGRAM_SIZE
unfolding verdict first_of numbered or_else order
returns-then-len-gt-MAX_DATAGRAM_SIZE c = simp (test_is c.config_broken.ensures c.if-config_broken.false, test_is c.stats_full.ensures c.if-stats_full.false, test_is c.rolls_broken.ensures c.if-rolls_broken.false, lt-ltb max_datagram c.args.len c.if-len-gt-MAX_DATAGRAM_SIZE.true)

pub returns-then-out_short : goal.returns-then-out_short
unfolding verdict first_of numbered or_else order
returns-then-out_short c = simp (test_is c.config_broken.ensures c.if-config_broken.false, test_is c.stats_full.ensures c.if-stats_full.false, test_is c.rolls_broken.ensures c.if-rolls_broken.false, le-ltb max_datagram c.args.len c.if-len-gt-MAX_DATAGRAM_SIZE.false, test_is c.out_short.ensures c.if-out_short.true)

pub returns : goal.returns
unfolding verdict first_of numbered or_else order
returns c = simp (test_is c.config_broken.ensures c.if-config_broken.false, test_is c.stats_full.ensures c.if-stats_full.false, test_is c.rolls_broken.ensures c.if-rolls_broken.false, le-ltb max_datagram c.args.len c.if-len-gt-MAX_DATAGRAM_SIZE.false, test_is c.out_short.ensures c.if-out_short.false)
