use Rattle.schedule.proofs.Laws.{test_is}
use Rattle.channel.proofs.Limits.{rolls_within}
use Rattle.channel.proofs.Carrying.{deliveries_lost, deliveries_two, deliveries_one}
use Rattle.channel.proofs.faults.deliveries_of.Goals as goal

pub returns-then-is_lost : goal.returns-then-is_lost
returns-then-is_lost c = deliveries_lost _ _ (test_is c.is_lost.ensures c.if-is_lost.true)

pub delay_of-first-requires : goal.delay_of-first-requires
delay_of-first-requires c = (c.requires.0, (rolls_within c.args.rolls c.requires.1).jitter)

pub delay_of-requires : goal.delay_of-requires
delay_of-requires c = (c.requires.0, (rolls_within c.args.rolls c.requires.1).dup_jitter)

pub returns-then-is_duplicated : goal.returns-then-is_duplicated
returns-then-is_duplicated c = deliveries_two _ _ (test_is c.is_lost.ensures c.if-is_lost.false) (test_is c.is_duplicated.ensures c.if-is_duplicated.true) c.delay_of-first.ensures.0 c.delay_of.ensures.0

pub returns : goal.returns
returns c = deliveries_one _ _ (test_is c.is_lost.ensures c.if-is_lost.false) (test_is c.is_duplicated.ensures c.if-is_duplicated.false) c.delay_of-first.ensures.0
