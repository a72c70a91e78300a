use Rattle.schedule.proofs.Laws.{test_is}
use Rattle.channel.proofs.Channel.out_short.Goals as goal

pub returns-then-is_lost : goal.returns-then-is_lost
returns-then-is_lost c = simp (test_is c.is_lost.ensures c.if-is_lost.true)

pub returns : goal.returns
returns c = simp (test_is c.is_lost.ensures c.if-is_lost.false)
