use Rattle.schedule.proofs.Laws.{test_is}
use Rattle.channel.proofs.Carrying.{granted_lost, granted_two, granted_one}
use Rattle.channel.proofs.faults.granted.Goals as goal

pub returns-then-is_lost : goal.returns-then-is_lost
returns-then-is_lost c = granted_lost _ _ (test_is c.is_lost.ensures c.if-is_lost.true)

pub returns-then-is_duplicated : goal.returns-then-is_duplicated
returns-then-is_duplicated c = granted_two _ _ (test_is c.is_lost.ensures c.if-is_lost.false) (test_is c.is_duplicated.ensures c.if-is_duplicated.true)

pub returns : goal.returns
returns c = granted_one _ _ (test_is c.is_lost.ensures c.if-is_lost.false) (test_is c.is_duplicated.ensures c.if-is_duplicated.false)
