use Rattle.host_ends.specs.Answers.{ack_code}
use Rattle.refusal.proofs.Laws.{ok_is}
use Rattle.host_ends.proofs.ack_code.Goals as goal

pub returns-in-Ok-true : goal.returns-in-Ok-true
unfolding ack_code
returns-in-Ok-true c = rw (ok_is c.in-Ok-true.is c.in-Ok-true.field-0-test) c.pack_unchecked.ensures

pub returns-in-Ok-false : goal.returns-in-Ok-false
unfolding ack_code
returns-in-Ok-false c = rw (ok_is c.in-Ok-false.is c.in-Ok-false.field-0-test) c.pack_unchecked-in-Ok-false.ensures

pub returns-in-Err : goal.returns-in-Err
unfolding ack_code
returns-in-Err c = rw c.in-Err.is c.refusal_answer.ensures
