use borrow.Author.Tests.{eq-eqb, ne_eqb, lt-ltb, le-ltb}
use Rattle.stop_and_wait.specs.Receiver.{data_decision}
use Rattle.stop_and_wait.proofs.StopAndWaitReceiver.decide_data.Goals as goal

pub returns-then-n-expected : goal.returns-then-n-expected
unfolding data_decision
returns-then-n-expected c = simp (c.decided.ensures, eq-eqb _ _ c.if-n-expected.true)

pub returns-then-n-expected-2 : goal.returns-then-n-expected-2
unfolding data_decision
returns-then-n-expected-2 c = simp (c.decided-then-n-expected-2.ensures, ne_eqb _ _ c.if-n-expected.false, lt-ltb _ _ c.if-n-expected-2.true)

pub returns : goal.returns
unfolding data_decision
returns c = simp (c.decided-2.ensures, ne_eqb _ _ c.if-n-expected.false, le-ltb _ _ c.if-n-expected-2.false, c.saturating_sub.ensures)
