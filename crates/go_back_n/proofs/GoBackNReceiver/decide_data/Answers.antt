use borrow.Author.Tests.{eq-eqb, ne_eqb}
use Rattle.go_back_n.specs.Receiver.{data_decision}
use Rattle.go_back_n.proofs.GoBackNReceiver.decide_data.Goals as goal

pub returns-then-n-expected : goal.returns-then-n-expected
unfolding data_decision
returns-then-n-expected c = simp (c.decided.ensures, eq-eqb _ _ c.if-n-expected.true)

pub returns-then-expected-eq0 : goal.returns-then-expected-eq0
unfolding data_decision
returns-then-expected-eq0 c = simp (c.decided-then-expected-eq0.ensures, ne_eqb _ _ c.if-n-expected.false, eq-eqb _ _ c.if-expected-eq0.true)

pub returns : goal.returns
unfolding data_decision
returns c = simp (c.decided-2.ensures, ne_eqb _ _ c.if-n-expected.false, ne_eqb _ _ c.if-expected-eq0.false)
