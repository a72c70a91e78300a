use borrow.Author.Tests.{eq-eqb, ne_eqb}
use Rattle.host_ends.specs.Making.{by_protocol}
use Rattle.host_ends.proofs.make_sender.Goals as goal

pub returns-then-protocol-eq1 : goal.returns-then-protocol-eq1
unfolding by_protocol
returns-then-protocol-eq1 c = rw (eq-eqb _ _ c.if-protocol-eq1.true) c.make_sender_of.ensures

pub returns-then-protocol-eq2 : goal.returns-then-protocol-eq2
unfolding by_protocol
returns-then-protocol-eq2 c = rw (ne_eqb _ _ c.if-protocol-eq1.false, eq-eqb _ _ c.if-protocol-eq2.true) c.make_sender_of-then-protocol-eq2.ensures

pub returns-then-protocol-eq3 : goal.returns-then-protocol-eq3
unfolding by_protocol
returns-then-protocol-eq3 c = rw (ne_eqb _ _ c.if-protocol-eq1.false, ne_eqb _ _ c.if-protocol-eq2.false, eq-eqb _ _ c.if-protocol-eq3.true) c.make_sender_of-then-protocol-eq3.ensures

pub returns : goal.returns
unfolding by_protocol
returns c = rw (ne_eqb _ _ c.if-protocol-eq1.false, ne_eqb _ _ c.if-protocol-eq2.false, ne_eqb _ _ c.if-protocol-eq3.false, c.refusal_answer.ensures)
