use borrow.Author.Tests.{eq-eqb, ne_eqb}
use Rattle.host_run.specs.Setup.{by_clock}
use Rattle.host_run.proofs.setup_in.by_clock.Goals as goal

pub returns-then-clock-eq1 : goal.returns-then-clock-eq1
unfolding by_clock
returns-then-clock-eq1 c = simp (eq-eqb _ _ c.if-clock-eq1.true, c.config_in.ensures)

pub returns-then-clock-eq2 : goal.returns-then-clock-eq2
unfolding by_clock
returns-then-clock-eq2 c = simp (ne_eqb _ _ c.if-clock-eq1.false, eq-eqb _ _ c.if-clock-eq2.true, c.config_in-then-clock-eq2.ensures)

pub returns : goal.returns
unfolding by_clock
returns c = simp (ne_eqb _ _ c.if-clock-eq1.false, ne_eqb _ _ c.if-clock-eq2.false)
