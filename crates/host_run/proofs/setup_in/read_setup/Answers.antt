use mathlib.Core.Path.{sym, ◌∙◌}
use native.Mathlib.Omega.{arith}
use borrow.Author.Tests.{eq-eqb, ne_eqb}
use Rattle.host_run.specs.Setup.{read_setup}
use Rattle.host_run.proofs.Ends.{long}
use Rattle.host_run.proofs.setup_in.read_setup.Goals as goal

pub returns-then-setup_short : goal.returns-then-setup_short
unfolding read_setup
returns-then-setup_short c = simp (sym c.setup_short.ensures ∙ c.if-setup_short.true)

pub bounds-numbers-0 : goal.bounds-numbers-0
bounds-numbers-0 c = let h = (long c.args.numbers.now c.args.reals.now (sym c.setup_short.ensures ∙ c.if-setup_short.false)).numbers in omega arith

pub by_clock-requires : goal.by_clock-requires
by_clock-requires c = long c.args.numbers.now c.args.reals.now (sym c.setup_short.ensures ∙ c.if-setup_short.false)

pub returns-then-protocol-eq1 : goal.returns-then-protocol-eq1
unfolding read_setup
returns-then-protocol-eq1 c = simp (sym c.setup_short.ensures ∙ c.if-setup_short.false, eq-eqb _ _ c.if-protocol-eq1.true) c.by_clock.ensures

pub by_clock-requires-then-protocol-eq2 : goal.by_clock-requires-then-protocol-eq2
by_clock-requires-then-protocol-eq2 c = long c.args.numbers.now c.args.reals.now (sym c.setup_short.ensures ∙ c.if-setup_short.false)

pub returns-then-protocol-eq2 : goal.returns-then-protocol-eq2
unfolding read_setup
returns-then-protocol-eq2 c = simp (sym c.setup_short.ensures ∙ c.if-setup_short.false, ne_eqb _ _ c.if-protocol-eq1.false, eq-eqb _ _ c.if-protocol-eq2.true) c.by_clock-then-protocol-eq2.ensures

pub by_clock-requires-then-protocol-eq3 : goal.by_clock-requires-then-protocol-eq3
by_clock-requires-then-protocol-eq3 c = long c.args.numbers.now c.args.reals.now (sym c.setup_short.ensures ∙ c.if-setup_short.false)

pub returns-then-protocol-eq3 : goal.returns-then-protocol-eq3
unfolding read_setup
returns-then-protocol-eq3 c = simp (sym c.setup_short.ensures ∙ c.if-setup_short.false, ne_eqb _ _ c.if-protocol-eq1.false, ne_eqb _ _ c.if-protocol-eq2.false, eq-eqb _ _ c.if-protocol-eq3.true) c.by_clock-then-protocol-eq3.ensures

pub returns : goal.returns
unfolding read_setup
returns c = simp (sym c.setup_short.ensures ∙ c.if-setup_short.false, ne_eqb _ _ c.if-protocol-eq1.false, ne_eqb _ _ c.if-protocol-eq2.false, ne_eqb _ _ c.if-protocol-eq3.false)
