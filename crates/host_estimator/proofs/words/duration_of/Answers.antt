use borrow.Author.Tests.{eq-eqb, ne_eqb}
use Rattle.host_estimator.specs.Words.{duration_of}
use Rattle.host_estimator.proofs.words.duration_of.Goals as goal

pub returns-then-set-eq1 : goal.returns-then-set-eq1
unfolding duration_of
returns-then-set-eq1 c = simp (eq-eqb _ _ c.if-set-eq1.true)

pub returns : goal.returns
unfolding duration_of
returns c = simp (ne_eqb _ _ c.if-set-eq1.false)
