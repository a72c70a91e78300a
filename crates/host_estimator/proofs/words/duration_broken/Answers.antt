use borrow.Author.Tests.{eq-eqb, ne_eqb}
use Rattle.refusal.specs.Clauses.{any_of}
use Rattle.host_estimator.specs.Words.{duration_broken}
use Rattle.host_estimator.proofs.words.duration_broken.Goals as goal

pub returns-then-set-eq1 : goal.returns-then-set-eq1
unfolding duration_broken any_of
returns-then-set-eq1 c = simp (eq-eqb _ _ c.if-set-eq1.true)

pub returns-then-set-ne0 : goal.returns-then-set-ne0
unfolding duration_broken any_of
returns-then-set-ne0 c = simp (ne_eqb _ _ c.if-set-eq1.false, ne_eqb _ _ c.if-set-ne0.true)

pub returns-then-time-ne0 : goal.returns-then-time-ne0
unfolding duration_broken any_of
returns-then-time-ne0 c = simp (ne_eqb _ _ c.if-set-eq1.false, eq-eqb _ _ c.if-set-ne0.false, ne_eqb _ _ c.if-time-ne0.true)

pub returns : goal.returns
unfolding duration_broken any_of
returns c = simp (ne_eqb _ _ c.if-set-eq1.false, eq-eqb _ _ c.if-set-ne0.false, eq-eqb _ _ c.if-time-ne0.false)
