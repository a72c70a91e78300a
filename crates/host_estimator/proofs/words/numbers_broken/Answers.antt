use borrow.Author.Tests.{lt-ltb, le-ltb, eq-eqb, ne_eqb}
use Rattle.refusal.specs.Clauses.{any_of}
use Rattle.host_estimator.specs.Words.{numbers_broken}
use Rattle.host_estimator.proofs.words.numbers_broken.Goals as goal

pub returns-then-state-lt-ESTIMATOR_WORDS : goal.returns-then-state-lt-ESTIMATOR_WORDS
unfolding numbers_broken any_of
returns-then-state-lt-ESTIMATOR_WORDS c = simp (lt-ltb _ _ c.if-state-lt-ESTIMATOR_WORDS.true)

pub returns-then-doubles-lt-ESTIMATOR_DOUBLES : goal.returns-then-doubles-lt-ESTIMATOR_DOUBLES
unfolding numbers_broken any_of
returns-then-doubles-lt-ESTIMATOR_DOUBLES c = simp (le-ltb _ _ c.if-state-lt-ESTIMATOR_WORDS.false, lt-ltb _ _ c.if-doubles-lt-ESTIMATOR_DOUBLES.true)

pub returns-then-state-ne-ESTIMATOR : goal.returns-then-state-ne-ESTIMATOR
unfolding numbers_broken any_of
returns-then-state-ne-ESTIMATOR c = simp (le-ltb _ _ c.if-state-lt-ESTIMATOR_WORDS.false, le-ltb _ _ c.if-doubles-lt-ESTIMATOR_DOUBLES.false, ne_eqb _ _ c.if-state-ne-ESTIMATOR.true)

pub returns-then-state-gt1 : goal.returns-then-state-gt1
unfolding numbers_broken any_of
returns-then-state-gt1 c = simp (le-ltb _ _ c.if-state-lt-ESTIMATOR_WORDS.false, le-ltb _ _ c.if-doubles-lt-ESTIMATOR_DOUBLES.false, eq-eqb _ _ c.if-state-ne-ESTIMATOR.false, lt-ltb _ _ c.if-state-gt1.true)

pub returns-then-state-gt-MAX_U32 : goal.returns-then-state-gt-MAX_U32
unfolding numbers_broken any_of
returns-then-state-gt-MAX_U32 c = simp (le-ltb _ _ c.if-state-lt-ESTIMATOR_WORDS.false, le-ltb _ _ c.if-doubles-lt-ESTIMATOR_DOUBLES.false, eq-eqb _ _ c.if-state-ne-ESTIMATOR.false, le-ltb _ _ c.if-state-gt1.false, lt-ltb _ _ c.if-state-gt-MAX_U32.true)

pub returns-then-state-gt-MAX_U32-2 : goal.returns-then-state-gt-MAX_U32-2
unfolding numbers_broken any_of
returns-then-state-gt-MAX_U32-2 c = simp (le-ltb _ _ c.if-state-lt-ESTIMATOR_WORDS.false, le-ltb _ _ c.if-doubles-lt-ESTIMATOR_DOUBLES.false, eq-eqb _ _ c.if-state-ne-ESTIMATOR.false, le-ltb _ _ c.if-state-gt1.false, le-ltb _ _ c.if-state-gt-MAX_U32.false, lt-ltb _ _ c.if-state-gt-MAX_U32-2.true)

pub returns : goal.returns
unfolding numbers_broken any_of
returns c = simp (le-ltb _ _ c.if-state-lt-ESTIMATOR_WORDS.false, le-ltb _ _ c.if-doubles-lt-ESTIMATOR_DOUBLES.false, eq-eqb _ _ c.if-state-ne-ESTIMATOR.false, le-ltb _ _ c.if-state-gt1.false, le-ltb _ _ c.if-state-gt-MAX_U32.false, le-ltb _ _ c.if-state-gt-MAX_U32-2.false)
