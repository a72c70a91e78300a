use mathlib.Core.Path.{sym}
use borrow.Author.Tests.{lt-ltb, le-ltb}
use Rattle.refusal.specs.Clauses.{any_of}
use Rattle.refusal.specs.Order.{order, or_else, numbered, first_of, verdict, decide}
use Rattle.host_estimator.specs.Estimator.{make_estimator}
use Rattle.host_estimator.proofs.make_estimator.Goals as goal

pub returns-then-not-config_in_bounds : goal.returns-then-not-config_in_bounds
unfolding make_estimator verdict first_of numbered or_else order decide any_of
returns-then-not-config_in_bounds c = simp (sym c.config_in_bounds.ensures, c.if-not-config_in_bounds.true, c.refusal_answer.ensures)

pub returns-then-state-lt-ESTIMATOR_WORDS : goal.returns-then-state-lt-ESTIMATOR_WORDS
unfolding make_estimator verdict first_of numbered or_else order decide any_of
returns-then-state-lt-ESTIMATOR_WORDS c = simp (sym c.config_in_bounds.ensures, c.if-not-config_in_bounds.false, lt-ltb _ _ c.if-state-lt-ESTIMATOR_WORDS.true, c.refusal_answer-then-state-lt-ESTIMATOR_WORDS.ensures)

pub returns-then-doubles-lt-ESTIMATOR_DOUBLES : goal.returns-then-doubles-lt-ESTIMATOR_DOUBLES
unfolding make_estimator verdict first_of numbered or_else order decide any_of
returns-then-doubles-lt-ESTIMATOR_DOUBLES c = simp (sym c.config_in_bounds.ensures, c.if-not-config_in_bounds.false, le-ltb _ _ c.if-state-lt-ESTIMATOR_WORDS.false, lt-ltb _ _ c.if-doubles-lt-ESTIMATOR_DOUBLES.true, c.refusal_answer-then-doubles-lt-ESTIMATOR_DOUBLES.ensures)

pub returns : goal.returns
unfolding make_estimator verdict first_of numbered or_else order decide any_of
returns c = simp (sym c.config_in_bounds.ensures, c.if-not-config_in_bounds.false, le-ltb _ _ c.if-state-lt-ESTIMATOR_WORDS.false, le-ltb _ _ c.if-doubles-lt-ESTIMATOR_DOUBLES.false) (rw (c.pack_unchecked.ensures, c.put_estimator.ensures.state_after, c.put_estimator.ensures.doubles_after, c.with_config_unchecked.ensures))
