use borrow.Author.Tests.{lt-ltb, le-ltb}
use Rattle.refusal.specs.Clauses.{any_of}
use Rattle.host_run.specs.Run.{results_short}
use Rattle.host_run.proofs.results_short.Goals as goal

pub returns-then-words-lt-OUTCOME_WORDS : goal.returns-then-words-lt-OUTCOME_WORDS
unfolding results_short any_of
returns-then-words-lt-OUTCOME_WORDS c = simp (lt-ltb _ _ c.if-words-lt-OUTCOME_WORDS.true)

pub returns-then-estimator-lt-ESTIMATOR_WORDS : goal.returns-then-estimator-lt-ESTIMATOR_WORDS
unfolding results_short any_of
returns-then-estimator-lt-ESTIMATOR_WORDS c = simp (le-ltb _ _ c.if-words-lt-OUTCOME_WORDS.false, lt-ltb _ _ c.if-estimator-lt-ESTIMATOR_WORDS.true)

pub returns-then-doubles-lt-ESTIMATOR_DOUBLES : goal.returns-then-doubles-lt-ESTIMATOR_DOUBLES
unfolding results_short any_of
returns-then-doubles-lt-ESTIMATOR_DOUBLES c = simp (le-ltb _ _ c.if-words-lt-OUTCOME_WORDS.false, le-ltb _ _ c.if-estimator-lt-ESTIMATOR_WORDS.false, lt-ltb _ _ c.if-doubles-lt-ESTIMATOR_DOUBLES.true)

pub returns : goal.returns
unfolding results_short any_of
returns c = simp (le-ltb _ _ c.if-words-lt-OUTCOME_WORDS.false, le-ltb _ _ c.if-estimator-lt-ESTIMATOR_WORDS.false, le-ltb _ _ c.if-doubles-lt-ESTIMATOR_DOUBLES.false)
