use borrow.Author.Tests.{lt-ltb, le-ltb}
use Rattle.refusal.specs.Clauses.{any_of}
use Rattle.host_run.specs.Setup.{setup_short}
use Rattle.host_run.proofs.setup_in.setup_short.Goals as goal

pub returns-then-numbers-lt-SETUP_NUMBERS : goal.returns-then-numbers-lt-SETUP_NUMBERS
unfolding setup_short any_of
returns-then-numbers-lt-SETUP_NUMBERS c = simp (lt-ltb _ _ c.if-numbers-lt-SETUP_NUMBERS.true)

pub returns-then-reals-lt-SETUP_DOUBLES : goal.returns-then-reals-lt-SETUP_DOUBLES
unfolding setup_short any_of
returns-then-reals-lt-SETUP_DOUBLES c = simp (le-ltb _ _ c.if-numbers-lt-SETUP_NUMBERS.false, lt-ltb _ _ c.if-reals-lt-SETUP_DOUBLES.true)

pub returns : goal.returns
unfolding setup_short any_of
returns c = simp (le-ltb _ _ c.if-numbers-lt-SETUP_NUMBERS.false, le-ltb _ _ c.if-reals-lt-SETUP_DOUBLES.false)
