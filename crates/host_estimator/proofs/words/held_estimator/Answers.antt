use mathlib.Core.Path.{sym, ◌∙◌}
use Rattle.host_estimator.specs.Words.{held_estimator}
use Rattle.host_estimator.proofs.Held.{numbers_known}
use Rattle.host_estimator.proofs.words.held_estimator.Goals as goal

pub returns-then-numbers_broken : goal.returns-then-numbers_broken
unfolding held_estimator
returns-then-numbers_broken c = simp (sym c.numbers_broken.ensures ∙ c.if-numbers_broken.true)

pub durations_broken-requires : goal.durations_broken-requires
durations_broken-requires c = (numbers_known c.args.state.now c.args.doubles.now (sym c.numbers_broken.ensures ∙ c.if-numbers_broken.false)).readable.words

pub returns-then-durations_broken : goal.returns-then-durations_broken
unfolding held_estimator
returns-then-durations_broken c = simp (sym c.numbers_broken.ensures ∙ c.if-numbers_broken.false, sym c.durations_broken.ensures ∙ c.if-durations_broken.true)

pub estimator_in-requires : goal.estimator_in-requires
estimator_in-requires c = (numbers_known c.args.state.now c.args.doubles.now (sym c.numbers_broken.ensures ∙ c.if-numbers_broken.false)).readable

pub returns : goal.returns
unfolding held_estimator
returns c = simp (sym c.numbers_broken.ensures ∙ c.if-numbers_broken.false, sym c.durations_broken.ensures ∙ c.if-durations_broken.false, c.estimator_in.ensures)
