use mathlib.Core.Path.{sym, ◌∙◌}
use Rattle.refusal.specs.Clauses.{any_of}
use Rattle.host_estimator.specs.Words.{durations_broken}
use Rattle.host_estimator.proofs.words.durations_broken.Goals as goal

pub returns-then-duration_broken : goal.returns-then-duration_broken
unfolding durations_broken any_of
returns-then-duration_broken c = simp (sym c.duration_broken.ensures ∙ c.if-duration_broken.true)

pub returns-then-duration_broken-2 : goal.returns-then-duration_broken-2
unfolding durations_broken any_of
returns-then-duration_broken-2 c = simp (sym c.duration_broken.ensures ∙ c.if-duration_broken.false, sym c.duration_broken-2.ensures ∙ c.if-duration_broken-2.true)

pub returns-then-duration_broken-3 : goal.returns-then-duration_broken-3
unfolding durations_broken any_of
returns-then-duration_broken-3 c = simp (sym c.duration_broken.ensures ∙ c.if-duration_broken.false, sym c.duration_broken-2.ensures ∙ c.if-duration_broken-2.false, sym c.duration_broken-3.ensures ∙ c.if-duration_broken-3.true)

pub returns-then-duration_broken-4 : goal.returns-then-duration_broken-4
unfolding durations_broken any_of
returns-then-duration_broken-4 c = simp (sym c.duration_broken.ensures ∙ c.if-duration_broken.false, sym c.duration_broken-2.ensures ∙ c.if-duration_broken-2.false, sym c.duration_broken-3.ensures ∙ c.if-duration_broken-3.false, sym c.duration_broken-4.ensures ∙ c.if-duration_broken-4.true)

pub returns-then-duration_broken-5 : goal.returns-then-duration_broken-5
unfolding durations_broken any_of
returns-then-duration_broken-5 c = simp (sym c.duration_broken.ensures ∙ c.if-duration_broken.false, sym c.duration_broken-2.ensures ∙ c.if-duration_broken-2.false, sym c.duration_broken-3.ensures ∙ c.if-duration_broken-3.false, sym c.duration_broken-4.ensures ∙ c.if-duration_broken-4.false, sym c.duration_broken-5.ensures ∙ c.if-duration_broken-5.true)

pub returns : goal.returns
unfolding durations_broken any_of
returns c = simp (sym c.duration_broken.ensures ∙ c.if-duration_broken.false, sym c.duration_broken-2.ensures ∙ c.if-duration_broken-2.false, sym c.duration_broken-3.ensures ∙ c.if-duration_broken-3.false, sym c.duration_broken-4.ensures ∙ c.if-duration_broken-4.false, sym c.duration_broken-5.ensures ∙ c.if-duration_broken-5.false)
