use mathlib.Core.Path.{sym, ◌∙◌}
use Rattle.refusal.specs.Clauses.{any_of}
use Rattle.window.proofs.Laws.{or_false_right}
use Rattle.selective_repeat.specs.Receiver.{receiving_broken}
use Rattle.host_drain.proofs.selective_repeat_broken.Goals as goal

pub returns-then-state_broken : goal.returns-then-state_broken
unfolding receiving_broken any_of
returns-then-state_broken c = simp (sym c.state_broken.ensures ∙ c.if-state_broken.true)

pub returns : goal.returns
unfolding receiving_broken any_of
returns c = simp (sym c.state_broken.ensures ∙ c.if-state_broken.false) (sym (or_false_right _))
