use mathlib.Core.Path.{sym}
use Rattle.refusal.proofs.Laws.{held_state, held_counts, held_none}
use Rattle.refusal.proofs.held_verdict.Goals as goal

pub returns-then-state_broken : goal.returns-then-state_broken
returns-then-state_broken c = rw c.if-state_broken.true (sym (held_state _))

pub returns-then-counts_broken : goal.returns-then-counts_broken
returns-then-counts_broken c = rw (c.if-state_broken.false, c.if-counts_broken.true) (sym held_counts)

pub returns : goal.returns
returns c = rw (c.if-state_broken.false, c.if-counts_broken.false) (sym held_none)
